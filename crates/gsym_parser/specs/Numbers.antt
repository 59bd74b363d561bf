-- The header's numbers (RULES, "Header and tables"). All are little-endian.
--
--   place   bytes    what
--   0       4        magic, 0x4753594d
--   4       2        version, 1
--   6       1        offset size
--   7       1        UUID size, not judged
--   8       8        base address
--   16      4        entry count
--   20      4        string table offset, counted from the file's start
--   24      4        string table size
--   28      20       UUID
--
-- Assumes nothing.
use Rattle.std.specs.Prelude.{ℕ, List, take, drop, slice_index}
use Rattle.std.specs.Int.{w32, w64, from_le_bytes}
use Rattle.gsym_parser.specs.declared.opening.Header.{Header}
use Rattle.gsym_parser.specs.Format.{header_len}

-- those that are kept, of a header's bytes
unfoldable pub numbers_of : List ℕ → Header
numbers_of bytes = record {
  offset_size = slice_index bytes 6;
  base = record { 0 = from_le_bytes w64 (drop 8 bytes) };
  count = from_le_bytes w32 (drop 16 bytes);
  strings_offset = from_le_bytes w32 (drop 20 bytes);
  strings_size = from_le_bytes w32 (drop 24 bytes);
}

-- those of the header that a file begins with
abbrev pub file_header : List ℕ → Header
file_header file = numbers_of (take header_len file)
