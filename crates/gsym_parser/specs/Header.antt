-- Opening a file: what is judged, in order, and where the tables stand (RULES, "Header and tables").
--
--   place   bytes                  what
--   0       48                     the header
--   48      count · offset size    address table
--           0 to 3                 skipped, up to a place divisible by 4
--           count · 4              data offsets
--           4                      file count
--           files · 8              file table: directory, file name
--
-- Assumes nothing.
use Rattle.std.specs.Prelude.{ℕ, ◌+◌, ◌*◌, List, Result, Ok, length, ◌==◌, nat_le}
use Rattle.std.specs.Int.{next_multiple_of}
use Rattle.gsym_reads.specs.Steps.{◌>>=◌, ◌>>◌, need, given}
use Rattle.gsym_reads.specs.Answers.{u16_at, u32_at}
use Rattle.gsym_types.specs.declared.Refusal.{Refusal}
use Rattle.gsym_types.specs.declared.Refusal.TheVariants.{TooFewBytes, WrongMagic, WrongVersion}
use Rattle.gsym_parser.specs.declared.Tables.{Tables}
use Rattle.gsym_parser.specs.declared.opening.Header.{Header}
use Rattle.gsym_parser.specs.View.{View}
use Rattle.gsym_parser.specs.Format.{magic_number, version_number, header_len}
use Rattle.gsym_parser.specs.Numbers.{file_header}
pub use Rattle.gsym_parser.specs.Within.{Within}

-- where the data offsets, the file count and the file table stand
abbrev pub offsets_place : Header → ℕ
offsets_place h = next_multiple_of (header_len + h.count * h.offset_size) 4

abbrev pub file_count_place : Header → ℕ
file_count_place h = offsets_place h + h.count * 4

abbrev pub files_place : Header → ℕ
files_place h = file_count_place h + 4

-- the tables, where the file count is n
abbrev pub tables_with : Header → ℕ → Tables
tables_with h n = record {
  offset_size = h.offset_size;
  base = h.base;
  count = h.count;
  addrs = header_len;
  offsets = offsets_place h;
  file_count = n;
  files = files_place h;
  strings = record { place = h.strings_offset; size = h.strings_size };
}

-- the tables, where each lies in the file; else too few bytes are there
unfoldable pub tables_of : List ℕ → Header → Result Tables Refusal
tables_of file h = do
  file_count ← given TooFewBytes (u32_at file (file_count_place h))
  need (nat_le (files_place h + file_count * 8) (length file)) TooFewBytes
  need (nat_le (h.strings_offset + h.strings_size) (length file)) TooFewBytes
  Ok (tables_with h file_count)

-- magic is judged once 4 bytes are there, version once 6 are, all else once the header is
unfoldable pub opened_of : List ℕ → Result View Refusal
opened_of file = do
  magic ← given TooFewBytes (u32_at file 0)
  need (magic == magic_number) WrongMagic
  version ← given TooFewBytes (u16_at file 4)
  need (version == version_number) WrongVersion
  need (nat_le header_len (length file)) TooFewBytes
  tables ← tables_of file (file_header file)
  Ok (record { file = file; tables = tables })
