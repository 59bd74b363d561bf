-- What an entry says (RULES, "Header and tables" and "Finding the entry").
--
--   data offset i    4 bytes    where the entry's information stands, counted from the file's start
--   information      4          size
--                    4          name, an offset in the string table
--                               then the items of the address data list
--   file table       per file:  directory 4, file name 4, offsets in the string table
--
-- Assumes nothing.
use Rattle.std.specs.Prelude.{ℕ, ◌+◌, ◌-◌, ◌*◌, ◌%◌, ◌^◌, Bool, true, false, List, Option, Some, drop, ◌==◌, nat_lt}
use Rattle.std.specs.Prelude.{slice_index, if◌then◌else◌}
use Rattle.gsym_reads.specs.Maybe.{◌>>=◌, ◌>>◌, need}
use Rattle.gsym_reads.specs.Fronts.{u32_front}
use Rattle.gsym_types.specs.declared.Address.{Address}
use Rattle.gsym_types.specs.declared.FileIndex.{FileIndex}
use Rattle.gsym_parser.specs.declared.entries.AddrInfo.{AddrInfo}
use Rattle.gsym_parser.specs.declared.entries.FileInfo.{FileInfo}
use Rattle.gsym_parser.specs.View.{View}
use Rattle.gsym_parser.specs.Search.{entries_of}

-- the symbol's address: the base plus the entry, modulo 2^64; an entry that isn't there counts as 0
unfoldable pub symbol_at : View → ℕ → Address
symbol_at v i = record { 0 = (v.tables.base.0 + slice_index (entries_of v) i) % 2 ^ 64 }

-- size and name of an entry, and the bytes after them, to the file's end
pub record EntryInfo : Type 0 where
  pub size : ℕ
  pub name : ℕ
  pub bytes : List ℕ

-- an entry's information without where its bytes lie in memory
abbrev pub info_view : AddrInfo → EntryInfo
info_view a = record { size = a.size; name = a.name.0; bytes = a.«data».now }

-- the data offset of an entry
unfoldable pub offset_at : View → ℕ → Option ℕ
offset_at v i = do
  need (nat_lt i v.tables.count)
  (offset, rest) ← u32_front (drop (v.tables.offsets + i * 4) v.file)
  Some offset

-- the information at a place: fewer than 8 bytes there don't read
unfoldable pub info_in : List ℕ → ℕ → Option EntryInfo
info_in file place = do
  (size, rest) ← u32_front (drop place file)
  (name, bytes) ← u32_front rest
  Some (record { size = size; name = name; bytes = bytes })

-- that of an entry
unfoldable pub info_at : View → ℕ → Option EntryInfo
info_at v i = do
  place ← offset_at v i
  info_in v.file place

-- whether a symbol covers an address: size 0 everything from the symbol's address on
unfoldable pub covered_by : Address → Address → ℕ → Bool
covered_by addr symbol size =
    if nat_lt addr.0 symbol.0 then false else if size == 0 then true else nat_lt (addr.0 - symbol.0) size

-- directory and file name at an index below the file count
unfoldable pub file_at : View → FileIndex → Option FileInfo
file_at v index = do
  need (nat_lt index.0 v.tables.file_count)
  (directory, row) ← u32_front (drop (v.tables.files + index.0 * 8) v.file)
  (filename, rest) ← u32_front row
  Some (record { directory = record { 0 = directory }; filename = record { 0 = filename } })
