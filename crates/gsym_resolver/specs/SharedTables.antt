-- What all entries share, as a value without places: the string table's bytes, and directory and name of each file
-- (RULES, "Header and tables").
-- Assumes nothing.
use Rattle.std.specs.Prelude.{ℕ, zero, suc, Bool, List, [], ◌∷◌, take, drop, is_some, IsUtf8}
use Rattle.std.specs.Int.{w32, from_le_bytes}
use Rattle.gsym_types.specs.declared.StrOffset.{StrOffset}
use Rattle.gsym_strtab.specs.Strings.{text_in, name_in, EndsBeforeZero}
use Rattle.gsym_parser.specs.View.{View}
use Rattle.gsym_parser.specs.declared.entries.FileInfo.{FileInfo}

pub record SharedTables : Type 0 where
  pub strings : List ℕ
  pub files : List FileInfo

-- the row of the file table that bytes begin with
abbrev pub file_row : List ℕ → FileInfo
file_row bytes = record {
  directory = record { 0 = from_le_bytes w32 (take 4 bytes) };
  filename = record { 0 = from_le_bytes w32 (take 4 (drop 4 bytes)) };
}

-- n rows, one after another
unfoldable pub files_in : ℕ → List ℕ → List FileInfo
files_in zero bytes = []
files_in (suc n) bytes = file_row bytes ∷ files_in n (drop 8 bytes)

-- the tables of an opened file
unfoldable pub shared_tables : View → SharedTables
shared_tables v = record {
  strings = take v.tables.strings.size (drop v.tables.strings.place v.file);
  files = files_in v.tables.file_count (drop v.tables.files v.file);
}

-- whether a string reads, and whether a name does
unfoldable pub reads_text : SharedTables → StrOffset → Bool
reads_text t offset = is_some (text_in t.strings offset.0)

unfoldable pub reads_name : SharedTables → StrOffset → Bool
reads_name t offset = is_some (name_in t.strings offset.0)

-- a string stands at the offset: inside the table, and from there on a zero byte follows, inside it too
pub record HasText (t : SharedTables) (offset : StrOffset) : Type 0 where
  pub len : ℕ
  pub string : EndsBeforeZero (drop offset.0 t.strings) len

-- a name does: a string that is UTF-8
pub record HasName (t : SharedTables) (offset : StrOffset) : Type 0 where
  pub len : ℕ
  pub string : EndsBeforeZero (drop offset.0 t.strings) len
  pub is_utf8 : IsUtf8 (take len (drop offset.0 t.strings))
