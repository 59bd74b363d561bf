-- What rows of a C host give (RULES, "Writing a file"): the items follow one another in the order of the entries, and
-- their bytes in the order of the items.
-- Assumes nothing.
use Rattle.std.specs.Prelude.{ℕ, ◌==◌, ◌&&◌, Bool, List, [], ◌∷◌, map, length, take, drop, sum_by}
use Rattle.std.specs.Prelude.{Option, Some, None, if◌then◌else◌}
use Rattle.gsym_parser.specs.declared.entries.FileInfo.{FileInfo}
use Rattle.gsym_parser.specs.Items.{ItemData}
use Rattle.gsym_layout.specs.Given.{GivenEntry, Given}
use Rattle.gsym_write_c.specs.declared.GsymEntry.{GsymEntry}
use Rattle.gsym_write_c.specs.declared.GsymFile.{GsymFile}
use Rattle.gsym_write_c.specs.declared.GsymItem.{GsymItem}

-- all that a host gives
pub record Rows : Type 0 where
  pub entries : List GsymEntry
  pub items : List GsymItem
  pub bytes : List ℕ
  pub files : List GsymFile
  pub strings : List ℕ

abbrev pub rows_of : List GsymEntry → List GsymItem → List ℕ → List GsymFile → List ℕ → Rows
rows_of entries items bytes files strings =
    record { entries = entries; items = items; bytes = bytes; files = files; strings = strings }

-- the items of rows: each has the next of the bytes
unfoldable pub items_given : List GsymItem → List ℕ → List ItemData
items_given [] bytes = []
items_given (row ∷ rows) bytes =
    record { kind = row.kind; bytes = take row.len bytes } ∷ items_given rows (drop row.len bytes)

-- an entry with these items
abbrev pub entry_given : GsymEntry → List ItemData → GivenEntry
entry_given row items =
    record { addr = record { 0 = row.addr }; size = row.size; name = record { 0 = row.name }; items = items }

-- the entries of rows: each has the next of the items
unfoldable pub entries_given : List GsymEntry → List ItemData → List GivenEntry
entries_given [] items = []
entries_given (row ∷ rows) items = entry_given row (take row.items items) ∷ entries_given rows (drop row.items items)

abbrev pub file_given : GsymFile → FileInfo
file_given row = record { directory = record { 0 = row.directory }; filename = record { 0 = row.filename } }

abbrev pub given_of : Rows → Given
given_of r = record {
  entries = entries_given r.entries (items_given r.items r.bytes);
  tables = record { strings = r.strings; files = map file_given r.files };
}

-- whether the entries have so many items, and the items so many bytes
abbrev pub items_come_out : List GsymEntry → ℕ → Bool
items_come_out rows count = sum_by (λ (e : GsymEntry). e.items) rows == count

abbrev pub bytes_come_out : List GsymItem → ℕ → Bool
bytes_come_out rows count = sum_by (λ (i : GsymItem). i.len) rows == count

-- whether items and bytes come out as the rows say
abbrev pub come_out : Rows → Bool
come_out r = items_come_out r.entries (length r.items) && bytes_come_out r.items (length r.bytes)

-- what the rows give; nothing where they don't come out
abbrev pub rows_given : Rows → Option Given
rows_given r = if come_out r then Some (given_of r) else None
