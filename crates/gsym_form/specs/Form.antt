-- What a form gives to be written (RULES, "A file as text" and "Writing a file").
-- Assumes nothing.
use Rattle.std.specs.Prelude.{◌≡◌, ℕ, ◌-◌, ◌&&◌, ◌==◌, List, [], ◌∷◌, Option, Some, None, Ok, Err, Result, map, length}
use Rattle.std.specs.Prelude.{take, drop, nat_le, slice_get, option_map, option_and_then, if◌then◌else◌}
use Rattle.gsym_parser.specs.Items.{ItemData}
use Rattle.gsym_layout.specs.Given.{GivenEntry, Given}
use Rattle.gsym_writer.specs.declared.error.WriteError.{WriteError}
use Rattle.gsym_writer.specs.declared.error.WriteError.TheVariants.{
  NotRising,
  SumTooLarge,
  UnreadName,
  UnreadFile,
  EndItem,
  TooLarge,
  TooLittleRoom,
}
use Rattle.gsym_form.specs.declared.form.Form.{Form}
use Rattle.gsym_form.specs.declared.form.FormEntry.{FormEntry}
use Rattle.gsym_form.specs.declared.form.FormItem.{FormItem}
use Rattle.gsym_form.specs.declared.form.Unmade.{Unmade}
use Rattle.gsym_form.specs.declared.form.Unmade.TheVariants.{Memory, Refused}

-- the part of a list from an index up to another, none where it has none there
unfoldable pub part_of : {A : Type 0} → (first end : ℕ) → List A → List A
part_of first end xs = if nat_le first end && nat_le end (length xs) then take (end - first) (drop first xs) else []

-- the items, and the entries with theirs
abbrev pub item_given : List ℕ → FormItem → ItemData
item_given bytes item = record { kind = item.kind; bytes = part_of item.first item.end bytes }

abbrev pub items_given : Form → List ItemData
items_given f = map (item_given f.bytes.items) f.items.items

abbrev pub entry_given : List ItemData → FormEntry → GivenEntry
entry_given items e = record { addr = e.addr; size = e.size; name = e.name; items = part_of e.first e.end items }

abbrev pub given_by : Form → Given
given_by f = record {
  entries = map (entry_given (items_given f)) f.entries.items;
  tables = record { strings = f.strings.items; files = f.files.items };
}

-- it is written, or refused, as the writer has it, or there was no memory
abbrev pub WrittenAs : Result ℕ Unmade → Result ℕ WriteError → Type 0
WrittenAs (Ok n) r = r ≡ Ok n
WrittenAs (Err Memory) r = Unit {0}
WrittenAs (Err (Refused e)) r = r ≡ Err e

-- the line of the first item of type 0
abbrev pub first_end : List FormItem → Option ℕ
first_end [] = None
first_end (item ∷ items) = if item.kind == 0 then Some item.line else first_end items

abbrev pub end_line : Form → FormEntry → Option ℕ
end_line f e = first_end (part_of e.first e.end f.items.items)

-- the line of the entry, the item or the file that a refusal is about
abbrev pub line_of : Form → WriteError → Option ℕ
line_of f (NotRising i) = option_map (λ (e : FormEntry). e.line) (slice_get f.entries.items i)
line_of f (SumTooLarge i) = option_map (λ (e : FormEntry). e.line) (slice_get f.entries.items i)
line_of f (UnreadName i) = option_map (λ (e : FormEntry). e.line) (slice_get f.entries.items i)
line_of f (UnreadFile i) = slice_get f.file_lines.items i
line_of f (EndItem i) = option_and_then (λ (e : FormEntry). end_line f e) (slice_get f.entries.items i)
line_of f TooLarge = None
line_of f (TooLittleRoom n) = None
