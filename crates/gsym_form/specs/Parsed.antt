-- What reading a text gives, as lists (RULES, "A file as text").
-- Assumes nothing.
use Rattle.std.specs.Prelude.{◌≡◌, ℕ, List, map, Result, Ok, Err}
use Rattle.gsym_parser.specs.Items.{ItemData}
use Rattle.gsym_layout.specs.Given.{GivenEntry, Given}
use Rattle.gsym_form.specs.declared.form.Form.{Form}
use Rattle.gsym_form.specs.declared.form.FormEntry.{FormEntry}
use Rattle.gsym_form.specs.declared.form.FormItem.{FormItem}
use Rattle.gsym_form.specs.declared.wrong.Wrong.{Wrong}
use Rattle.gsym_form.specs.declared.wrong.Unread.{Unread}
use Rattle.gsym_form.specs.declared.wrong.Unread.TheVariants.{Memory, Line}
use Rattle.gsym_form.specs.Form.{part_of}
use Rattle.gsym_form.specs.Said.{SaidItem, SaidEntry, Said}

-- a form's lists say it
abbrev pub item_said : List ℕ → FormItem → SaidItem
item_said bytes item = record { kind = item.kind; bytes = part_of item.first item.end bytes; line = item.line }

abbrev pub entry_said : List SaidItem → FormEntry → SaidEntry
entry_said items e = record {
  addr = e.addr;
  size = e.size;
  name = e.name;
  items = part_of e.first e.end items;
  line = e.line;
}

abbrev pub form_said : Form → Said
form_said f = record {
  strings = f.strings.items;
  files = f.files.items;
  file_lines = f.file_lines.items;
  entries = map (entry_said (map (item_said f.bytes.items) f.items.items)) f.entries.items;
}

-- what is said, to be written
abbrev pub item_of : SaidItem → ItemData
item_of item = record { kind = item.kind; bytes = item.bytes }

abbrev pub entry_of : SaidEntry → GivenEntry
entry_of e = record { addr = e.addr; size = e.size; name = e.name; items = map item_of e.items }

abbrev pub given_said : Said → Given
given_said s = record { entries = map entry_of s.entries; tables = record { strings = s.strings; files = s.files } }

-- it is read, or wrong, as the definition has it, or there was no memory
abbrev pub ReadAs : Result Form Unread → Result Said (ℕ × Wrong) → Type 0
ReadAs (Ok f) r = r ≡ Ok (form_said f)
ReadAs (Err Memory) r = Unit {0}
ReadAs (Err (Line n w)) r = r ≡ Err (n, w)
