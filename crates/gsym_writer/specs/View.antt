-- What is given, without where it lies in memory (RULES, "Writing a file").
-- Assumes nothing.
use Rattle.std.specs.Prelude.{List, map}
use Rattle.gsym_parser.specs.Items.{item_view}
use Rattle.gsym_layout.specs.Given.{GivenEntry, Given}
use Rattle.gsym_layout.specs.Layout as layout
use Rattle.gsym_writer.specs.declared.Content.{Content}
use Rattle.gsym_writer.specs.declared.Entry.{Entry}
use Rattle.gsym_writer.specs.declared.plan.Head.{Head}

abbrev pub entry_view : Entry → GivenEntry
entry_view e = record { addr = e.addr; size = e.size; name = e.name; items = map item_view e.items.now }

abbrev pub entries_view : List Entry → List GivenEntry
entries_view es = map entry_view es

abbrev pub view : Content → Given
view c = record {
  entries = entries_view c.entries.now;
  tables = record { strings = c.strings.now; files = c.files.now };
}

abbrev pub head_view : Head → layout.Head
head_view h = record {
  offset_size = h.offset_size;
  base = h.base;
  count = h.count;
  strings_place = h.strings_place;
  strings_size = h.strings_size;
}
