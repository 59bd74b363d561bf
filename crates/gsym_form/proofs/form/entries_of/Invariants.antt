use Rattle.std.proofs.Common.{◌≡◌, ◌++◌, map, drop}
use Rattle.gsym_parser.specs.Items.{item_view}
use Rattle.gsym_writer.specs.View.{entry_view}
use Rattle.gsym_form.specs.Form.{entry_given}
use Rattle.gsym_form.proofs.form.entries_of.Given as goal

-- those that there are, and those of what is left, are all
abbrev pub invariant-loop-entry : goal.invariant-loop-entry
invariant-loop-entry l =
    map entry_view l.list.items ++ map (entry_given (map item_view l.items)) (drop l.entry-index l.entries)
    ≡ map (entry_given (map item_view l.items)) l.entries
