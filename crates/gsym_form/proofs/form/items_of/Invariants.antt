use Rattle.std.proofs.Common.{◌≡◌, ◌++◌, map, drop}
use Rattle.gsym_parser.specs.Items.{item_view}
use Rattle.gsym_form.specs.Form.{item_given}
use Rattle.gsym_form.proofs.form.items_of.Given as goal

-- those that there are, and those of what is left, are all
abbrev pub invariant-loop-item : goal.invariant-loop-item
invariant-loop-item l =
    map item_view l.list.items ++ map (item_given l.bytes) (drop l.item-index l.items)
    ≡ map (item_given l.bytes) l.items
