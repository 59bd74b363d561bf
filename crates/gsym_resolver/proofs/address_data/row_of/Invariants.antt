use Rattle.std.proofs.Common.{◌≡◌, false}
use Rattle.gsym_parser.specs.Items.{items_of, items_left}
use Rattle.gsym_resolver.specs.Known.{question, nothing, read_items}
use Rattle.gsym_resolver.proofs.address_data.row_of.Given as goal

-- the answer is that of the items that are left
abbrev pub invariant-loop-item : goal.invariant-loop-item
invariant-loop-item l =
    read_items (question l.symbol l.addr 0 false) (items_of l.bytes) nothing
    ≡ read_items (question l.symbol l.addr 0 false) (items_left l.item-iterator) nothing
