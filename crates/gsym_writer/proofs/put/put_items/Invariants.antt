-- The items that are left are yet to be put.
-- Assumes nothing.
use Rattle.std.proofs.Common.{map, drop}
use Rattle.std.specs.List.{flat_map}
use Rattle.gsym_parser.specs.Items.{item_view}
use Rattle.gsym_layout.specs.Layout.{item_bytes}
use Rattle.gsym_writer.proofs.Behind.{Puts}
use Rattle.gsym_writer.proofs.put.put_items.Given as goal

abbrev pub invariant-loop-item : goal.invariant-loop-item
invariant-loop-item l =
    Puts l.fn.out l.out l.fn.at l.place (flat_map item_bytes (map item_view (drop l.item-index l.items)))
    (flat_map item_bytes (map item_view l.items))
