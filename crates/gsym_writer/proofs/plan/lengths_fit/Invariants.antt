-- The items that are left are tested as all are.
-- Assumes nothing.
use Rattle.std.proofs.Common.{◌≡◌, drop, map, length}
use Rattle.std.specs.List.{list_all}
use Rattle.gsym_parser.specs.Items.{ItemData, item_view}
use Rattle.gsym_writer.specs.Writing.{is_of_32}
use Rattle.gsym_writer.proofs.plan.lengths_fit.Given as goal

abbrev pub invariant-loop-item : goal.invariant-loop-item
invariant-loop-item l =
    list_all (λ (item : ItemData). is_of_32 (length item.bytes)) (map item_view (drop l.item-index l.items))
    ≡ list_all (λ (item : ItemData). is_of_32 (length item.bytes)) (map item_view l.items)
