-- The length so far and that of the items that are left come to that of all.
-- Assumes nothing.
use Rattle.std.proofs.Common.{◌≡◌, ◌+◌, ◌≤◌, drop, map}
use Rattle.gsym_inline.specs.Limits.{most_address}
use Rattle.gsym_parser.specs.Items.{item_view}
use Rattle.gsym_writer.specs.Ends.{items_len, told_len}
use Rattle.gsym_writer.proofs.plan.data_len.Given as goal

abbrev pub invariant-loop-item : goal.invariant-loop-item
invariant-loop-item l = record {
  told : told_len (l.len + items_len (map item_view (drop l.item-index l.items)))
      ≡ told_len (16 + items_len (map item_view l.items));
  within : l.len ≤ most_address;
}
