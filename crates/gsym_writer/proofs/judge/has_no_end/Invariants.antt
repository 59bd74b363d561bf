-- The items that are left are tested as all are; the types of those before are of 32 bits.
-- Assumes nothing.
use Rattle.std.proofs.Common.{◌≡◌, drop, take, map}
use Rattle.std.specs.List.{All, list_all}
use Rattle.gsym_parser.specs.declared.items.Item.{Item}
use Rattle.gsym_parser.specs.Items.{item_view}
use Rattle.gsym_layout.specs.Writable.{IsOf32}
use Rattle.gsym_writer.specs.Writing.{no_end}
use Rattle.gsym_writer.proofs.judge.has_no_end.Given as goal

abbrev pub invariant-loop-item : goal.invariant-loop-item
invariant-loop-item l = record {
  exact : list_all no_end (map item_view (drop l.item-index l.items)) ≡ list_all no_end (map item_view l.items);
  typed : All (λ (item : Item). IsOf32 item.kind) (take l.item-index l.items);
}
