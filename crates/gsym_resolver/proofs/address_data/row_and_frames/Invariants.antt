use Rattle.std.proofs.Common.{◌≡◌, ◌≤◌, true, length}
use Rattle.gsym_inline.specs.Block.{room_of}
use Rattle.gsym_parser.specs.Items.{items_of, items_left}
use Rattle.gsym_resolver.specs.Known.{question, nothing, knowing, read_items}
use Rattle.gsym_resolver.proofs.address_data.row_and_frames.Given as goal

-- the answer is that of the items that are left, with what is known so far
abbrev pub invariant-loop-item : goal.invariant-loop-item
invariant-loop-item l = record {
  fits : length l.frames.items ≤ room_of l.room;
  known :
      read_items (question l.symbol l.addr (room_of l.room) true) (items_of l.bytes) nothing
      ≡ read_items (question l.symbol l.addr (room_of l.room) true) (items_left l.item-iterator)
      (knowing l.row l.frames.items);
}
