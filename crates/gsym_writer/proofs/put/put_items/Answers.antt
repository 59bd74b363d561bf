-- `gsym_writer::put::put_items`: an item more.
-- Assumes nothing.
use Rattle.gsym_writer.proofs.Behind.{puts_more}
use Rattle.gsym_writer.proofs.Left.{items_more}
use Rattle.gsym_writer.proofs.put.put_items.Goals as goal

pub loop-item-preserved : goal.loop-item-preserved
loop-item-preserved c =
    puts_more c.loop-item.invariant _ _ _ _ c.put_item-place.ensures.next c.put_item-place.ensures.written
    c.put_item-place.ensures.rest c.put_item-place.auto.out
    (items_more c.args.items.now c.loop-item.item-index _ c.loop-item-test.true)
