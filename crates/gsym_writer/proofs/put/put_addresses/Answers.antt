-- `gsym_writer::put::put_addresses`: an address more.
-- Assumes nothing.
use Rattle.gsym_writer.proofs.Behind.{puts_more}
use Rattle.gsym_writer.proofs.Left.{addresses_more}
use Rattle.gsym_writer.proofs.put.put_addresses.Goals as goal

pub loop-entry-preserved : goal.loop-entry-preserved
loop-entry-preserved c =
    puts_more c.loop-entry.invariant _ _ _ _ c.put_number-place.ensures.next c.put_number-place.ensures.written
    c.put_number-place.ensures.rest c.put_number-place.auto.out
    (rw c.saturating_sub.ensures
    (addresses_more c.args.entries.now c.loop-entry.entry-index c.args.size c.args.base.0 _ c.loop-entry-test.true))
