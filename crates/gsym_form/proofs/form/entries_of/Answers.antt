-- `gsym_form::form::entries_of`: one entry more.
-- Assumes nothing.
use Rattle.gsym_form.proofs.Parts.{entries_next}
use Rattle.gsym_form.proofs.form.entries_of.Goals as goal

pub loop-entry-preserved : goal.loop-entry-preserved
loop-entry-preserved c =
    entries_next c.args.items.now c.args.entries.now c.loop-entry.entry-index _ c.loop-entry.list.items
    c.push.new.self.items c.part.result c.loop-entry-test.true c.part.ensures c.in_ok-push.ensures.items
    c.loop-entry.invariant
