-- `gsym_writer::judge::judge_rise`: an entry more, one that is not above, and none.
-- Assumes nothing.
use Rattle.std.proofs.Common.{◌∙◌, sym}
use Rattle.gsym_writer.proofs.Left.{no_entry}
use Rattle.gsym_writer.proofs.Judged.{rise_more, rise_fails, rise_end}
use Rattle.gsym_writer.proofs.judge.judge_rise.Goals as goal

pub returns-then-not-is_above : goal.returns-then-not-is_above
returns-then-not-is_above c =
    sym (rise_fails c.loop-entry.before c.args.entries.now c.loop-entry.entry no_entry c.loop-entry-test.true
    (sym c.if-not-is_above.ensures)) ∙ c.loop-entry.invariant

pub loop-entry-preserved : goal.loop-entry-preserved
loop-entry-preserved c =
    sym (rise_more c.loop-entry.before c.args.entries.now c.loop-entry.entry no_entry c.loop-entry-test.true
    (sym c.if-not-is_above.ensures)) ∙ c.loop-entry.invariant

pub returns : goal.returns
returns c =
    sym (rise_end c.loop-entry.before c.args.entries.now c.loop-entry.entry c.loop-entry-test.false)
    ∙ c.loop-entry.invariant
