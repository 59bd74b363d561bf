-- The entries that are left are judged as all are.
-- Assumes nothing.
use Rattle.std.proofs.Common.{◌≡◌, None, drop}
use Rattle.gsym_writer.specs.View.{entries_view}
use Rattle.gsym_writer.specs.Writing.{rising}
use Rattle.gsym_writer.proofs.judge.judge_rise.Given as goal

abbrev pub invariant-loop-entry : goal.invariant-loop-entry
invariant-loop-entry l =
    rising l.before l.entry (entries_view (drop l.entry l.entries)) ≡ rising None 0 (entries_view l.entries)
