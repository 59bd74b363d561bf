-- The entries that are left are judged as all are.
-- Assumes nothing.
use Rattle.std.proofs.Common.{◌≡◌, drop}
use Rattle.gsym_writer.specs.declared.error.WriteError.TheVariants.{UnreadName}
use Rattle.gsym_writer.specs.View.{entries_view, view}
use Rattle.gsym_writer.specs.Writing.{all_pass, name_reads}
use Rattle.gsym_writer.proofs.judge.judge_names.Given as goal

abbrev pub invariant-loop-entry : goal.invariant-loop-entry
invariant-loop-entry l =
    all_pass (name_reads (view l.content).tables) UnreadName l.entry (entries_view (drop l.entry l.content.entries.now))
    ≡ all_pass (name_reads (view l.content).tables) UnreadName 0 (view l.content).entries
