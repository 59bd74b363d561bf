-- The entries that are left are tested as all are.
-- Assumes nothing.
use Rattle.std.proofs.Common.{◌≡◌, drop}
use Rattle.std.specs.List.{list_all}
use Rattle.gsym_writer.specs.View.{entries_view}
use Rattle.gsym_writer.specs.Writing.{lengths_fit}
use Rattle.gsym_writer.proofs.plan.all_lengths_fit.Given as goal

abbrev pub invariant-loop-entry : goal.invariant-loop-entry
invariant-loop-entry l =
    list_all lengths_fit (entries_view (drop l.entry-index l.entries))
    ≡ list_all lengths_fit (entries_view l.entries)
