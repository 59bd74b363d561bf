-- The data of the entries that are left are yet to be put.
-- Assumes nothing.
use Rattle.std.proofs.Common.{drop}
use Rattle.gsym_layout.specs.Layout.{data_from}
use Rattle.gsym_writer.specs.View.{entries_view}
use Rattle.gsym_writer.proofs.Behind.{Puts}
use Rattle.gsym_writer.proofs.put.put_all_data.Given as goal

abbrev pub invariant-loop-entry : goal.invariant-loop-entry
invariant-loop-entry l =
    Puts l.fn.out l.out l.fn.at l.place (data_from l.place (entries_view (drop l.entry-index l.entries)))
    (data_from l.fn.at (entries_view l.entries))
