-- The addresses of the entries that are left are yet to be put.
-- Assumes nothing.
use Rattle.std.proofs.Common.{drop}
use Rattle.gsym_parser.specs.Search.{width_of}
use Rattle.gsym_layout.specs.Layout.{numbers}
use Rattle.gsym_writer.specs.Parts.{addresses_less}
use Rattle.gsym_writer.specs.View.{entries_view}
use Rattle.gsym_writer.proofs.Behind.{Puts}
use Rattle.gsym_writer.proofs.put.put_addresses.Given as goal

abbrev pub invariant-loop-entry : goal.invariant-loop-entry
invariant-loop-entry l =
    Puts l.fn.out l.out l.fn.at l.place
    (numbers (width_of l.size) (addresses_less l.base.0 (entries_view (drop l.entry-index l.entries))))
    (numbers (width_of l.size) (addresses_less l.base.0 (entries_view l.entries)))
