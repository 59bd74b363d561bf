-- The rows that are left are yet to be put.
-- Assumes nothing.
use Rattle.std.proofs.Common.{drop}
use Rattle.std.specs.List.{flat_map}
use Rattle.gsym_layout.specs.Layout.{row_bytes}
use Rattle.gsym_writer.proofs.Behind.{Puts}
use Rattle.gsym_writer.proofs.put.put_rows.Given as goal

abbrev pub invariant-loop-file : goal.invariant-loop-file
invariant-loop-file l =
    Puts l.fn.out l.out l.fn.at l.place (flat_map row_bytes (drop l.file-index l.files)) (flat_map row_bytes l.files)
