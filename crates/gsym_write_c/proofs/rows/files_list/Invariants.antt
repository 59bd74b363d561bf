-- The files so far.
use Rattle.std.proofs.Common.{◌≡◌, map, take}
use Rattle.gsym_write_c.specs.Rows.{file_given}
use Rattle.gsym_write_c.proofs.rows.files_list.Given as goal

abbrev pub invariant-loop-row : goal.invariant-loop-row
invariant-loop-row l = l.list.items ≡ map file_given (take l.row-index l.rows)
