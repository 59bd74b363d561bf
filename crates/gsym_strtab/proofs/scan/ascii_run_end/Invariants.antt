-- `gsym_strtab::scan::ascii_run_end`: the loop's invariant says that the bytes from `at` to `i` are from 1 to 7f.
-- Assumes nothing.
use Rattle.std.proofs.Common.{◌-◌, length}
use Rattle.gsym_strtab.specs.Utf8.{range}
use Rattle.gsym_strtab.proofs.Runs.{Skipped}
use Rattle.gsym_strtab.proofs.scan.ascii_run_end.Given as goal

abbrev pub invariant-loop-i : goal.invariant-loop-i
invariant-loop-i l = Skipped (range 1 0x7f) l.s l.at l.i

abbrev pub decreases-loop-i : goal.decreases-loop-i
decreases-loop-i l = length l.s - l.i
