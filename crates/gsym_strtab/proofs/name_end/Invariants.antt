-- `gsym_strtab::name_end`: by the loop's invariant the bytes from `at` to `i` are passed, and the name goes on at `i`.
-- Assumes nothing.
use Rattle.std.proofs.Common.{◌-◌, [], length}
use Rattle.gsym_strtab.specs.Strings.{name_in}
use Rattle.gsym_strtab.proofs.Passing.{Passed}
use Rattle.gsym_strtab.proofs.Names.{named}
use Rattle.gsym_strtab.proofs.name_end.Given as goal

abbrev pub invariant-loop-i : goal.invariant-loop-i
invariant-loop-i l = Passed (name_in l.strings l.at) (named []) l.strings l.at l.i

abbrev pub decreases-loop-i : goal.decreases-loop-i
decreases-loop-i l = length l.strings - l.i
