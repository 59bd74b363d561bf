use Rattle.std.proofs.Common.{◌-◌, length}
use Rattle.gsym_leb128.specs.Begun.{Begun}
use Rattle.gsym_leb128.proofs.rest_of_unsigned.Given as goal

abbrev pub invariant-loop-i : goal.invariant-loop-i
invariant-loop-i l = Begun l.s l.at l.sum l.unit l.i

abbrev pub decreases-loop-i : goal.decreases-loop-i
decreases-loop-i l = length l.s - l.i
