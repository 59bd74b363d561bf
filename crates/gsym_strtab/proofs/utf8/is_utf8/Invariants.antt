-- `gsym_strtab::utf8::is_utf8`: the loop's invariant says that all of the bytes are UTF-8 where those from `i` on are.
-- Assumes nothing.
use Rattle.std.proofs.Common.{◌-◌, ◌≡◌, length, drop}
use Rattle.gsym_strtab.specs.Utf8.{utf8}
use Rattle.gsym_strtab.proofs.utf8.is_utf8.Given as goal

abbrev pub invariant-loop-i : goal.invariant-loop-i
invariant-loop-i l = utf8 l.s ≡ utf8 (drop l.i l.s)

abbrev pub decreases-loop-i : goal.decreases-loop-i
decreases-loop-i l = length l.s - l.i
