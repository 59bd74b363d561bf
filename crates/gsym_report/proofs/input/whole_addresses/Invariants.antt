-- The addresses so far and those of the rest are those of all bytes.
use Rattle.std.proofs.Common.{◌≡◌, ◌++◌, ◌/◌, length}
use Rattle.gsym_report.specs.Input.{addresses_at}
use Rattle.gsym_report.proofs.input.whole_addresses.Given as goal

abbrev pub invariant-loop-front : goal.invariant-loop-front
invariant-loop-front l =
    l.list.items ++ addresses_at (length l.rest / 8) l.rest ≡ addresses_at (length l.bytes / 8) l.bytes

abbrev pub decreases-loop-front : goal.decreases-loop-front
decreases-loop-front l = length l.rest
