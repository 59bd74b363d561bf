use Rattle.std.proofs.Common.{◌-◌, ◌≤◌, ◌≡◌, length}
use Rattle.gsym_inline.specs.Skip.{skip_list}
use Rattle.gsym_inline.proofs.skipping.skip_all.Given as goal

-- the list comes to what the list from here on comes to
abbrev pub invariant-loop-next : goal.invariant-loop-next
invariant-loop-next l = (l.at ≤ l.to) × (skip_list l.s l.level l.at ≡ skip_list l.s l.level l.to)

abbrev pub decreases-loop-next : goal.decreases-loop-next
decreases-loop-next l = length l.s - l.to
