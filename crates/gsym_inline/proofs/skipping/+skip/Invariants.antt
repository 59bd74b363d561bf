use Rattle.std.proofs.Common.{◌+◌, ◌-◌, ◌<◌, ◌≤◌, ◌≡◌, length}
use Rattle.gsym_inline.specs.Skip.{skip_list, skip_node}
use Rattle.gsym_inline.proofs.Skips.{past_list}
use Rattle.gsym_inline.proofs.skipping.+skip.Given as goal

abbrev pub decreases-skip : goal.decreases-skip
decreases-skip l = length l.s.now - l.at

-- the node comes to what the list of its children from here on comes to
abbrev pub invariant-loop-next : goal.invariant-loop-next
invariant-loop-next l =
    (l.at < l.to) × (l.to ≤ length l.s) × (l.level ≤ 64)
    × (skip_node l.s l.level l.at ≡ past_list (skip_list l.s (l.level + 1) l.to))

abbrev pub decreases-loop-next : goal.decreases-loop-next
decreases-loop-next l = length l.s - l.to
