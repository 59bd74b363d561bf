use Rattle.std.proofs.Common.{◌-◌, ◌<◌, ◌≤◌, ◌≡◌, length}
use Rattle.gsym_inline.specs.Walk.{below}
use Rattle.gsym_inline.specs.Checked.{checked_list, checked_node}
use Rattle.gsym_inline.specs.Inherited.{inherited_of}
use Rattle.gsym_inline.proofs.Skips.{past_list}
use Rattle.gsym_inline.proofs.checking.+check_node.Given as goal

abbrev pub decreases-check_node : goal.decreases-check_node
decreases-check_node l = length l.s.now - l.at

-- the node comes to what the list of its children from here on comes to
abbrev pub invariant-loop-next : goal.invariant-loop-next
invariant-loop-next l =
    (l.at < l.to) × (l.to ≤ length l.s) × (l.context.level ≤ 64)
    × (checked_node l.s (inherited_of l.context) l.at
    ≡ past_list (checked_list l.s (below (inherited_of l.context) l.base) l.to))

abbrev pub decreases-loop-next : goal.decreases-loop-next
decreases-loop-next l = length l.s - l.to
