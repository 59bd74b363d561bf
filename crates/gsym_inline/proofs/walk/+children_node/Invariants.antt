use Rattle.std.proofs.Common.{◌+◌, ◌-◌, ◌*◌, ◌≤◌, ◌≡◌, length}
use Rattle.gsym_inline.specs.Inherited.{inherited_of}
use Rattle.gsym_inline.specs.Walk.{walk_list}
use Rattle.gsym_inline.proofs.walk.+children_node.Given as goal

-- a node reader has the bytes left, a list reader one step more
abbrev pub decreases-children : goal.decreases-children
decreases-children l = 2 * (length l.s.now - l.at) + 1

abbrev pub decreases-node : goal.decreases-node
decreases-node l = 2 * (length l.s.now - l.at)

-- the list comes to what the list from here on comes to, with the frames so far
abbrev pub invariant-children-loop-next : goal.invariant-children-loop-next
invariant-children-loop-next l =
    (l.at ≤ l.to) × (length l.frames.items ≤ l.context.room)
    × (walk_list l.s (inherited_of l.context) l.at l.initial.frames.items
    ≡ walk_list l.s (inherited_of l.context) l.to l.frames.items)

abbrev pub decreases-children-loop-next : goal.decreases-children-loop-next
decreases-children-loop-next l = length l.s - l.to
