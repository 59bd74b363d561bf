-- Over a tree that is there in full: which nodes are frames at an address, and in which order (RULES, "Inline
-- tree").
-- Sums are of natural numbers, so none wraps.
-- Assumes nothing.
use Rattle.std.specs.Prelude.{ℕ, ◌+◌, List, [], ◌∷◌, ◌++◌, Bool, false, nat_lt, nat_le, ◌==◌, if◌then◌else◌}
use Rattle.std.specs.List.{list_any}
use Rattle.gsym_types.specs.declared.InlineFrame.{InlineFrame}
use Rattle.gsym_inline.specs.Tree.{Range, Node, Forest, none, tree}

-- a range runs from base plus offset, size bytes long, its end not contained
unfoldable pub in_range : ℕ → ℕ → Range → Bool
in_range addr base r = if nat_le (base + r.off) addr then nat_lt addr (base + r.off + r.size) else false

-- a node contains the address if any of its ranges does
unfoldable pub any_in : ℕ → ℕ → List Range → Bool
any_in addr base rs = list_any (in_range addr base) rs

-- offsets of children count from the first range's start
unfoldable pub first_off : List Range → ℕ
first_off [] = 0
first_off (r ∷ rs) = r.off

abbrev pub child_base : ℕ → Node → ℕ
child_base base n = base + first_off n.ranges

-- a frame by its three numbers
abbrev pub frame : (name file line : ℕ) → InlineFrame
frame name file line = record {
  name = record { 0 = name };
  call_file = record { 0 = file };
  call_line = record { 0 = line };
}

-- a node as a frame
abbrev pub frame_of : Node → InlineFrame
frame_of n = frame n.name n.file n.line

-- its own frame: none where its name is 0
abbrev pub named : Node → List InlineFrame
named n = if n.name == 0 then [] else frame_of n ∷ []

-- the frames of nodes side by side: a node that contains the address before its children, all below it before the next
unfoldable pub frames : ℕ → ℕ → Forest → List InlineFrame
frames addr base none = []
frames addr base (tree n children rest) =
    (if any_in addr base n.ranges then named n ++ frames addr (child_base base n) children else [])
    ++ frames addr base rest
