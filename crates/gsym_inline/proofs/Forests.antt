-- The conditions of RULES ("Inline tree") on a tree that is there in full, by recursion on it, and what it gives at an
-- address: its frames, or what comes first in file order.
-- Assumes nothing.
use Rattle.std.specs.Prelude.{
  Ok,
  Result,
  ℕ,
  suc,
  ◌+◌,
  ◌≤◌,
  max,
  Bool,
  true,
  false,
  not,
  List,
  [],
  ◌∷◌,
  ◌≡◌,
  nat_lt,
  nat_le,
  if◌then◌else◌,
}
use Rattle.gsym_reads.specs.Steps.{◌>>=◌, ◌>>◌, need}
use Rattle.gsym_types.specs.declared.InlineFrame.{InlineFrame}
use Rattle.gsym_inline.specs.Limits.{most_address, most_file, deepest_level}
use Rattle.gsym_inline.specs.Tree.{Range, Node, Forest, none, tree}
use Rattle.gsym_inline.specs.Frames.{any_in, child_base, frame_of}
use Rattle.gsym_inline.specs.Walk.{with_frame, below}
use Rattle.gsym_inline.specs.declared.head.Fault.{Fault}
use Rattle.gsym_inline.specs.declared.head.Fault.TheVariants.{Level, Sum, CallFile}
use Rattle.gsym_inline.specs.Inherited.{Inherited}

-- a range whose start or end is above the largest address
unfoldable pub too_large : ℕ → Range → Bool
too_large base r = if nat_lt most_address (base + r.off) then true else nat_lt most_address (base + r.off + r.size)

-- some range is
unfoldable pub any_large : ℕ → List Range → Bool
any_large base [] = false
any_large base (r ∷ rs) = if too_large base r then true else any_large base rs

-- no judged node has a start or an end above the largest address, or a call file above the limit
unfoldable pub Fits : ℕ → ℕ → Forest → Type 0
Fits addr base none = Unit {0}
Fits addr base (tree n children rest) =
    (any_large base n.ranges ≡ false)
    × (n.file ≤ most_file)
    × (any_in addr base n.ranges ≡ true → Fits addr (child_base base n) children)
    × Fits addr base rest

-- how many levels there are
unfoldable pub depth : Forest → ℕ
depth none = 0
depth (tree n children rest) = max (suc (depth children)) (depth rest)

-- nodes that are passed over: whether one of them, or one below them, stands below the deepest level
unfoldable pub deep_in : ℕ → Forest → Bool
deep_in level none = false
deep_in level (tree self children rest) =
    if nat_le level deepest_level then (if deep_in (level + 1) children then true else deep_in level rest) else true

-- a judged node: its level (13), its sums (11), its call file (12)
unfoldable pub node_fits : Inherited → Node → Result (Unit {0}) Fault
node_fits c self = do
  need (nat_le c.level deepest_level) Level
  need (not (any_large c.base self.ranges)) Sum
  need (nat_le self.file most_file) CallFile

-- the context of a node's children
abbrev pub below_node : Inherited → Node → Inherited
below_node c self = below c (child_base c.base self)

-- judged nodes, after the frames so far
unfoldable pub forest_frames : Inherited → Forest → List InlineFrame → Result (List InlineFrame) Fault
forest_frames c none acc = Ok acc
forest_frames c (tree self children rest) acc = do
  node_fits c self
  fs ← if any_in c.addr c.base self.ranges
      then (with_frame c.room (frame_of self) acc >>= forest_frames (below_node c self) children)
      else (need (not (deep_in (c.level + 1) children)) Level >> Ok acc)
  forest_frames c rest fs
