-- Which frames a block has, by the paths that lead to nodes (RULES, "Inline tree"): exactly the open nodes whose name
-- is not 0, each once, parents before children, siblings in file order, all below one sibling before the next.
-- `ListedPaths` is that sentence.
--
--   Contains xs x  x is an element of the list xs         A ↔ B   each follows from the other
--   Some x, None   there is one, namely x; there is none   A → ⊥   A is false
--
-- Sums are of natural numbers, so none wraps.
-- Assumes nothing.
use Rattle.std.specs.Prelude.{ℕ, zero, suc, ◌+◌, ◌≤◌, ◌<◌, ◌↔◌, ◌≡◌, List, [], ◌∷◌, map, Option, Some, None, option_map}
use Rattle.std.specs.List.{Contains}
use Rattle.gsym_types.specs.declared.InlineFrame.{InlineFrame}
use Rattle.gsym_inline.specs.Tree.{Range, Node, Forest, none, tree}
use Rattle.gsym_inline.specs.Frames.{child_base, frame_of}
use Rattle.gsym_inline.specs.Limits.{most_address, most_file}

-- ---- paths

-- which of the nodes side by side, counted from 0, or a path among the children of that one:
-- `top 2` is the third node, `under 2 (top 0)` its first child
pub data NodePath : Type 0 where
  top : ℕ → NodePath
  under : ℕ → NodePath → NodePath

-- which of the nodes side by side a path leads to or through
abbrev pub first : NodePath → ℕ
first (top i) = i
first (under i p) = i

-- the path to a node's child, its children counted from 0
abbrev pub child : NodePath → ℕ → NodePath
child (top i) k = under i (top k)
child (under i p) k = under i (child p k)

-- the first path leads to the node of the second or to one of its ancestors
abbrev pub UpTo : NodePath → NodePath → Type 0
UpTo (top i) (top j) = i ≡ j
UpTo (top i) (under j q) = i ≡ j
UpTo (under i p) (top j) = ⊥
UpTo (under i p) (under j q) = (i ≡ j) × UpTo p q

-- the level of the node: 1 at the top
abbrev pub level : NodePath → ℕ
level (top i) = 1
level (under i p) = suc (level p)

-- ---- the node at a path

-- a node, and the base that its ranges count from
pub record Placed : Type 0 where
  pub base : ℕ
  pub node : Node

-- the node at a path, if there is one: the top level counts from a given base, children from their parent's first range
unfoldable pub node_at : ℕ → Forest → NodePath → Option Placed
node_at base none p = None
node_at base (tree n children rest) (top zero) = Some (record { base = base; node = n })
node_at base (tree n children rest) (top (suc i)) = node_at base rest (top i)
node_at base (tree n children rest) (under zero p) = node_at (child_base base n) children p
node_at base (tree n children rest) (under (suc i) p) = node_at base rest (under i p)

-- its frame
abbrev pub frame_at : ℕ → Forest → NodePath → Option InlineFrame
frame_at base forest p = option_map (λ x. frame_of x.node) (node_at base forest p)

-- ---- open and judged nodes

-- a node contains the address if one of its ranges does, which runs from base plus offset, size bytes long, its end
-- not contained
pub record ContainsAddress (addr base : ℕ) (n : Node) : Type 0 where
  pub range : Range
  pub own : Contains n.ranges range
  pub start : base + range.off ≤ addr
  pub end : addr < base + range.off + range.size

-- there is a node at the path, and it contains the address
pub record Holds (addr base : ℕ) (forest : Forest) (p : NodePath) : Type 0 where
  pub place : Placed
  pub there : node_at base forest p ≡ Some place
  pub contains : ContainsAddress addr place.base place.node

-- there is a node at the path, and it and all its ancestors contain the address
abbrev pub Open : ℕ → ℕ → Forest → NodePath → Type 0
Open addr base forest p = (q : NodePath) → UpTo q p → Holds addr base forest q

-- judged: nodes of the top level, and the children of open nodes
pub data Judged (addr base : ℕ) (forest : Forest) (p : NodePath) : Type 0 where
  on_top : (i : ℕ) → p ≡ top i → Judged addr base forest p
  of_open : (q : NodePath) (k : ℕ) → p ≡ child q k → Open addr base forest q → Judged addr base forest p

-- ---- which nodes are listed, and in which order

-- there is a node at the path, its name is not 0, and it is open
pub record IsFrame (addr base : ℕ) (forest : Forest) (p : NodePath) : Type 0 where
  pub place : Placed
  pub there : node_at base forest p ≡ Some place
  pub named : place.node.name ≡ 0 → ⊥
  pub opened : Open addr base forest p

-- the order: parents before children; siblings in file order, all below one sibling before the next; and so among the
-- children of one node
pub data Before : NodePath → NodePath → Type 0 where
  parent : {i j : ℕ} {q : NodePath} → i ≡ j → Before (top i) (under j q)
  sibling : {p q : NodePath} → first p < first q → Before p q
  inside : {i j : ℕ} {p q : NodePath} → i ≡ j → Before p q → Before (under i p) (under j q)

-- each path of the list is before all that follow it
unfoldable pub InOrder : List NodePath → Type 0
InOrder [] = Unit {0}
InOrder (p ∷ ps) = ((q : NodePath) → Contains ps q → Before p q) × InOrder ps

-- the paths are exactly those of the open nodes with a name other than 0, and they stand in order
pub record ListedPaths (addr base : ℕ) (forest : Forest) (ps : List NodePath) : Type 0 where
  pub exactly : (p : NodePath) → Contains ps p ↔ IsFrame addr base forest p
  pub order : InOrder ps

-- the frames `fs` are those of the nodes at the paths `ps`, one for each
abbrev pub FramesAt : (base : ℕ) → Forest → List NodePath → List InlineFrame → Type 0
FramesAt base forest ps fs = map (frame_at base forest) ps ≡ map Some fs

-- ---- the conditions on judged nodes and on levels (RULES, "Inline tree")

-- every range of the node starts and ends at most at the largest address, and its call file is at most the limit
pub record NodeFits (base : ℕ) (n : Node) : Type 0 where
  pub starts : (r : Range) → Contains n.ranges r → base + r.off ≤ most_address
  pub ends : (r : Range) → Contains n.ranges r → base + r.off + r.size ≤ most_address
  pub file : n.file ≤ most_file

-- every judged node does so
abbrev pub JudgedFit : ℕ → ℕ → Forest → Type 0
JudgedFit addr base forest =
    (p : NodePath) (x : Placed) → node_at base forest p ≡ Some x → Judged addr base forest p →
    NodeFits x.base x.node

-- every node does so, judged at an address or not
abbrev pub AllFit : ℕ → Forest → Type 0
AllFit base forest = (p : NodePath) (x : Placed) → node_at base forest p ≡ Some x → NodeFits x.base x.node

-- no node stands on a level (any base will do)
abbrev pub NoneOn : ℕ → ℕ → Forest → Type 0
NoneOn l base forest = (p : NodePath) (x : Placed) → node_at base forest p ≡ Some x → level p ≡ l → ⊥

-- no node stands below a level
abbrev pub NoneBelow : ℕ → ℕ → Forest → Type 0
NoneBelow l base forest = (p : NodePath) (x : Placed) → node_at base forest p ≡ Some x → level p ≤ l
