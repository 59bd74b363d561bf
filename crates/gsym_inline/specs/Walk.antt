-- Reading judged nodes in one pass: the frames so far go along, and what comes first in reading order ends it (RULES,
-- "Inline tree"). Judged are the root and the children of open nodes; below a closed node all is passed over.
--
-- As in passing over, `walk_list` asks for no number of turns, and is its first node and then the rest (`walk_step`).
-- Assumes nothing.
use Rattle.std.specs.Prelude.{
  Ok,
  Err,
  Result,
  ℕ,
  zero,
  suc,
  ◌+◌,
  List,
  [],
  ◌∷◌,
  ◌++◌,
  ◌≡◌,
  ◌==◌,
  nat_le,
  length,
  if◌then◌else◌,
}
use Rattle.gsym_reads.specs.Steps.{◌>>=◌, ◌>>◌, need}
use Rattle.gsym_types.specs.declared.InlineFrame.{InlineFrame}
use Rattle.gsym_leb128.specs.declared.Cause.TheVariants.{Short}
use Rattle.gsym_inline.specs.Judge.{judged_at}
use Rattle.gsym_inline.specs.Skip.{skip_within, skip_list}
use Rattle.gsym_inline.specs.declared.head.Fault.{Fault}
use Rattle.gsym_inline.specs.declared.head.Fault.TheVariants.{Unread, Room}
use Rattle.gsym_inline.specs.Inherited.{Inherited}
use Rattle.gsym_inline.specs.declared.judge.JudgedNode.{JudgedNode}
use Rattle.gsym_inline.specs.declared.head.Head.{Head}
use Rattle.gsym_inline.specs.declared.head.Head.TheVariants as head
use Rattle.gsym_inline.specs.declared.skipping.Next.{Next}
use Rattle.gsym_inline.specs.declared.skipping.Next.TheVariants as next

-- a frame counts where its name is not 0
abbrev pub counted : InlineFrame → List InlineFrame
counted f = if f.name.0 == 0 then [] else f ∷ []

-- the frames with one more, if there is room for it (14)
unfoldable pub with_frame : ℕ → InlineFrame → List InlineFrame → Result (List InlineFrame) Fault
with_frame room f acc = do
  need (nat_le (length (acc ++ counted f)) room) Room
  Ok (acc ++ counted f)

-- one level down, with offsets that count from `base`
abbrev pub below : Inherited → ℕ → Inherited
below c base = record { level = c.level + 1; addr = c.addr; base = base; room = c.room }

-- what is read: the place after it, or where reading goes on, and the frames so far
abbrev pub Places : Type 0
Places = Result (ℕ × List InlineFrame) Fault

abbrev pub Walk : Type 0
Walk = Result (Next × List InlineFrame) Fault

-- an open node: its frame, and then its children, which `children` reads
unfoldable pub open_node : (ℕ → List InlineFrame → Places) → ℕ → List InlineFrame → JudgedNode → Walk
open_node children room acc node = do
  fs ← with_frame room node.frame acc
  (n, gs) ← if node.children == 0 then Ok (node.next, fs) else children node.next fs
  Ok (next.Past n, gs)

-- a closed node: its children are passed over by `skips`
unfoldable pub closed_node : (ℕ → Result ℕ Fault) → List InlineFrame → JudgedNode → Walk
closed_node skips acc node = do
  n ← if node.children == 0 then Ok node.next else skips node.next
  Ok (next.Past n, acc)

-- what was judged and all below it, with `reads` for a list of judged nodes and `skips` for one that is passed over
unfoldable pub walk_from :
    (Inherited → ℕ → List InlineFrame → Places) → (ℕ → Result ℕ Fault) → Inherited → List InlineFrame →
    Head JudgedNode → Walk
walk_from reads skips c acc (head.End n) = Ok (next.End n, acc)
walk_from reads skips c acc (head.Node node) =
    if node.inside then open_node (reads (below c node.base)) c.room acc node else closed_node skips acc node

-- after one node the list goes on; its end ends it
unfoldable pub then_walk : (ℕ → List InlineFrame → Places) → Next × List InlineFrame → Places
then_walk go (next.End n, acc) = Ok (n, acc)
then_walk go (next.Past n, acc) = go n acc

-- a list of judged nodes from a place on, with the frames so far, in so many turns
unfoldable pub walk_within : ℕ → List ℕ → Inherited → ℕ → List InlineFrame → Places
walk_within zero s c at acc = Err (Unread Short)
walk_within (suc turns) s c at acc = do
  head ← judged_at c s at
  after ← walk_from (walk_within turns s) (skip_within turns s (c.level + 1)) c acc head
  then_walk (walk_within turns s c) after

-- a list of judged nodes from a place on, with the frames so far
unfoldable pub walk_list : List ℕ → Inherited → ℕ → List InlineFrame → Places
walk_list s c at acc = walk_within (suc (length s)) s c at acc

-- one judged node with all below it
unfoldable pub walk_node : List ℕ → Inherited → ℕ → List InlineFrame → Walk
walk_node s c at acc = do
  head ← judged_at c s at
  walk_from (walk_list s) (skip_list s (c.level + 1)) c acc head

-- what a reader answers, with the frames that are in the list afterwards
abbrev pub with_frames : {A : Type 0} → Result A Fault → List InlineFrame → Result (A × List InlineFrame) Fault
with_frames (Ok x) fs = Ok (x, fs)
with_frames (Err f) fs = Err f

-- a frame was added, or there was no room for it; of the list after that nothing is said
abbrev pub Added : Result Unit Fault → List InlineFrame → Result (List InlineFrame) Fault → Type 0
Added (Ok _) fs r = r ≡ Ok fs
Added (Err f) fs r = r ≡ Err f
