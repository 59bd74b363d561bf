-- The call line of a block's frame is below 2^32: a number above becomes 2^32 - 1.
-- Assumes nothing.
use Rattle.std.proofs.Common.{ℕ, zero, suc, ◌+◌, ◌^◌, ◌<◌, Bool, true, false, eqb, leb, List, [], ◌∷◌, ◌++◌, length}
use Rattle.std.proofs.Common.{arith, Ok, Err, Result, if◌then◌else◌}
use Rattle.gsym_reads.specs.Steps.{◌>>=◌, given, told}
use Rattle.gsym_reads.specs.Answers.{u8_at, u32_at}
use Rattle.gsym_reads.proofs.Steps.{through, through_need, by_choice, by_outcome}
use Rattle.gsym_leb128.specs.Answers.{unsigned_at}
use Rattle.gsym_leb128.specs.declared.Cause.TheVariants.{Short}
use Rattle.gsym_types.specs.declared.InlineFrame.{InlineFrame}
use Rattle.gsym_inline.specs.Limits.{most_file, deepest_level}
use Rattle.gsym_inline.specs.Frames.{any_in, first_off}
use Rattle.gsym_inline.specs.Judge.{judged_ranges, judged_rest, judged_node, judged_at}
use Rattle.gsym_inline.specs.Skip.{skip_within, skip_list}
use Rattle.gsym_inline.specs.Walk.{counted, with_frame, below, Places, Walk, open_node, closed_node, walk_from}
use Rattle.gsym_inline.specs.Walk.{then_walk, walk_within, walk_list, walk_node}
use Rattle.gsym_inline.specs.Block.{Block, refusal_of, root_context, block_of}
use Rattle.gsym_inline.specs.Inherited.{Inherited}
use Rattle.gsym_inline.specs.declared.head.Fault.{Fault}
use Rattle.gsym_inline.specs.declared.head.Fault.TheVariants.{Unread, Level, CallFile, Room}
use Rattle.gsym_inline.specs.declared.head.Head.{Head}
use Rattle.gsym_inline.specs.declared.head.Head.TheVariants as head
use Rattle.gsym_inline.specs.declared.judge.JudgedNode.{JudgedNode}
use Rattle.gsym_inline.specs.declared.skipping.Next.{Next}
use Rattle.gsym_inline.specs.declared.skipping.Next.TheVariants as next

-- ---- what is below 2^32

unfoldable pub Capped : List InlineFrame → Type 0
Capped [] = Unit {0}
Capped (f ∷ fs) = (f.call_line.0 < 2 ^ 32) × Capped fs

capped_append : (fs gs : List InlineFrame) → Capped fs → Capped gs → Capped (fs ++ gs)
unfolding Capped
capped_append [] gs p q = q
capped_append (f ∷ fs) gs p q = (p.0, capped_append fs gs p.1 q)

abbrev NodeCapped : Result JudgedNode Fault → Type 0
NodeCapped (Ok node) = node.frame.call_line.0 < 2 ^ 32
NodeCapped (Err f) = Unit {0}

abbrev HeadCapped : Result (Head JudgedNode) Fault → Type 0
HeadCapped (Ok (head.End n)) = Unit {0}
HeadCapped (Ok (head.Node node)) = node.frame.call_line.0 < 2 ^ 32
HeadCapped (Err f) = Unit {0}

abbrev FramesCapped : Result (List InlineFrame) Fault → Type 0
FramesCapped (Ok fs) = Capped fs
FramesCapped (Err f) = Unit {0}

abbrev PlacesCapped : Places → Type 0
PlacesCapped (Ok (n, fs)) = Capped fs
PlacesCapped (Err f) = Unit {0}

abbrev WalkCapped : Walk → Type 0
WalkCapped (Ok (after, fs)) = Capped fs
WalkCapped (Err f) = Unit {0}

abbrev pub BlockCapped : Block → Type 0
BlockCapped (Ok fs) = Capped fs
BlockCapped (Err r) = Unit {0}

-- ---- a head

module _ (s : List ℕ) where
  rest_capped : (start : ℕ) (inside : Bool) (at : ℕ) → NodeCapped (judged_rest start inside s at)
  unfolding judged_rest
  rest_capped start inside at =
      through NodeCapped (given (Unread Short) (u8_at s at)) _ (λ f _. tt) (λ children _.
      through NodeCapped (given (Unread Short) (u32_at s (at + 1))) _ (λ f _. tt) (λ name _.
      through NodeCapped (told Unread (unsigned_at s (at + 5))) _ (λ f _. tt) (λ file _.
      through_need NodeCapped (leb file.0 most_file) CallFile _ tt (λ _.
      through NodeCapped (told Unread (unsigned_at s file.1)) _ (λ f _. tt) (λ line _. omega arith)))))

  node_capped : (c : Inherited) (count at : ℕ) → NodeCapped (judged_node c s count at)
  unfolding judged_node
  node_capped c count at =
      through_need NodeCapped (leb c.level deepest_level) Level _ tt (λ _.
      through NodeCapped (judged_ranges c.base count s at) _ (λ f _. tt) (λ rs _.
      rest_capped (c.base + first_off rs.0) (any_in c.addr c.base rs.0) rs.1))

  head_capped : (c : Inherited) (at : ℕ) → HeadCapped (judged_at c s at)
  unfolding judged_at
  head_capped c at =
      through HeadCapped (told Unread (unsigned_at s at)) _ (λ f _. tt) (λ count _.
      by_choice HeadCapped (eqb count.0 0) _ _ (λ _. tt) (λ _.
      by_outcome HeadCapped NodeCapped (judged_node c s count.0 count.1) _ (node_capped c count.0 count.1)
      (λ f _. tt) (λ node _ l. l)))

-- ---- the walk

counted_capped : (f : InlineFrame) → f.call_line.0 < 2 ^ 32 → Capped (counted f)
unfolding Capped
counted_capped f l = go (eqb f.name.0 0)
  where
    go : (t : Bool) → Capped (if t then [] else f ∷ [])
    go true = tt
    go false = (l, tt)

frame_capped :
    (room : ℕ) (f : InlineFrame) (acc : List InlineFrame) → f.call_line.0 < 2 ^ 32 → Capped acc →
    FramesCapped (with_frame room f acc)
unfolding with_frame
frame_capped room f acc l a =
    through_need FramesCapped (leb (length (acc ++ counted f)) room) Room _ tt
    (λ _. capped_append acc (counted f) a (counted_capped f l))

-- a reader of judged nodes keeps the call lines below
abbrev Keeps : (ℕ → List InlineFrame → Places) → Type 0
Keeps go = (n : ℕ) (acc : List InlineFrame) → Capped acc → PlacesCapped (go n acc)

open_capped :
    (children : ℕ → List InlineFrame → Places) → Keeps children → (room : ℕ) (acc : List InlineFrame) →
    Capped acc → (node : JudgedNode) → node.frame.call_line.0 < 2 ^ 32 → WalkCapped (open_node children room acc node)
unfolding open_node
open_capped children keeps room acc a node l =
    by_outcome WalkCapped FramesCapped (with_frame room node.frame acc) _ (frame_capped room node.frame acc l a)
    (λ f _. tt) (λ fs _ k.
    by_outcome WalkCapped PlacesCapped (if eqb node.children 0 then Ok (node.next, fs) else children node.next fs) _
    (by_choice PlacesCapped (eqb node.children 0) _ _ (λ _. k) (λ _. keeps node.next fs k))
    (λ f _. tt) (λ p _ m. m))

closed_capped :
    (skips : ℕ → Result ℕ Fault) (acc : List InlineFrame) → Capped acc → (node : JudgedNode) →
    WalkCapped (closed_node skips acc node)
unfolding closed_node
closed_capped skips acc a node =
    through WalkCapped (if eqb node.children 0 then Ok node.next else skips node.next) _ (λ f _. tt) (λ n _. a)

from_capped :
    (reads : Inherited → ℕ → List InlineFrame → Places) → ((c : Inherited) → Keeps (reads c)) →
    (skips : ℕ → Result ℕ Fault) (c : Inherited) (acc : List InlineFrame) → Capped acc → (h : Head JudgedNode) →
    HeadCapped (Ok h) → WalkCapped (walk_from reads skips c acc h)
unfolding walk_from
from_capped reads keeps skips c acc a (head.End n) l = a
from_capped reads keeps skips c acc a (head.Node node) l =
    by_choice WalkCapped node.inside _ _
    (λ _. open_capped (reads (below c node.base)) (keeps (below c node.base)) c.room acc a node l)
    (λ _. closed_capped skips acc a node)

then_capped :
    (go : ℕ → List InlineFrame → Places) → Keeps go → (o : Next × List InlineFrame) → WalkCapped (Ok o) →
    PlacesCapped (then_walk go o)
unfolding then_walk
then_capped go keeps (next.End n, acc) a = a
then_capped go keeps (next.Past n, acc) a = keeps n acc a

module _ (s : List ℕ) where
  within_capped : (turns : ℕ) (c : Inherited) → Keeps (walk_within turns s c)
  unfolding walk_within
  within_capped zero c at acc a = tt
  within_capped (suc turns) c at acc a =
      by_outcome PlacesCapped HeadCapped (judged_at c s at) _ (head_capped s c at) (λ f _. tt) (λ h _ l.
      by_outcome PlacesCapped WalkCapped
      (walk_from (walk_within turns s) (skip_within turns s (c.level + 1)) c acc h) _
      (from_capped (walk_within turns s) (within_capped turns) (skip_within turns s (c.level + 1)) c acc a h l)
      (λ f _. tt) (λ o _ m. then_capped (walk_within turns s c) (within_capped turns c) o m))

  list_capped : (c : Inherited) → Keeps (walk_list s c)
  unfolding walk_list
  list_capped c = within_capped (suc (length s)) c

  walk_capped : (c : Inherited) (at : ℕ) (acc : List InlineFrame) → Capped acc → WalkCapped (walk_node s c at acc)
  unfolding walk_node
  walk_capped c at acc a =
      by_outcome WalkCapped HeadCapped (judged_at c s at) _ (head_capped s c at) (λ f _. tt) (λ h _ l.
      from_capped (walk_list s) list_capped (skip_list s (c.level + 1)) c acc a h l)

-- each frame of a block has a call line below 2^32
pub block_capped : (symbol addr room : ℕ) (bytes : List ℕ) → BlockCapped (block_of symbol addr room bytes)
unfolding block_of Capped
block_capped symbol addr room bytes =
    go (walk_node bytes (root_context symbol addr room) 0 [])
    (walk_capped bytes (root_context symbol addr room) 0 [] tt)
  where
    go : (x : Walk) → WalkCapped x → BlockCapped (told refusal_of x >>= λ p. Ok p.1)
    go (Ok (after, fs)) l = l
    go (Err f) l = tt
