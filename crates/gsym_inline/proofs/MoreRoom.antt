-- More room changes nothing but 14: a block that is read with less room either has more frames than that, or gives what
-- it gives with more.
-- Assumes nothing.
use Rattle.std.proofs.Common.{Ok, Err, Result, ℕ, zero, suc, ◌+◌, ◌≤◌, Bool, true, false, List, [], ◌++◌, ◌⊎◌, inl, inr}
use Rattle.std.proofs.Common.{⊎_elim, ◌≡◌, refl, leb, eqb, length, arith, le-leb, if◌then◌else◌}
use Rattle.std.proofs.lemmas.Bool.{leb-true}
use Rattle.gsym_reads.specs.Steps.{◌>>◌, need}
use Rattle.gsym_reads.proofs.Or.{Or, step_or, pick_or}
use Rattle.gsym_types.specs.declared.InlineFrame.{InlineFrame}
use Rattle.gsym_inline.specs.Judge.{judged_node, judged_at}
use Rattle.gsym_inline.specs.Skip.{skip_within, skip_list}
use Rattle.gsym_inline.specs.Walk.{counted, with_frame, Places, open_node, closed_node, walk_from, then_walk}
use Rattle.gsym_inline.specs.Walk.{walk_within, walk_list, walk_node}
use Rattle.gsym_types.specs.declared.Refusal.TheVariants.{TooManyFrames}
use Rattle.gsym_inline.specs.Block.{block_of}
use Rattle.gsym_inline.specs.declared.head.Fault.{Fault}
use Rattle.gsym_inline.specs.declared.head.Fault.TheVariants.{Room}
use Rattle.gsym_inline.specs.Inherited.{Inherited}
use Rattle.gsym_inline.specs.declared.head.Head.{Head}
use Rattle.gsym_inline.specs.declared.judge.JudgedNode.{JudgedNode}
use Rattle.gsym_inline.specs.declared.head.Head.TheVariants as head
use Rattle.gsym_inline.specs.declared.skipping.Next.{Next}
use Rattle.gsym_inline.specs.declared.skipping.Next.TheVariants as after

-- no room, or the same
abbrev Or14 : {A : Type 0} → Result A Fault → Result A Fault → Type 0
Or14 less more = Or Room less more

abbrev ctx : (level addr base room : ℕ) → Inherited
ctx level addr base room = record { level = level; addr = addr; base = base; room = room }

module _ (room more : ℕ) (l : room ≤ more) where
  put-room : (f : InlineFrame) (acc : List InlineFrame) →
      Or14 (with_frame room f acc) (with_frame more f acc)
  unfolding with_frame
  put-room f acc = go (leb (length (acc ++ counted f)) room) refl
    where
      go : (b : Bool) → leb (length (acc ++ counted f)) room ≡ b →
          Or14 (need b Room >> Ok (acc ++ counted f))
          (need (leb (length (acc ++ counted f)) more) Room >> Ok (acc ++ counted f))
      go false e = inl refl
      go true e =
          let h = leb-true _ room e in
          inr (rw (le-leb (length (acc ++ counted f)) more (omega arith)) refl)

  -- what was judged and all below it, with `reads` for a list of judged nodes
  head-room :
      (reads : Inherited → ℕ → List InlineFrame → Places) (skips : ℕ → Result ℕ Fault) →
      ((level addr base n : ℕ) (acc : List InlineFrame) →
      Or14 (reads (ctx level addr base room) n acc) (reads (ctx level addr base more) n acc)) →
      (level addr base : ℕ) (acc : List InlineFrame) (v : Head JudgedNode) →
      Or14 (walk_from reads skips (ctx level addr base room) acc v)
      (walk_from reads skips (ctx level addr base more) acc v)
  unfolding walk_from open_node closed_node
  head-room reads skips h level addr base acc (head.End n) = inr refl
  head-room reads skips h level addr base acc (head.Node i) =
      pick_or Room i.inside _ _ _ _
      (step_or Room (with_frame room i.frame acc) (with_frame more i.frame acc) _ _ (put-room i.frame acc)
      (λ fs. step_or Room
      (if eqb i.children 0 then Ok (i.next, fs) else reads (ctx (level + 1) addr i.base room) i.next fs)
      (if eqb i.children 0 then Ok (i.next, fs) else reads (ctx (level + 1) addr i.base more) i.next fs) _ _
      (pick_or Room (eqb i.children 0) _ _ _ _ (inr refl) (h (level + 1) addr i.base i.next fs)) (λ p. inr refl)))
      (inr refl)

  then-room :
      (few many : ℕ → List InlineFrame → Places) →
      ((n : ℕ) (acc : List InlineFrame) → Or14 (few n acc) (many n acc)) →
      (o : Next × List InlineFrame) → Or14 (then_walk few o) (then_walk many o)
  unfolding then_walk
  then-room few many h (after.End n, acc) = inr refl
  then-room few many h (after.Past n, acc) = h n acc

  -- a head is judged without the room
  same-judged : (level addr base : ℕ) (s : List ℕ) (at : ℕ) →
      judged_at (ctx level addr base room) s at ≡ judged_at (ctx level addr base more) s at
  unfolding judged_at judged_node
  same-judged level addr base s at = refl

  list-room : (fuel : ℕ) (s : List ℕ) (level addr base at : ℕ) (acc : List InlineFrame) →
      Or14 (walk_within fuel s (ctx level addr base room) at acc) (walk_within fuel s (ctx level addr base more) at acc)
  unfolding walk_within
  list-room zero s level addr base at acc = inr refl
  list-room (suc fuel) s level addr base at acc =
      step_or Room (judged_at (ctx level addr base room) s at) (judged_at (ctx level addr base more) s at) _ _
      (inr (same-judged level addr base s at))
      (λ v. step_or Room
      (walk_from (walk_within fuel s) (skip_within fuel s (level + 1)) (ctx level addr base room) acc v)
      (walk_from (walk_within fuel s) (skip_within fuel s (level + 1)) (ctx level addr base more) acc v) _ _
      (head-room (walk_within fuel s) (skip_within fuel s (level + 1)) (list-room fuel s) level addr base acc v)
      (then-room (walk_within fuel s (ctx level addr base room)) (walk_within fuel s (ctx level addr base more))
      (list-room fuel s level addr base)))

  node-room : (s : List ℕ) (level addr base at : ℕ) (acc : List InlineFrame) →
      Or14 (walk_node s (ctx level addr base room) at acc) (walk_node s (ctx level addr base more) at acc)
  unfolding walk_node walk_list skip_list
  node-room s level addr base at acc =
      step_or Room (judged_at (ctx level addr base room) s at) (judged_at (ctx level addr base more) s at) _ _
      (inr (same-judged level addr base s at))
      (head-room (walk_within (suc (length s)) s) (skip_within (suc (length s)) s (level + 1))
      (list-room (suc (length s)) s) level addr base acc)

  -- a block
  pub block_more :
      (symbol addr : ℕ) (bytes : List ℕ) →
      (block_of symbol addr room bytes ≡ Err TooManyFrames)
      ⊎ (block_of symbol addr room bytes ≡ block_of symbol addr more bytes)
  unfolding block_of
  block_more symbol addr bytes =
      ⊎_elim
      (λ (e : walk_node bytes (ctx 1 addr symbol room) 0 [] ≡ Err Room). inl (rw e refl))
      (λ (e : walk_node bytes (ctx 1 addr symbol room) 0 [] ≡ walk_node bytes (ctx 1 addr symbol more) 0 []).
      inr (rw e refl))
      (node-room bytes 1 addr symbol 0 [])
