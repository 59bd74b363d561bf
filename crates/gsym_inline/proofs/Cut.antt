-- A block that is cut: it is refused as short, or answers as the whole does.
-- Assumes nothing.
use Rattle.std.proofs.Common.{Ok, Err, Result, ℕ, zero, suc, ◌+◌, ◌≤◌, Bool, List, [], ◌++◌, ◌⊎◌, inl, inr}
use Rattle.std.proofs.Common.{◌≡◌, refl, leb, eqb, length, arith, if◌then◌else◌}
use Rattle.std.proofs.lemmas.List.{length-append}
use Rattle.gsym_reads.specs.Steps.{◌>>=◌, given, told}
use Rattle.gsym_reads.specs.Answers.{u8_at, u32_at}
use Rattle.gsym_reads.proofs.Or.{Or, step_or, need_or, pick_or, told_or, given_or}
use Rattle.gsym_reads.proofs.Cut.{u8_cut, u32_cut}
use Rattle.gsym_leb128.specs.declared.Cause.TheVariants.{Short}
use Rattle.gsym_leb128.specs.Answers.{unsigned_at}
use Rattle.gsym_leb128.proofs.Cut.{unsigned_at_cut}
use Rattle.gsym_types.specs.declared.InlineFrame.{InlineFrame}
use Rattle.gsym_types.specs.declared.Refusal.TheVariants.{UnreadInline}
use Rattle.gsym_inline.specs.Limits.{most_file, deepest_level}
use Rattle.gsym_inline.specs.Frames.{any_in, first_off}
use Rattle.gsym_inline.specs.Head.{range_at, ranges_at, rest_at, past_ranges, rest_head, node_head, head_at}
use Rattle.gsym_inline.specs.Judge.{judged_range, judged_ranges, judged_rest, judged_node, judged_at}
use Rattle.gsym_inline.specs.Skip.{past_node, then_skip, skip_within, skip_list}
use Rattle.gsym_inline.specs.Walk.{with_frame, Places, below, open_node, closed_node, walk_from, then_walk}
use Rattle.gsym_inline.specs.Walk.{walk_within, walk_list, walk_node}
use Rattle.gsym_inline.specs.Block.{refusal_of, root_context, block_of}
use Rattle.gsym_inline.specs.Checked.{checked_from, checked_within, checked_list, checked_node, checked_tree}
use Rattle.gsym_inline.specs.Checked.{check_context}
use Rattle.gsym_inline.specs.declared.head.Fault.{Fault}
use Rattle.gsym_inline.specs.declared.head.Fault.TheVariants.{Unread, Level, CallFile}
use Rattle.gsym_inline.specs.declared.head.NodeHead.{NodeHead}
use Rattle.gsym_inline.specs.Inherited.{Inherited}
use Rattle.gsym_inline.specs.declared.head.Head.{Head}
use Rattle.gsym_inline.specs.declared.judge.JudgedNode.{JudgedNode}
use Rattle.gsym_inline.specs.declared.head.Head.TheVariants as head
use Rattle.gsym_inline.specs.declared.skipping.Next.{Next}
use Rattle.gsym_inline.specs.declared.skipping.Next.TheVariants as after

-- short, or the same
abbrev OrShort : {A : Type 0} → Result A Fault → Result A Fault → Type 0
OrShort cut whole = Or (Unread Short) cut whole

abbrev step : {A B : Type 0} (x y : Result A Fault) (f g : A → Result B Fault) → OrShort x y →
    ((a : A) → OrShort (f a) (g a)) → OrShort (x >>= f) (y >>= g)
step x y f g h k = step_or (Unread Short) x y f g h k

module _ (s rest : List ℕ) where
  abbrev whole : List ℕ
  whole = s ++ rest

  -- ---- items

  number : (at : ℕ) → OrShort (told Unread (unsigned_at s at)) (told Unread (unsigned_at whole at))
  number at = told_or Unread Short _ _ (unsigned_at_cut s rest at)

  byte : (at : ℕ) → OrShort (given (Unread Short) (u8_at s at)) (given (Unread Short) (u8_at whole at))
  byte at = given_or (Unread Short) _ _ (u8_cut s rest at)

  word : (at : ℕ) → OrShort (given (Unread Short) (u32_at s at)) (given (Unread Short) (u32_at whole at))
  word at = given_or (Unread Short) _ _ (u32_cut s rest at)

  -- ---- a judged head

  range_cut : (base at : ℕ) → OrShort (judged_range base s at) (judged_range base whole at)
  unfolding judged_range
  range_cut base at =
      step (told Unread (unsigned_at s at)) (told Unread (unsigned_at whole at)) _ _ (number at) (λ off.
      step (told Unread (unsigned_at s off.1)) (told Unread (unsigned_at whole off.1)) _ _ (number off.1) (λ size.
      inr refl))

  ranges_cut : (base count at : ℕ) → OrShort (judged_ranges base count s at) (judged_ranges base count whole at)
  unfolding judged_ranges
  ranges_cut base zero at = inr refl
  ranges_cut base (suc count) at =
      step (judged_range base s at) (judged_range base whole at) _ _ (range_cut base at) (λ r.
      step (judged_ranges base count s r.1) (judged_ranges base count whole r.1) _ _ (ranges_cut base count r.1) (λ rs.
      inr refl))

  rest_cut : (start : ℕ) (inside : Bool) (at : ℕ) →
      OrShort (judged_rest start inside s at) (judged_rest start inside whole at)
  unfolding judged_rest
  rest_cut start inside at =
      step (given (Unread Short) (u8_at s at)) (given (Unread Short) (u8_at whole at)) _ _ (byte at) (λ children.
      step (given (Unread Short) (u32_at s (at + 1))) (given (Unread Short) (u32_at whole (at + 1))) _ _ (word (at + 1))
      (λ name.
      step (told Unread (unsigned_at s (at + 5))) (told Unread (unsigned_at whole (at + 5))) _ _ (number (at + 5))
      (λ file.
      need_or (Unread Short) (leb file.0 most_file) CallFile _ _
      (step (told Unread (unsigned_at s file.1)) (told Unread (unsigned_at whole file.1)) _ _ (number file.1) (λ line.
      inr refl)))))

  judged_cut : (c : Inherited) (at : ℕ) → OrShort (judged_at c s at) (judged_at c whole at)
  unfolding judged_at judged_node
  judged_cut c at =
      step (told Unread (unsigned_at s at)) (told Unread (unsigned_at whole at)) _ _ (number at) (λ count.
      pick_or (Unread Short) (eqb count.0 0) _ _ _ _ (inr refl)
      (step (judged_node c s count.0 count.1) (judged_node c whole count.0 count.1) _ _
      (need_or (Unread Short) (leb c.level deepest_level) Level _ _
      (step (judged_ranges c.base count.0 s count.1) (judged_ranges c.base count.0 whole count.1) _ _
      (ranges_cut c.base count.0 count.1) (λ rs.
      rest_cut (c.base + first_off rs.0) (any_in c.addr c.base rs.0) rs.1)))
      (λ node. inr refl)))

  -- ---- nodes that are passed over

  past_cut : (count at : ℕ) → Or Short (ranges_at count s at) (ranges_at count whole at)
  unfolding ranges_at range_at
  past_cut zero at = inr refl
  past_cut (suc count) at =
      step_or Short (range_at s at) (range_at whole at) _ _
      (step_or Short (unsigned_at s at) (unsigned_at whole at) _ _ (unsigned_at_cut s rest at) (λ off.
      step_or Short (unsigned_at s off.1) (unsigned_at whole off.1) _ _ (unsigned_at_cut s rest off.1) (λ size.
      inr refl)))
      (λ r.
      step_or Short (ranges_at count s r.1) (ranges_at count whole r.1) _ _ (past_cut count r.1) (λ rs. inr refl))

  tail_cut : (at : ℕ) → Or Short (rest_at s at) (rest_at whole at)
  unfolding rest_at
  tail_cut at =
      step_or Short (given Short (u8_at s at)) (given Short (u8_at whole at)) _ _
      (given_or Short _ _ (u8_cut s rest at)) (λ children.
      step_or Short (given Short (u32_at s (at + 1))) (given Short (u32_at whole (at + 1))) _ _
      (given_or Short _ _ (u32_cut s rest (at + 1))) (λ name.
      step_or Short (unsigned_at s (at + 5)) (unsigned_at whole (at + 5)) _ _ (unsigned_at_cut s rest (at + 5)) (λ file.
      step_or Short (unsigned_at s file.1) (unsigned_at whole file.1) _ _ (unsigned_at_cut s rest file.1) (λ line.
      inr refl))))

  head_cut : (level at : ℕ) → OrShort (head_at s level at) (head_at whole level at)
  unfolding head_at node_head past_ranges rest_head
  head_cut level at =
      step (told Unread (unsigned_at s at)) (told Unread (unsigned_at whole at)) _ _ (number at) (λ count.
      pick_or (Unread Short) (eqb count.0 0) _ _ _ _ (inr refl)
      (step (node_head s level count.0 count.1) (node_head whole level count.0 count.1) _ _
      (need_or (Unread Short) (leb level deepest_level) Level _ _
      (step (told Unread (past_ranges count.0 s count.1)) (told Unread (past_ranges count.0 whole count.1)) _ _
      (told_or Unread Short _ _
      (step_or Short (ranges_at count.0 s count.1) (ranges_at count.0 whole count.1) _ _ (past_cut count.0 count.1)
      (λ rs. inr refl)))
      (λ at.
      step (told Unread (rest_at s at)) (told Unread (rest_at whole at)) _ _ (told_or Unread Short _ _ (tail_cut at))
      (λ t. inr refl))))
      (λ h. inr refl)))

  then_skip_cut : (few many : ℕ → Result ℕ Fault) → ((n : ℕ) → OrShort (few n) (many n)) → (o : Next) →
      OrShort (then_skip few o) (then_skip many o)
  unfolding then_skip
  then_skip_cut few many h (after.End n) = inr refl
  then_skip_cut few many h (after.Past n) = h n

  skip_cut : (k m : ℕ) → k ≤ m → (level at : ℕ) → OrShort (skip_within k s level at) (skip_within m whole level at)
  unfolding skip_within past_node
  skip_cut zero m l level at = inl refl
  skip_cut (suc k) zero l level at = absurd (omega arith)
  skip_cut (suc k) (suc m) l level at =
      let below = skip_cut k m (omega arith) in
      step (head_at s level at) (head_at whole level at) _ _ (head_cut level at) (λ h.
      step (past_node (skip_within k s (level + 1)) h) (past_node (skip_within m whole (level + 1)) h) _ _
      (node h (below (level + 1))) (then_skip_cut _ _ (below level)))
    where
      node : (h : Head NodeHead) →
          ((n : ℕ) → OrShort (skip_within k s (level + 1) n) (skip_within m whole (level + 1) n)) →
          OrShort (past_node (skip_within k s (level + 1)) h) (past_node (skip_within m whole (level + 1)) h)
      node (head.End n) f = inr refl
      node (head.Node h) f =
          step _ _ _ _ (pick_or (Unread Short) (eqb h.children 0) _ _ _ _ (inr refl) (f h.next)) (λ n. inr refl)

  -- ---- judged nodes, and their frames

  then_walk_cut :
      (few many : ℕ → List InlineFrame → Places) →
      ((n : ℕ) (acc : List InlineFrame) → OrShort (few n acc) (many n acc)) →
      (o : Next × List InlineFrame) → OrShort (then_walk few o) (then_walk many o)
  unfolding then_walk
  then_walk_cut few many h (after.End n, acc) = inr refl
  then_walk_cut few many h (after.Past n, acc) = h n acc

  -- what was judged and all below it, with readers of lists of which that holds
  from_cut :
      (few many : Inherited → ℕ → List InlineFrame → Places) (past_few past_many : ℕ → Result ℕ Fault) →
      ((c : Inherited) (n : ℕ) (acc : List InlineFrame) → OrShort (few c n acc) (many c n acc)) →
      ((n : ℕ) → OrShort (past_few n) (past_many n)) →
      (c : Inherited) (acc : List InlineFrame) (h : Head JudgedNode) →
      OrShort (walk_from few past_few c acc h) (walk_from many past_many c acc h)
  unfolding walk_from open_node closed_node
  from_cut few many past_few past_many f g c acc (head.End n) = inr refl
  from_cut few many past_few past_many f g c acc (head.Node i) =
      pick_or (Unread Short) i.inside _ _ _ _
      (step (with_frame c.room i.frame acc) (with_frame c.room i.frame acc) _ _ (inr refl) (λ fs.
      step
      (if eqb i.children 0 then Ok (i.next, fs) else few (below c i.base) i.next fs)
      (if eqb i.children 0 then Ok (i.next, fs) else many (below c i.base) i.next fs) _ _
      (pick_or (Unread Short) (eqb i.children 0) _ _ _ _ (inr refl) (f (below c i.base) i.next fs)) (λ p. inr refl)))
      (step
      (if eqb i.children 0 then Ok i.next else past_few i.next)
      (if eqb i.children 0 then Ok i.next else past_many i.next) _ _
      (pick_or (Unread Short) (eqb i.children 0) _ _ _ _ (inr refl) (g i.next)) (λ n. inr refl))

  walk_cut : (k m : ℕ) → k ≤ m → (c : Inherited) (at : ℕ) (acc : List InlineFrame) →
      OrShort (walk_within k s c at acc) (walk_within m whole c at acc)
  unfolding walk_within
  walk_cut zero m l c at acc = inl refl
  walk_cut (suc k) zero l c at acc = absurd (omega arith)
  walk_cut (suc k) (suc m) l c at acc =
      let past = skip_cut k m (omega arith) (c.level + 1) in
      step (judged_at c s at) (judged_at c whole at) _ _ (judged_cut c at) (λ h.
      step
      (walk_from (walk_within k s) (skip_within k s (c.level + 1)) c acc h)
      (walk_from (walk_within m whole) (skip_within m whole (c.level + 1)) c acc h) _ _
      (from_cut (walk_within k s) (walk_within m whole) (skip_within k s (c.level + 1))
      (skip_within m whole (c.level + 1)) (walk_cut k m (omega arith)) past c acc h)
      (then_walk_cut (walk_within k s c) (walk_within m whole c) (walk_cut k m (omega arith) c)))

  turns : suc (length s) ≤ suc (length whole)
  turns = omega (arith, length-append s rest)

  node_cut : (c : Inherited) (at : ℕ) (acc : List InlineFrame) →
      OrShort (walk_node s c at acc) (walk_node whole c at acc)
  unfolding walk_node walk_list skip_list
  node_cut c at acc =
      step (judged_at c s at) (judged_at c whole at) _ _ (judged_cut c at)
      (from_cut (walk_within (suc (length s)) s) (walk_within (suc (length whole)) whole)
      (skip_within (suc (length s)) s (c.level + 1)) (skip_within (suc (length whole)) whole (c.level + 1))
      (walk_cut (suc (length s)) (suc (length whole)) turns)
      (skip_cut (suc (length s)) (suc (length whole)) turns (c.level + 1)) c acc)

  pub block_cut : (symbol addr room : ℕ) →
      (block_of symbol addr room s ≡ Err UnreadInline) ⊎ (block_of symbol addr room s ≡ block_of symbol addr room whole)
  unfolding block_of
  block_cut symbol addr room =
      step_or UnreadInline _ _ _ _
      (told_or refusal_of (Unread Short) _ _ (node_cut (root_context symbol addr room) 0 [])) (λ p. inr refl)

  -- ---- nodes that are all judged

  checked_from_cut :
      (few many : Inherited → ℕ → Result ℕ Fault) → ((c : Inherited) (n : ℕ) → OrShort (few c n) (many c n)) →
      (c : Inherited) (h : Head JudgedNode) → OrShort (checked_from few c h) (checked_from many c h)
  unfolding checked_from
  checked_from_cut few many f c (head.End n) = inr refl
  checked_from_cut few many f c (head.Node i) =
      step
      (if eqb i.children 0 then Ok i.next else few (below c i.base) i.next)
      (if eqb i.children 0 then Ok i.next else many (below c i.base) i.next) _ _
      (pick_or (Unread Short) (eqb i.children 0) _ _ _ _ (inr refl) (f (below c i.base) i.next)) (λ n. inr refl)

  checked_cut : (k m : ℕ) → k ≤ m → (c : Inherited) (at : ℕ) →
      OrShort (checked_within k s c at) (checked_within m whole c at)
  unfolding checked_within
  checked_cut zero m l c at = inl refl
  checked_cut (suc k) zero l c at = absurd (omega arith)
  checked_cut (suc k) (suc m) l c at =
      let further = checked_cut k m (omega arith) in
      step (judged_at c s at) (judged_at c whole at) _ _ (judged_cut c at) (λ h.
      step (checked_from (checked_within k s) c h) (checked_from (checked_within m whole) c h) _ _
      (checked_from_cut (checked_within k s) (checked_within m whole) further c h)
      (then_skip_cut (checked_within k s c) (checked_within m whole c) (further c)))

  pub tree_cut : (symbol : ℕ) →
      (checked_tree symbol s ≡ Err UnreadInline) ⊎ (checked_tree symbol s ≡ checked_tree symbol whole)
  unfolding checked_tree checked_node checked_list
  tree_cut symbol =
      let c = check_context 1 symbol in
      step_or UnreadInline _ _ _ _
      (told_or refusal_of (Unread Short) _ _
      (step (judged_at c s 0) (judged_at c whole 0) _ _ (judged_cut c 0)
      (checked_from_cut (checked_within (suc (length s)) s) (checked_within (suc (length whole)) whole)
      (checked_cut (suc (length s)) (suc (length whole)) turns) c))) (λ p. inr refl)
