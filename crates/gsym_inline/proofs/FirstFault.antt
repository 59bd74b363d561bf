-- A block that doesn't read is refused with the first fault in reading order (RULES, "Refusal numbers" and "Inline
-- tree").
-- Assumes nothing.
use Rattle.std.proofs.Common.{Ok, Err, ℕ, ◌<◌, ◌≤◌, Bool, true, false, List, [], ◌∷◌, ◌++◌, ◌↔◌, ◌≡◌, refl, sym, ap}
use Rattle.std.proofs.Common.{subst, ◌∙◌, leb, eqb, cond, length, append_assoc, append-nil, length-append, arith}
use Rattle.std.proofs.Common.{eq-eqb}
use Rattle.std.proofs.lemmas.Bool.{leb-true, leb-false}
use Rattle.gsym_reads.specs.Steps.{◌>>◌, need}
use Rattle.gsym_types.specs.declared.InlineFrame.{InlineFrame}
use Rattle.gsym_leb128.specs.declared.Cause.TheVariants.{Short, Wide}
use Rattle.gsym_inline.specs.Tree.{Node}
use Rattle.gsym_inline.specs.Frames.{frame_of, named, frames}
use Rattle.gsym_inline.specs.Limits.{most_address, most_file, deepest_level}
use Rattle.gsym_inline.specs.Block.{Block, block_of}
use Rattle.gsym_inline.specs.Reads.{Reads}
use Rattle.gsym_inline.specs.Steps.{Step, read, unread, stands, starts, ends, calls, opens, steps_of}
use Rattle.gsym_inline.specs.FirstFault.{frames_among, Refuses, NoFault, FirstFault}
use Rattle.gsym_types.specs.declared.Refusal.{Refusal}
use Rattle.gsym_types.specs.declared.Refusal.TheVariants.{UnreadInline, InlineSumTooLarge, CallFileTooLarge, TooDeep}
use Rattle.gsym_types.specs.declared.Refusal.TheVariants.{TooWide}
use Rattle.gsym_types.specs.declared.Refusal.TheVariants.{TooManyFrames}
use Rattle.gsym_inline.proofs.Numbers.{never}
use Rattle.gsym_inline.proofs.Listing.{lists, reads, refuses}
use Rattle.gsym_inline.proofs.StepsHeads.{no, outcome}
use Rattle.gsym_inline.proofs.StepsWalk.{block-steps}

abbrev ok_list : List InlineFrame → Block
ok_list fs = Ok fs

-- ---- one step

-- the frames of one step
shows : Step → List InlineFrame
shows (read i v) = []
shows (unread i k) = []
shows (stands n) = []
shows (starts v) = []
shows (ends v) = []
shows (calls v) = []
shows (opens self) = named self

frames-more : (x : Step) (xs : List Step) → frames_among (x ∷ xs) ≡ shows x ++ frames_among xs
unfolding frames_among shows
frames-more (read i v) xs = refl
frames-more (unread i k) xs = refl
frames-more (stands n) xs = refl
frames-more (starts v) xs = refl
frames-more (ends v) xs = refl
frames-more (calls v) xs = refl
frames-more (opens self) xs = refl

-- it is refused and ends the reading, or is not and the reading goes on
data Turn (room : ℕ) (acc : List InlineFrame) (x : Step) : Type 0 where
  halts :
      (e : Refusal) → Refuses room acc x e → ((xs : List Step) → outcome room acc (x ∷ xs) ≡ no e) →
      Turn room acc x
  goes :
      ((e : Refusal) → Refuses room acc x e → ⊥) →
      ((xs : List Step) → outcome room acc (x ∷ xs) ≡ outcome room (acc ++ shows x) xs) → Turn room acc x

module _ (room : ℕ) (acc : List InlineFrame) where
  same-frames : (xs : List Step) → outcome room acc xs ≡ outcome room (acc ++ []) xs
  same-frames xs = ap (λ (fs : List InlineFrame). outcome room fs xs) (sym (append-nil acc))

  -- a step that is refused with `why` where `limit` is below `v`
  by-test :
      (x : Step) (limit v : ℕ) (why : Refusal) → ((e : Refusal) → Refuses room acc x e → limit < v) →
      (limit < v → Refuses room acc x why) →
      ((xs : List Step) →
      outcome room acc (x ∷ xs) ≡ need (leb v limit) why >> outcome room (acc ++ shows x) xs) →
      Turn room acc x
  by-test x limit v why sound full says = by (leb v limit) refl
    where
      by : (t : Bool) → leb v limit ≡ t → Turn room acc x
      by false p = halts why (full (leb-false v limit p)) (λ xs. rw p at (says xs))
      by true p =
          goes (λ e h. let l = leb-true v limit p in absurd (omega (arith, sound e h))) (λ xs. rw p at (says xs))

  turn : (x : Step) → Turn room acc x
  unfolding outcome shows Refuses
  turn (read i v) = goes (λ e h. h) same-frames
  turn (unread i Short) = halts UnreadInline refl (λ xs. refl)
  turn (unread i Wide) = halts TooWide refl (λ xs. refl)
  turn (stands n) =
      by-test (stands n) deepest_level n TooDeep (λ e h. h.1) (λ l. (refl, l))
      (λ xs. ap (λ (b : Block). need (leb n deepest_level) TooDeep >> b) (same-frames xs))
  turn (starts v) =
      by-test (starts v) most_address v InlineSumTooLarge (λ e h. h.1) (λ l. (refl, l))
      (λ xs. ap (λ (b : Block). need (leb v most_address) InlineSumTooLarge >> b) (same-frames xs))
  turn (ends v) =
      by-test (ends v) most_address v InlineSumTooLarge (λ e h. h.1) (λ l. (refl, l))
      (λ xs. ap (λ (b : Block). need (leb v most_address) InlineSumTooLarge >> b) (same-frames xs))
  turn (calls v) =
      by-test (calls v) most_file v CallFileTooLarge (λ e h. h.1) (λ l. (refl, l))
      (λ xs. ap (λ (b : Block). need (leb v most_file) CallFileTooLarge >> b) (same-frames xs))
  turn (opens self) =
      by-test (opens self) room (length (acc ++ named self)) TooManyFrames (λ e h. h.1) (λ l. (refl, l)) (λ xs. refl)

  -- with no second refusal
  refusal-unique : (x : Step) (e n : Refusal) → Refuses room acc x e → Refuses room acc x n → e ≡ n
  unfolding Refuses
  refusal-unique (read i v) e n p q = absurd p
  refusal-unique (unread i Short) e n p q = cc
  refusal-unique (unread i Wide) e n p q = cc
  refusal-unique (stands v) e n p q = p.0 ∙ sym q.0
  refusal-unique (starts v) e n p q = p.0 ∙ sym q.0
  refusal-unique (ends v) e n p q = p.0 ∙ sym q.0
  refusal-unique (calls v) e n p q = p.0 ∙ sym q.0
  refusal-unique (opens v) e n p q = p.0 ∙ sym q.0

-- ---- steps that come after frames

NoFaultFrom : ℕ → List InlineFrame → List Step → Type 0
NoFaultFrom room acc steps =
    (before : List Step) (x : Step) (after : List Step) (e : Refusal) → steps ≡ before ++ (x ∷ after) →
    Refuses room (acc ++ frames_among before) x e → ⊥

record FaultFrom (room : ℕ) (acc : List InlineFrame) (steps : List Step) (e : Refusal) : Type 0 where
  before : List Step
  step : Step
  after : List Step
  split : steps ≡ before ++ (step ∷ after)
  fault : Refuses room (acc ++ frames_among before) step e
  first : NoFaultFrom room acc before

-- frames of one step more
module _ (room : ℕ) (acc : List InlineFrame) (x : Step) where
  regroup : (xs : List Step) → (acc ++ shows x) ++ frames_among xs ≡ acc ++ frames_among (x ∷ xs)
  regroup xs =
      append_assoc acc (shows x) (frames_among xs)
      ∙ ap (λ (fs : List InlineFrame). acc ++ fs) (sym (frames-more x xs))

  -- a step that is not refused, in front of steps that are not
  no-fault-more :
      (xs : List Step) → ((e : Refusal) → Refuses room acc x e → ⊥) → NoFaultFrom room (acc ++ shows x) xs →
      NoFaultFrom room acc (x ∷ xs)
  unfolding NoFaultFrom frames_among
  no-fault-more xs h k [] y after e p r =
      let q : x ≡ y = cc in
      h e (subst (λ (fs : List InlineFrame). Refuses room fs x e) (append-nil acc)
      (subst (λ (z : Step). Refuses room (acc ++ []) z e) (sym q) r))
  no-fault-more xs h k (z ∷ before) y after e p r =
      let q : x ≡ z = cc in
      let u : xs ≡ before ++ (y ∷ after) = cc in
      k before y after e u
      (subst (λ (fs : List InlineFrame). Refuses room fs y e) (sym (regroup before))
      (subst (λ (w : Step). Refuses room (acc ++ frames_among (w ∷ before)) y e) (sym q) r))

-- ---- what the steps come to

Settled : ℕ → List InlineFrame → List Step → Block → Type 0
Settled room acc steps (Ok fs) = NoFaultFrom room acc steps × (fs ≡ acc ++ frames_among steps)
Settled room acc steps (Err e) = FaultFrom room acc steps e

none_at_all : (room : ℕ) (acc : List InlineFrame) → NoFaultFrom room acc []
unfolding NoFaultFrom
none_at_all room acc [] x after e p r = never (let z : ◌≡◌ {A = ℕ} 0 1 = cc in z)
none_at_all room acc (y ∷ before) x after e p r = never (let z : ◌≡◌ {A = ℕ} 0 1 = cc in z)

module _ (room : ℕ) (acc : List InlineFrame) (x : Step) (xs : List Step)
    (h : (e : Refusal) → Refuses room acc x e → ⊥) where
  settled-more : (b : Block) → Settled room (acc ++ shows x) xs b → Settled room acc (x ∷ xs) b
  unfolding Settled
  settled-more (Ok fs) S = (no-fault-more room acc x xs h S.0, S.1 ∙ regroup room acc x xs)
  settled-more (Err e) S = record {
    before = x ∷ S.before;
    step = S.step;
    after = S.after;
    split = ap (λ (l : List Step). x ∷ l) S.split;
    fault = subst (λ (fs : List InlineFrame). Refuses room fs S.step e) (regroup room acc x S.before) S.fault;
    first = no-fault-more room acc x S.before h S.first;
  }

settles : (room : ℕ) (acc : List InlineFrame) (xs : List Step) → Settled room acc xs (outcome room acc xs)
unfolding outcome Settled frames_among
settles room acc [] = (none_at_all room acc, sym (append-nil acc))
settles room acc (x ∷ xs) = by (turn room acc x) (settles room (acc ++ shows x) xs)
  where
    by :
        Turn room acc x → Settled room (acc ++ shows x) xs (outcome room (acc ++ shows x) xs) →
        Settled room acc (x ∷ xs) (outcome room acc (x ∷ xs))
    by (halts e r s) S =
        subst (Settled room acc (x ∷ xs)) (sym (s xs))
        (record {
          before = [];
          step = x;
          after = xs;
          split = refl;
          fault = subst (λ (fs : List InlineFrame). Refuses room fs x e) (sym (append-nil acc)) r;
          first = none_at_all room acc;
        })
    by (goes h s) S =
        subst (Settled room acc (x ∷ xs)) (sym (s xs))
        (settled-more room acc x xs h (outcome room (acc ++ shows x) xs) S)

-- steps up to the first that is refused come to its refusal
module _ (room : ℕ) (x : Step) (after : List Step) (e : Refusal) where
  halts_at : (acc : List InlineFrame) → Refuses room acc x e → outcome room acc (x ∷ after) ≡ no e
  halts_at acc r = by (turn room acc x)
    where
      by : Turn room acc x → outcome room acc (x ∷ after) ≡ no e
      by (halts n q s) = s after ∙ ap no (refusal-unique room acc x n e q r)
      by (goes h s) = absurd (h e r)

  comes-to :
      (acc : List InlineFrame) (before : List Step) → Refuses room (acc ++ frames_among before) x e →
      NoFaultFrom room acc before → outcome room acc (before ++ (x ∷ after)) ≡ no e
  unfolding frames_among NoFaultFrom
  comes-to acc [] r k = halts_at acc (subst (λ (fs : List InlineFrame). Refuses room fs x e) (append-nil acc) r)
  comes-to acc (y ∷ before) r k =
      by (turn room acc y)
      (comes-to (acc ++ shows y) before
      (subst (λ (fs : List InlineFrame). Refuses room fs x e) (sym (regroup room acc y before)) r)
      (λ b z a n p q. k (y ∷ b) z a n (ap (λ (l : List Step). y ∷ l) p)
      (subst (λ (fs : List InlineFrame). Refuses room fs z n) (regroup room acc y b) q)))
    where
      by :
          Turn room acc y → outcome room (acc ++ shows y) (before ++ (x ∷ after)) ≡ no e →
          outcome room acc (y ∷ (before ++ (x ∷ after))) ≡ no e
      by (halts n q s) p =
          absurd (k [] y before n refl
          (subst (λ (fs : List InlineFrame). Refuses room fs y n) (sym (append-nil acc)) q))
      by (goes h s) p = s (before ++ (x ∷ after)) ∙ p

-- ---- room

-- frames of steps without a fault are no more than room
module _ (room : ℕ) where
  step-few :
      (acc : List InlineFrame) (x : Step) → length acc ≤ room → ((e : Refusal) → Refuses room acc x e → ⊥) →
      length (acc ++ shows x) ≤ room
  unfolding shows Refuses
  step-few acc (read i v) l h = rw (append-nil acc) l
  step-few acc (unread i k) l h = rw (append-nil acc) l
  step-few acc (stands n) l h = rw (append-nil acc) l
  step-few acc (starts v) l h = rw (append-nil acc) l
  step-few acc (ends v) l h = rw (append-nil acc) l
  step-few acc (calls v) l h = rw (append-nil acc) l
  step-few acc (opens self) l h = by (leb (length (acc ++ named self)) room) refl
    where
      by : (t : Bool) → leb (length (acc ++ named self)) room ≡ t → length (acc ++ named self) ≤ room
      by false p = absurd (h TooManyFrames (refl, leb-false (length (acc ++ named self)) room p))
      by true p = leb-true (length (acc ++ named self)) room p

  few :
      (acc : List InlineFrame) (xs : List Step) → length acc ≤ room → NoFaultFrom room acc xs →
      length (acc ++ frames_among xs) ≤ room
  unfolding frames_among NoFaultFrom
  few acc [] l k = rw (append-nil acc) l
  few acc (x ∷ xs) l k =
      subst (λ (fs : List InlineFrame). length fs ≤ room) (regroup room acc x xs)
      (few (acc ++ shows x) xs
      (step-few acc x l (λ e r. k [] x xs e refl
      (subst (λ (fs : List InlineFrame). Refuses room fs x e) (sym (append-nil acc)) r)))
      (λ b z a n p q. k (x ∷ b) z a n (ap (λ (l : List Step). x ∷ l) p)
      (subst (λ (fs : List InlineFrame). Refuses room fs z n) (regroup room acc x b) q)))

  -- 14 stands at a node with a name other than 0, after as many frames as there is room for
  pub full-named :
      (steps : List Step) (e : Refusal) (F : FirstFault room steps e) (self : Node) → F.step ≡ opens self →
      (self.name ≡ 0 → ⊥) × (length (frames_among F.before) ≡ room)
  unfolding Refuses NoFaultFrom
  full-named steps e F self p =
      let fs = frames_among F.before in
      let r = subst (λ (x : Step). Refuses room fs x e) p F.fault in
      let l : length fs ≤ room = few [] F.before (omega arith) F.first in
      let a = length-append fs (named self) in (
        λ z. let n : length (named self) ≡ 0 = rw (eq-eqb self.name 0 z) refl in
            omega (arith, r.1),
        (let n = one-named (eqb self.name 0) in omega (arith, r.1)),
      )
    where
      one-named : (t : Bool) → length (cond t [] (frame_of self ∷ [])) ≤ 1
      one-named true = omega arith
      one-named false = omega arith

-- steps come to a refusal exactly if it is that of the first of them that is refused
pub outcome_fault :
    (room : ℕ) (steps : List Step) (e : Refusal) → (outcome room [] steps ≡ no e) ↔ FirstFault room steps e
unfolding Settled NoFaultFrom
outcome_fault room steps e = (
  λ p. let S = subst (Settled room [] steps) p (settles room [] steps) in
      record {
        before = S.before;
        step = S.step;
        after = S.after;
        split = S.split;
        fault = S.fault;
        first = S.first;
      },
  λ F. ap (outcome room []) F.split ∙ comes-to room F.step F.after e [] F.before F.fault F.first,
)

-- ---- a block

module _ (symbol addr room : ℕ) (bytes : List ℕ) where
  settled : Settled room [] (steps_of symbol addr bytes) (block_of symbol addr room bytes)
  settled =
      subst (Settled room [] (steps_of symbol addr bytes)) (sym (block-steps symbol addr room bytes))
      (settles room [] (steps_of symbol addr bytes))

  -- a block is refused with what the first fault among its steps is refused with, and so only
  pub first-fault :
      (e : Refusal) →
      (block_of symbol addr room bytes ≡ no e) ↔ FirstFault room (steps_of symbol addr bytes) e
  first-fault e =
      let f = outcome_fault room (steps_of symbol addr bytes) e in (
        λ p. f.0 (sym (block-steps symbol addr room bytes) ∙ p),
        λ F. block-steps symbol addr room bytes ∙ f.1 F,
      )

  -- and it lists frames exactly if there is no fault, and they are those of its open nodes
  pub no-fault :
      (fs : List InlineFrame) →
      (block_of symbol addr room bytes ≡ Ok fs)
      ↔ (NoFault room (steps_of symbol addr bytes) × (fs ≡ frames_among (steps_of symbol addr bytes)))
  unfolding Settled NoFaultFrom
  no-fault fs = (
    λ p. subst (Settled room [] (steps_of symbol addr bytes)) p settled,
    λ q. by q (block_of symbol addr room bytes) settled,
  )
    where
      by :
          NoFault room (steps_of symbol addr bytes) × (fs ≡ frames_among (steps_of symbol addr bytes)) →
          (b : Block) → Settled room [] (steps_of symbol addr bytes) b → b ≡ Ok fs
      by q (Ok gs) S = ap ok_list (S.1 ∙ sym q.1)
      by q (Err e) S = absurd (q.0 S.before S.step S.after e S.split S.fault)

  -- a block reads by RULES' conditions exactly if none of its steps is refused
  pub reads-no-fault : Reads symbol addr room bytes ↔ NoFault room (steps_of symbol addr bytes)
  reads-no-fault = (
    λ R. ((no-fault (frames addr symbol R.forest)).0 (lists symbol addr room bytes R)).0,
    λ n. let fs = frames_among (steps_of symbol addr bytes) in
        reads symbol addr room bytes fs ((no-fault fs).1 (n, refl)),
  )

  -- a block that doesn't read is refused with the first fault in reading order
  pub refused-first :
      (Reads symbol addr room bytes → ⊥) →
      (e : Refusal) × (block_of symbol addr room bytes ≡ no e)
      × FirstFault room (steps_of symbol addr bytes) e
  refused-first none_reads =
      let o = refuses symbol addr room bytes none_reads in
      (o.0, o.1, (first-fault o.0).0 o.1)

  -- no second refusal is that of the first fault
  pub first_unique :
      (e n : Refusal) → FirstFault room (steps_of symbol addr bytes) e →
      FirstFault room (steps_of symbol addr bytes) n →
      e ≡ n
  first_unique e n E N =
      let z : no e ≡ no n = sym ((first-fault e).1 E) ∙ (first-fault n).1 N in
      cc
