-- What the call that reads one block tells, by the equation of its contract: the frames exactly where the block reads,
-- and else the first fault.
-- Assumes nothing.
use Rattle.std.proofs.Common.{Ok, Err, Result, OnErr, IsOk, IsErrOf, ℕ, List, [], ◌↔◌, ◌≡◌, refl, sym, ap, subst, ◌∙◌}
use Rattle.gsym_types.specs.declared.InlineFrame.{InlineFrame}
use Rattle.gsym_types.specs.declared.Refusal.{Refusal}
use Rattle.gsym_inline.specs.Frames.{frames}
use Rattle.gsym_inline.specs.Block.{block_of, listing}
use Rattle.gsym_inline.specs.Reads.{Reads}
use Rattle.gsym_inline.specs.ListsFrames.{ListsFrames}
use Rattle.gsym_inline.specs.Steps.{steps_of}
use Rattle.gsym_inline.specs.FirstFault.{FirstFault}
use Rattle.gsym_inline.proofs.Numbers.{never}
use Rattle.gsym_inline.proofs.Listing.{OfBlock, lists, refuses, block-lists}
use Rattle.gsym_inline.proofs.StepsHeads.{no}
use Rattle.gsym_inline.proofs.FirstFault.{first-fault}

abbrev err : Refusal → Result Unit Refusal
err k = Err k

module _ (bytes : List ℕ) (symbol addr room : ℕ) (fs : List InlineFrame) (r : Result Unit Refusal)
    (L : listing r fs ≡ block_of symbol addr room bytes) where
  pub told_listed : IsOk r ↔ ListsFrames symbol addr room bytes fs
  told_listed = go r L
    where
      go : (x : Result Unit Refusal) → listing x fs ≡ block_of symbol addr room bytes →
          IsOk x ↔ ListsFrames symbol addr room bytes fs
      go (Ok u) e = (λ _. (block-lists symbol addr room bytes fs).0 (sym e), λ F. refl)
      go (Err k) e = (
        λ z. never (let n : ◌≡◌ {A = ℕ} 0 1 = cc in n),
        λ F. never (let q = e ∙ (block-lists symbol addr room bytes fs).1 F in let n : ◌≡◌ {A = ℕ} 0 1 = cc in n),
      )

  pub told_refused : (k : Refusal) → IsErrOf r k ↔ FirstFault room (steps_of symbol addr bytes) k
  told_refused k = go r L
    where
      go : (x : Result Unit Refusal) → listing x fs ≡ block_of symbol addr room bytes →
          IsErrOf x k ↔ FirstFault room (steps_of symbol addr bytes) k
      go (Ok u) e = (
        λ z. never (let n : ◌≡◌ {A = ℕ} 0 1 = cc in n),
        λ F. never (let q = e ∙ (first-fault symbol addr room bytes k).1 F in let n : ◌≡◌ {A = ℕ} 0 1 = cc in n),
      )
      go (Err j) e = (
        λ z. let q : j ≡ k = cc in (first-fault symbol addr room bytes k).0 (sym e ∙ ap no q),
        λ F. let q : no j ≡ no k = e ∙ (first-fault symbol addr room bytes k).1 F in
            let s : j ≡ k = cc in
            ap err s,
      )

  -- ---- and with the list empty after a refusal

  module _ (E : OnErr r (fs ≡ [])) where
    pub call-lists :
        (R : Reads symbol addr room bytes) → (r ≡ Ok tt) × (fs ≡ frames addr symbol R.forest)
    call-lists R = go r (L ∙ lists symbol addr room bytes R)
      where
        go : (x : Result Unit Refusal) → listing x fs ≡ Ok (frames addr symbol R.forest) →
            (x ≡ Ok tt) × (fs ≡ frames addr symbol R.forest)
        go (Ok u) e = (refl, cc)
        go (Err k) e = never (let z : ◌≡◌ {A = ℕ} 0 1 = cc in z)

    pub call-refuses :
        (Reads symbol addr room bytes → ⊥) → (k : Refusal) × (r ≡ Err k) × (fs ≡ []) × OfBlock k
    call-refuses none_reads =
        let o = refuses symbol addr room bytes none_reads in
        go r E o.0 o.2 (L ∙ o.1)
      where
        go : (x : Result Unit Refusal) → OnErr x (fs ≡ []) → (k : Refusal) → OfBlock k → listing x fs ≡ Err k →
            (k : Refusal) × (x ≡ Err k) × (fs ≡ []) × OfBlock k
        go (Ok u) z k b e = never (let z : ◌≡◌ {A = ℕ} 0 1 = cc in z)
        go (Err j) z k b e = let q : k ≡ j = cc in (j, refl, z, subst OfBlock q b)

    -- no second answer fits, and no second list of frames
    pub call-unique :
        (gs : List InlineFrame) (q : Result Unit Refusal) → listing q gs ≡ block_of symbol addr room bytes →
        OnErr q (gs ≡ []) → (r ≡ q) × (fs ≡ gs)
    call-unique gs q M F = go r E q F (L ∙ sym M)
      where
        go : (x : Result Unit Refusal) → OnErr x (fs ≡ []) → (y : Result Unit Refusal) → OnErr y (gs ≡ []) →
            listing x fs ≡ listing y gs → (x ≡ y) × (fs ≡ gs)
        go (Ok u) z (Ok v) w e = (refl, cc)
        go (Ok u) z (Err k) w e = never (let z : ◌≡◌ {A = ℕ} 0 1 = cc in z)
        go (Err k) z (Ok v) w e = never (let z : ◌≡◌ {A = ℕ} 0 1 = cc in z)
        go (Err j) z (Err k) w e = (cc, z ∙ sym w)
