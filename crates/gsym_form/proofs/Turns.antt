-- What each turn of a loop over the lines of a text, each with its place, is about.
-- Assumes nothing.
use Rattle.std.proofs.Common.{◌≡◌, ℕ, ◌+◌, ◌≤◌, ◌<◌, Bool, false, List, ◌∷◌, length, drop, get_or, ap, sym, ◌∙◌, arith}
use Rattle.std.proofs.Common.{Some, None, refl}
use Rattle.std.specs.Borrow.{Bor}
use Rattle.std.specs.Fn.{CalledAt}
use Rattle.std.specs.Iterator.{Yields}
use Rattle.std.specs.Iterator.Adapters.{enumerate_source, enumerate_count, enumerate_steps}
use Rattle.std.specs.List.{slice_split, enumerate_from}
use Rattle.std.specs.Prelude.{min}
use Rattle.std.specs.Slice.Iter.{split_rest, split_done, split_callee, split_steps}
use Rattle.std.proofs.lemmas.Iterator.{YieldsList}
use Rattle.std.proofs.lemmas.Iterator.Consumers.{YieldsList-at, YieldsList-from_enumerate, YieldsList-turn}
use Rattle.std.proofs.lemmas.Iterator.Consumers.{YieldsList-end}
use Rattle.std.proofs.lemmas.Iterator.Splits.{YieldsList-from_slice_split}
use Rattle.std.proofs.lemmas.List.{drop_more}
use Rattle.std.proofs.lemmas.List.FromFn.{length-enumerate_from, get_or-enumerate_from}
use denote.Param.Members.{Mut}
use Rattle.gsym_form.specs.Said.{is_newline}

-- the part at a place, and the place
part_at :
    (i : ℕ) (parts : List (List ℕ)) (x : ℕ × List ℕ) → i < length (enumerate_from 0 parts) →
    x ≡ get_or (enumerate_from 0 parts) i x → (x.0 ≡ i) × (drop i parts ≡ x.1 ∷ drop (i + 1) parts)
part_at i parts x l h =
    let short : i < length parts = omega (arith, length-enumerate_from 0 parts) in
    let e : x ≡ (0 + i, get_or parts i x.1) = h ∙ get_or-enumerate_from 0 parts i x short in
    let zero : 0 + i ≡ i = omega arith in (
      ap (λ p. p.0) e ∙ zero,
      drop_more parts i x.1 short ∙ ap (λ y. y ∷ drop (i + 1) parts) (sym (ap (λ p. p.1) e)),
    )

module _ {F : Type 0} (g : Mut F (Bor ℕ × Unit {0}) Bool) (text : List ℕ) (xs : List (ℕ × Bor (List ℕ))) where
  parts_of :
      {s : _} {w : _} {f : F} → enumerate_source s ≡ w → split_rest w ≡ text → split_done w ≡ false →
      split_callee w ≡ f → enumerate_count s ≡ 0 →
      ((x : ℕ) (b : Bool) (q : F) → CalledAt g f x b q → (q ≡ f) × (b ≡ is_newline x)) →
      YieldsList {B = ℕ × List ℕ} (enumerate_steps (split_steps g)) (λ p. (p.0, p.1.now)) s
      (enumerate_from 0 (slice_split is_newline text))
  parts_of source rest done callee count tests =
      YieldsList-from_enumerate
      (YieldsList-at source (YieldsList-from_slice_split g is_newline text rest done callee tests)) count

  -- the line at this place, and its number
  pub line_turn :
      {s v : _} {w : _} {f : F} (t u : _) (x : ℕ × Bor (List ℕ)) (n : ℕ) →
      Yields (enumerate_steps (split_steps g)) s xs t → enumerate_steps (split_steps g) t (Some x) u →
      n ≡ min (x.0 + 1) 18446744073709551615 → s ≡ v → enumerate_source v ≡ w → split_rest w ≡ text →
      split_done w ≡ false → split_callee w ≡ f → enumerate_count v ≡ 0 →
      ((x : ℕ) (b : Bool) (q : F) → CalledAt g f x b q → (q ≡ f) × (b ≡ is_newline x)) →
      (n ≡ length xs + 1)
      × (drop (length xs) (slice_split is_newline text)
      ≡ x.1.now ∷ drop (length xs + 1) (slice_split is_newline text))
  line_turn t u x n y k m given source rest done callee count tests =
      let all = YieldsList-at given (parts_of source rest done callee count tests) in
      let turn = YieldsList-turn all xs t y (Some x) u x refl k in
      let at = part_at (length xs) (slice_split is_newline text) (x.0, x.1.now) turn.0 turn.1 in
      let place : x.0 ≡ length xs = at.0 in
      let small : x.0 + 1 < 18446744073709551616 = k.3 in
      (omega arith, at.1)

  -- no line is left
  pub line_end :
      {s v : _} {w : _} {f : F} (t u : _) →
      Yields (enumerate_steps (split_steps g)) s xs t → enumerate_steps (split_steps g) t None u →
      s ≡ v → enumerate_source v ≡ w → split_rest w ≡ text → split_done w ≡ false → split_callee w ≡ f →
      enumerate_count v ≡ 0 →
      ((x : ℕ) (b : Bool) (q : F) → CalledAt g f x b q → (q ≡ f) × (b ≡ is_newline x)) →
      length (slice_split is_newline text) ≤ length xs
  line_end t u y k given source rest done callee count tests =
      let all = YieldsList-at given (parts_of source rest done callee count tests) in
      let ended = YieldsList-end all xs t y None u refl k in
      let same : length xs ≡ length (enumerate_from 0 (slice_split is_newline text)) = ended.1 in
      omega (arith, length-enumerate_from 0 (slice_split is_newline text))
