-- Reading at a place: where the bytes are there, where they are not, and what having read says of the place.
-- Assumes nothing.
use Rattle.std.proofs.Common.{ℕ, ◌+◌, ◌-◌, ◌≤◌, ◌<◌, List, ◌≡◌, ap, sym, ◌∙◌, ⊎_elim, length, take, drop, length-drop}
use Rattle.std.proofs.Common.{arith, le-leb, Some, None}
use Rattle.std.proofs.lemmas.Bool.{cases_lt, lt-leb}
use Rattle.gsym_reads.proofs.Bytes.{le, le_in, le_at}

module _ (s : List ℕ) (at width : ℕ) where
  -- where the bytes are there, the number is what they say
  pub there : width ≤ length s - at → le_at width s at ≡ Some (le (take width (drop at s)))
  unfolding le_in
  there h = let l : width ≤ length (drop at s) = rw length-drop h in rw (le-leb _ _ l)

  -- where fewer are left, there is none
  pub past : length s - at < width → le_at width s at ≡ None
  unfolding le_in
  past h = let l : length (drop at s) < width = rw length-drop h in rw (lt-leb _ _ l)

  -- what was read lies within the bytes
  pub within : (v : ℕ) → 0 < width → le_at width s at ≡ Some v → at + width ≤ length s
  within v z e =
      ⊎_elim
      (λ (l : length s - at < width). let y : ◌≡◌ {A = ℕ} 0 1 = cc (past l) in absurd (omega arith))
      (λ (l : width ≤ length s - at). omega arith)
      (cases_lt (length s - at) width)

  -- what was read is what its bytes say
  pub value-is : (v : ℕ) → le_at width s at ≡ Some v → v ≡ le (take width (drop at s))
  value-is v e =
      ⊎_elim
      (λ (l : length s - at < width). let y : ◌≡◌ {A = ℕ} 0 1 = cc (past l) in absurd (omega arith))
      (λ (l : width ≤ length s - at). let f = there l in cc)
      (cases_lt (length s - at) width)

-- a number at a place depends on its own bytes alone
pub part-agree :
    (s t : List ℕ) (at to width : ℕ) → at + width ≤ length s → to + width ≤ length t →
    take width (drop at s) ≡ take width (drop to t) → le_at width s at ≡ le_at width t to
part-agree s t at to width h k e =
    there s at width (omega arith) ∙ ap (λ l. Some (le l)) e ∙ sym (there t to width (omega arith))
