-- The digits byte by byte, and the weights of the bytes.
-- Assumes nothing.
use Rattle.std.proofs.Common.{◌≡◌, ℕ, suc, ◌+◌, ◌-◌, ◌*◌, ◌^◌, ◌<◌, ◌≤◌, List, [], ◌∷◌, refl, ap, ◌∙◌, ⊎_elim, arith}
use Rattle.std.proofs.Common.{lit<, le-ltb, lt-ltb, Result, Ok, Err}
use lib.Arith.{digits_lt}
use native.Mathlib.Nat.{pow-le-pow_right}
use Rattle.std.proofs.lemmas.Bool.{cases_lt}
use Rattle.gsym_reads.specs.Steps.{◌>>=◌}
use Rattle.gsym_leb128.specs.declared.Cause.{Cause}
use Rattle.gsym_leb128.specs.declared.Cause.TheVariants.{Short, Wide}
use Rattle.gsym_leb128.specs.Leb.{digits}

-- a byte that asks for another, before what follows it
abbrev pub more : ℕ → Result (ℕ × ℕ) Cause → Result (ℕ × ℕ) Cause
more b d = do
  (v, n) ← d
  Ok (b - 128 + 128 * v, 1 + n)

-- ---- the front of a list: no more bytes allowed, none left, a last byte, a byte that asks for another

pub digits-zero : (bs : List ℕ) → digits 0 bs ≡ Err Wide
unfolding digits
digits-zero bs = refl

pub digits-nil : (k : ℕ) → digits (suc k) [] ≡ Err Short
unfolding digits
digits-nil k = refl

pub digits_last : (k b : ℕ) (bs : List ℕ) → b < 128 → digits (suc k) (b ∷ bs) ≡ Ok (b, 1)
unfolding digits
digits_last k b bs h = rw (lt-ltb _ _ h)

pub digits_more : (k b : ℕ) (bs : List ℕ) → 128 ≤ b → digits (suc k) (b ∷ bs) ≡ more b (digits k bs)
unfolding digits
digits_more k b bs h = rw (le-ltb _ _ h)

-- ---- the weight of a byte with k bytes before it

module _ (k w : ℕ) (e : w ≡ 128 ^ k) where
  pub weight-le : (m : ℕ) → k ≤ m → w ≤ 128 ^ m
  weight-le m h = rw e (pow-le-pow_right (lit< tt) h)

  -- the tenth byte is the one that counts 2^63 times
  pub weight-tenth : k ≤ 9 → w ≡ 2 ^ 63 → k ≡ 9
  weight-tenth h q =
      ⊎_elim
      (λ (l : k < 9). absurd (omega (arith, weight-le 8 (omega arith))))
      (λ (l : 9 ≤ k). omega arith)
      (cases_lt k 9)

  pub weight-early : k ≤ 9 → (w ≡ 2 ^ 63 → ⊥) → (k ≤ 8) × (w ≤ 2 ^ 56)
  weight-early h n =
      ⊎_elim
      (λ (l : k < 9). (omega arith, weight-le 8 (omega arith)))
      (λ (l : 9 ≤ k). let q : k ≡ 9 = omega arith in absurd (n (e ∙ ap (λ x. 128 ^ x) q)))
      (cases_lt k 9)

-- a digit below m, above a value below the digit's weight
pub digit_room : (b w v m : ℕ) → b < m → v < w → v + b * w < m * w
digit_room b w v m h l = omega (arith, digits_lt h l)
