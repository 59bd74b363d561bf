-- What an equation between two constructors gives, choices, and that what was read at a place lies within the bytes.
-- Assumes nothing.
use Rattle.std.proofs.Common.{Some, None, Option, ℕ, ◌+◌, ◌≤◌, Bool, true, false, List, [], ◌∷◌, ◌≡◌, refl, length}
use Rattle.std.proofs.Common.{drop, length-drop, arith, nat_lt, ltb-false, if◌then◌else◌}
use Rattle.gsym_reads.specs.Fronts.{byte_front, u32_front}
use Rattle.gsym_reads.specs.Answers.{value_of, u8_at, u32_at}

-- what an equation between two constructors gives
pub never : {A : Type 0} → ◌≡◌ {A = ℕ} 0 1 → A
never e = absurd (omega arith)

-- a choice has what both of its ends have, each under its test
pub pick-has :
    {A : Type 0} (P : A → Type 0) (t : Bool) (x y : A) → (t ≡ true → P x) → (t ≡ false → P y) → P (if t then x else y)
pick-has P true x y l r = l refl
pick-has P false x y l r = r refl

module _ (s : List ℕ) (at : ℕ) where
  -- a byte that was read is one of the bytes
  pub byte-within : (v : ℕ) → u8_at s at ≡ Some v → at + 1 ≤ length s
  unfolding u8_at byte_front
  byte-within v e = go (drop at s) refl e
    where
      go : (bs : List ℕ) → drop at s ≡ bs → value_of (byte_front bs) ≡ Some v → at + 1 ≤ length s
      go [] p q = absurd cc
      go (b ∷ bs) p q =
          let l : length (drop at s) ≡ length (b ∷ bs) = rw p refl in
          omega (arith, l, length-drop at s)

  -- and so are four bytes
  pub word-within : (v : ℕ) → u32_at s at ≡ Some v → at + 4 ≤ length s
  unfolding u32_at u32_front
  word-within v e = go (nat_lt (length (drop at s)) 4) _ refl e
    where
      go :
          (t : Bool) (x : Option (ℕ × List ℕ)) → nat_lt (length (drop at s)) 4 ≡ t →
          value_of (if t then None else x) ≡ Some v → at + 4 ≤ length s
      go true x p q = absurd cc
      go false x p q = omega (arith, ltb-false _ 4 p, length-drop at s)
