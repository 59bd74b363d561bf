-- A printed text is read back, up to the quote that ends it.
-- Assumes nothing.
use Rattle.std.proofs.Common.{◌≡◌, ◌≢◌, ℕ, ◌+◌, ◌*◌, ◌/◌, ◌%◌, ◌<◌, ◌≤◌, true, false, ◌&&◌, ◌⊎◌, inl, inr, List, []}
use Rattle.std.proofs.Common.{◌∷◌, ◌++◌, Some, refl, ap, ◌∙◌, arith, append_assoc, ne_eqb}
use Rattle.std.specs.Prelude.{nat_le}
use Rattle.std.specs.List.{flat_map}
use Rattle.std.proofs.lemmas.Bool.{cases_eq, cases_lt}
use Rattle.std.proofs.lemmas.Bool.Decides.{nat_tests}
use Rattle.hex.specs.Hex.{encode_with}
use Rattle.hex.proofs.HexLemmas.{IsDigits-lower_digits}
use Rattle.gsym_form.specs.Words.{nothing, is_control, behind_byte, open_text}
use Rattle.gsym_form.specs.Printed.{text_byte}

-- bytes, and none of them zero
abbrev pub IsText : List ℕ → Type 0
IsText [] = Unit {0}
IsText (b ∷ bs) = ((0 < b) × (b < 256)) × IsText bs

module _ (b : ℕ) (tail : List ℕ) where
  abbrev Back : Type 0
  Back = open_text nothing (text_byte b ++ tail) ≡ behind_byte b (open_text nothing tail)

  shown : b ≢ 34 → b ≢ 92 → 32 ≤ b → b ≤ 126 → Back
  unfolding open_text
  shown n m l k =
      let e : (nat_le 32 b && nat_le b 126) ≡ true = grind (arith, nat_tests) in
      let c : is_control b ≡ false = grind (arith, nat_tests) in
      rw (ne_eqb b 34 n, ne_eqb b 92 m, e, ne_eqb b 34 n, ne_eqb b 92 m, c)

  numbered : b ≢ 34 → b ≢ 92 → (nat_le 32 b && nat_le b 126) ≡ false → 0 < b → b < 256 → Back
  unfolding open_text encode_with
  numbered n m e p l =
      let hi = IsDigits-lower_digits (b / 16) (omega arith) in
      let lo = IsDigits-lower_digits (b % 16) (omega arith) in
      let s : b / 16 * 16 + b % 16 ≡ b = omega arith in
      let z : b ≢ 0 = omega arith in
      rw (ne_eqb b 34 n, ne_eqb b 92 m, e, hi, lo, s, ne_eqb b 0 z)

slashed : (b : ℕ) (tail : List ℕ) → (b ≡ 34) ⊎ (b ≡ 92) → Back b tail
unfolding open_text
slashed b tail (inl e) = rw e refl
slashed b tail (inr e) = rw e refl

other : (b : ℕ) (tail : List ℕ) → 0 < b → b < 256 → b ≢ 34 → b ≢ 92 → (b < 32) ⊎ (32 ≤ b) → (126 < b) ⊎ (b ≤ 126) →
    Back b tail
other b tail p l n m (inl u) v = numbered b tail n m (grind (arith, nat_tests)) p l
other b tail p l n m (inr u) (inl v) = numbered b tail n m (grind (arith, nat_tests)) p l
other b tail p l n m (inr u) (inr v) = shown b tail n m u v

pub byte_back : (b : ℕ) (tail : List ℕ) → 0 < b → b < 256 → Back b tail
byte_back b tail p l =
    elim (cases_eq b 34) [
      | inl e ↦ slashed b tail (inl e)
      | inr n ↦
          elim (cases_eq b 92) [
            | inl e ↦ slashed b tail (inr e)
            | inr m ↦ other b tail p l n m (cases_lt b 32) (cases_lt 126 b)
          ]
    ]

pub text_back : (bs rest : List ℕ) → IsText bs →
    open_text nothing (flat_map text_byte bs ++ 34 ∷ rest) ≡ Some (bs, rest)
unfolding open_text
text_back [] rest t = refl
text_back (b ∷ bs) rest t =
    ap (open_text nothing) (append_assoc (text_byte b) (flat_map text_byte bs) (34 ∷ rest))
    ∙ byte_back b (flat_map text_byte bs ++ 34 ∷ rest) t.0.0 t.0.1
    ∙ ap (behind_byte b) (text_back bs rest t.1)
