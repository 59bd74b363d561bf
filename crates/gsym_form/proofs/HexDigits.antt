-- The digits of a number: all but the last, and the last.
-- Assumes nothing.
use Rattle.std.proofs.Common.{◌≡◌, ℕ, zero, suc, ◌/◌, ◌%◌, ◌^◌, ◌<◌, ◌≤◌, Bool, true, false, cond, ◌==◌, ◌&&◌, List, []}
use Rattle.std.proofs.Common.{◌∷◌, ◌++◌, slice_index, refl, sym, ap, ◌∙◌, arith, ⊎_elim, append_assoc, eq-eqb, ne_eqb}
use Rattle.std.proofs.Common.{eqb-true}
use Rattle.std.specs.Fmt.{digits, digits_onto, digit_glyph}
use Rattle.std.proofs.lemmas.Bool.{cases_lt}
use Rattle.std.proofs.lemmas.Fmt.{hex_one_digit}
use Rattle.hex.specs.Hex.{lower_digits}

abbrev spell : ℕ → ℕ → List ℕ → List ℕ
spell k n acc = digits_onto k 16 false n acc

abbrev last_glyph : ℕ → ℕ
last_glyph n = digit_glyph false (n % 16)

onto_nil : (n : ℕ) → spell 64 n [] ≡ digits 16 false n
unfolding digits
onto_nil n = refl

spell_last : (k n : ℕ) (acc : List ℕ) → n < 16 → spell (suc k) n acc ≡ last_glyph n ∷ acc
spell_last k n acc h =
    ap (λ t. cond t (last_glyph n ∷ acc) (spell k (n / 16) (last_glyph n ∷ acc))) (eq-eqb (n / 16) 0 (omega arith))

spell_next : (k n : ℕ) (acc : List ℕ) → 16 ≤ n → spell (suc k) n acc ≡ spell k (n / 16) (last_glyph n ∷ acc)
spell_next k n acc h =
    ap (λ t. cond t (last_glyph n ∷ acc) (spell k (n / 16) (last_glyph n ∷ acc)))
    (ne_eqb (n / 16) 0 (λ e. omega arith))

spell_append : (k n : ℕ) (acc : List ℕ) → spell k n acc ≡ spell k n [] ++ acc
spell_append zero n acc = refl
spell_append (suc k) n acc =
    ⊎_elim (λ (l : n < 16). spell_last k n acc l ∙ ap (λ x. x ++ acc) (sym (spell_last k n [] l)))
    (λ (l : 16 ≤ n).
    spell_next k n acc l ∙ spell_append k (n / 16) (last_glyph n ∷ acc)
    ∙ sym (append_assoc (spell k (n / 16) []) (last_glyph n ∷ []) acc)
    ∙ ap (λ x. x ++ acc) (sym (spell_next k n [] l ∙ spell_append k (n / 16) (last_glyph n ∷ []))))
    (cases_lt n 16)

-- how many digits there may be does not matter, once they are enough
spell_enough : (j k n : ℕ) (acc : List ℕ) → n < 16 ^ suc j → n < 16 ^ suc k → spell (suc j) n acc ≡ spell (suc k) n acc
spell_enough zero k n acc p q = spell_last zero n acc (omega arith) ∙ sym (spell_last k n acc (omega arith))
spell_enough (suc j) zero n acc p q =
    spell_last (suc j) n acc (omega arith) ∙ sym (spell_last zero n acc (omega arith))
spell_enough (suc j) (suc k) n acc p q =
    ⊎_elim (λ (l : n < 16). spell_last (suc j) n acc l ∙ sym (spell_last (suc k) n acc l))
    (λ (l : 16 ≤ n).
    spell_next (suc j) n acc l ∙ spell_enough j k (n / 16) (last_glyph n ∷ acc) (omega arith) (omega arith)
    ∙ sym (spell_next (suc k) n acc l))
    (cases_lt n 16)

-- so many digits of the table are those of a number
abbrev alike : ℕ → Bool
alike zero = true
alike (suc n) = (slice_index lower_digits n == digit_glyph false n) && alike n

alike_below : (n d : ℕ) → alike n ≡ true → d < n → slice_index lower_digits d ≡ digit_glyph false d
alike_below zero d h l = absurd (omega arith)
alike_below (suc n) d h l = by (slice_index lower_digits n == digit_glyph false n) refl h (alike_below n d)
  where
    by : (b : Bool) → (slice_index lower_digits n == digit_glyph false n) ≡ b → (b && alike n) ≡ true
        → (alike n ≡ true → d < n → slice_index lower_digits d ≡ digit_glyph false d)
        → slice_index lower_digits d ≡ digit_glyph false d
    by false e k r = absurd cc
    by true e k r =
        ⊎_elim (λ (less : d < n). r k less)
        (λ (more : n ≤ d). let same : d ≡ n = omega arith in rw same (eqb-true _ _ e))
        (cases_lt d n)

glyphs : (d : ℕ) → d < 16 → slice_index lower_digits d ≡ digit_glyph false d
glyphs d = alike_below 16 d refl

pub digits_step : (n : ℕ) → 16 ≤ n → n < 2 ^ 128
    → digits 16 false n ≡ digits 16 false (n / 16) ++ slice_index lower_digits (n % 16) ∷ []
digits_step n h small =
    sym (onto_nil n) ∙ spell_next 63 n [] h
    ∙ spell_enough 62 63 (n / 16) (last_glyph n ∷ []) (omega arith) (omega arith)
    ∙ spell_append 64 (n / 16) (last_glyph n ∷ [])
    ∙ (λ i. onto_nil (n / 16) i ++ (sym (glyphs (n % 16) (omega arith)) i ∷ []))

pub digits_last : (n : ℕ) → n < 16 → digits 16 false n ≡ slice_index lower_digits (n % 16) ∷ []
digits_last n h =
    let e : n % 16 ≡ n = omega arith in
    hex_one_digit false n h ∙ ap (λ d. d ∷ []) (sym (ap (slice_index lower_digits) e ∙ glyphs n h))

pub last_twice : (n : ℕ) → n % 16 % 16 ≡ n % 16
last_twice n = omega arith
