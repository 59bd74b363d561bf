-- The pieces of a text, and of the string table.
-- Assumes nothing.
use Rattle.std.proofs.Common.{◌≡◌, ℕ, suc, ◌+◌, ◌/◌, ◌%◌, ◌<◌, Bool, true, false, cond, not, ◌==◌, List, [], ◌∷◌, ◌++◌}
use Rattle.std.proofs.Common.{length, take, drop, slice_index, codes, subst, refl, sym, ap, ◌∙◌, arith, length-drop}
use Rattle.std.proofs.Common.{tests}
use Rattle.std.specs.List.{flat_map, slice_split, onto_first}
use Rattle.std.proofs.lemmas.List.Splits.{slice_split-cons_yes, slice_split-cons_no}
use Rattle.hex.specs.Hex.{lower_digits, encode_lower, encode_with}
use Rattle.gsym_form.specs.Pieces.{is_plain, plain_len, text_len}
use Rattle.gsym_form.specs.Printed.{text_byte}

-- a byte by its number
pub numbered : (b high low : ℕ) → b < 256 → high ≡ slice_index lower_digits (b / 16 % 16)
    → low ≡ slice_index lower_digits (b % 16) → 92 ∷ 120 ∷ high ∷ low ∷ [] ≡ codes "\\x" ++ encode_lower (b ∷ [])
unfolding encode_with
numbered b high low l p q =
    let same : b / 16 % 16 ≡ b / 16 = omega (arith, l) in
    rw (p, q, same) refl

-- ---- a text, up to the first byte that it doesn't have as it is, and from there on

plain_byte : (b : ℕ) → is_plain b ≡ true → text_byte b ≡ b ∷ []
plain_byte b e = grind (arith, tests)

split_plain : (s : List ℕ)
    → flat_map text_byte s ≡ take (plain_len s) s ++ flat_map text_byte (drop (plain_len s) s)
split_plain [] = refl
split_plain (b ∷ s) = by (is_plain b) refl (split_plain s)
  where
    split : ℕ → Type 0
    split n = flat_map text_byte (b ∷ s) ≡ take n (b ∷ s) ++ flat_map text_byte (drop n (b ∷ s))

    by : (c : Bool) → is_plain b ≡ c
        → flat_map text_byte s ≡ take (plain_len s) s ++ flat_map text_byte (drop (plain_len s) s)
        → split (plain_len (b ∷ s))
    by false e k = subst split (sym (ap (λ c. cond c (1 + plain_len s) 0) e)) refl
    by true e k =
        let o : 1 + plain_len s ≡ suc (plain_len s) = omega arith in
        let n : plain_len (b ∷ s) ≡ suc (plain_len s) = ap (λ c. cond c (1 + plain_len s) 0) e ∙ o in
        subst split (sym n) (ap (λ t. t ++ flat_map text_byte s) (plain_byte b e) ∙ ap (λ t. b ∷ t) k)

pub plain_at : (rest plain from : List ℕ) (n : ℕ) → n ≡ plain_len rest → plain ≡ take n rest → from ≡ drop n rest
    → flat_map text_byte rest ≡ plain ++ flat_map text_byte from
plain_at rest plain from n e p q = rw (p, q, e) (split_plain rest)

pub byte_at : (from behind : List ℕ) (b : ℕ) → from ≡ b ∷ behind
    → flat_map text_byte from ≡ text_byte b ++ flat_map text_byte behind
byte_at from behind b h = ap (flat_map text_byte) h

pub nothing_at : (from : List ℕ) → length from ≡ 0 → flat_map text_byte from ≡ []
nothing_at [] h = refl
nothing_at (b ∷ from) h = absurd (omega (arith, h))

-- ---- the string table, up to a zero byte and from behind it

pub split_text : (s behind : List ℕ) (b : ℕ) → drop (text_len s) s ≡ b ∷ behind
    → slice_split (λ c. c == 0) s ≡ take (text_len s) s ∷ slice_split (λ c. c == 0) behind
split_text [] behind b h = absurd (omega (arith, ap length h))
split_text (a ∷ s) behind b h = by (a == 0) refl h (split_text s behind b)
  where
    split : ℕ → Type 0
    split n = slice_split (λ c. c == 0) (a ∷ s) ≡ take n (a ∷ s) ∷ slice_split (λ c. c == 0) behind

    by : (t : Bool) → (a == 0) ≡ t → drop (text_len (a ∷ s)) (a ∷ s) ≡ b ∷ behind
        → (drop (text_len s) s ≡ b ∷ behind
        → slice_split (λ c. c == 0) s ≡ take (text_len s) s ∷ slice_split (λ c. c == 0) behind)
        → split (text_len (a ∷ s))
    by true e k r =
        let n : text_len (a ∷ s) ≡ 0 = ap (λ c. cond (not c) (1 + text_len s) 0) e in
        let l : s ≡ behind = ap (drop 1) (rw n at k) in
        subst split (sym n) (slice_split-cons_yes (λ c. c == 0) a s e ∙ ap (λ t. [] ∷ slice_split (λ c. c == 0) t) l)
    by false e k r =
        let o : 1 + text_len s ≡ suc (text_len s) = omega arith in
        let n : text_len (a ∷ s) ≡ suc (text_len s) = ap (λ c. cond (not c) (1 + text_len s) 0) e ∙ o in
        subst split (sym n) (slice_split-cons_no (λ c. c == 0) a s e ∙ ap (onto_first a) (r (rw n at k)))

pub split_none : (s : List ℕ) → length (drop (text_len s) s) ≡ 0 → slice_split (λ c. c == 0) s ≡ s ∷ []
split_none [] h = refl
split_none (a ∷ s) h = by (a == 0) refl h (split_none s)
  where
    by : (t : Bool) → (a == 0) ≡ t → length (drop (text_len (a ∷ s)) (a ∷ s)) ≡ 0
        → (length (drop (text_len s) s) ≡ 0 → slice_split (λ c. c == 0) s ≡ s ∷ [])
        → slice_split (λ c. c == 0) (a ∷ s) ≡ (a ∷ s) ∷ []
    by true e k r =
        let n : text_len (a ∷ s) ≡ 0 = ap (λ c. cond (not c) (1 + text_len s) 0) e in
        absurd (omega (arith, rw n at k))
    by false e k r =
        let o : 1 + text_len s ≡ suc (text_len s) = omega arith in
        let n : text_len (a ∷ s) ≡ suc (text_len s) = ap (λ c. cond (not c) (1 + text_len s) 0) e ∙ o in
        slice_split-cons_no (λ c. c == 0) a s e ∙ ap (onto_first a) (r (rw n at k))

pub text_shorter : (s from behind : List ℕ) (n b : ℕ) → from ≡ drop n s → from ≡ b ∷ behind
    → length behind < length s
text_shorter s from behind n b e h = omega (arith, ap length e, ap length h, length-drop n s)
