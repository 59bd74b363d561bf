-- The piece at the front of a text.
-- Assumes nothing.
use Rattle.std.proofs.Common.{◌≡◌, ◌<◌, ◌≤◌, ◌⊎◌, inl, inr, ℕ, zero, suc, Bool, true, false, List, [], ◌∷◌, length}
use Rattle.std.proofs.Common.{take, refl, sym, ap, ◌∙◌, arith, length-take}
use Rattle.std.specs.Prelude.{nat_le}
use Rattle.std.proofs.lemmas.Bool.Decides.{nat_tests}
use Rattle.std.proofs.lemmas.Bool.{leb-true}
use Rattle.gsym_strtab.specs.Utf8.{utf8, sequence_len}
use Rattle.gsym_printed.specs.Pieces.{char_len, piece_len}

-- a piece at the front: a byte, or a character
unfoldable pub IsFront : List ℕ → Type 0
IsFront p = (length p ≡ 1) ⊎ ((0 < length p) × (char_len p ≡ length p))

take-again : (n : ℕ) (s : List ℕ) → take n (take n s) ≡ take n s
take-again zero s = refl
take-again (suc n) [] = refl
take-again (suc n) (b ∷ s) = ap (λ t. b ∷ t) (take-again n s)

le-itself : (n : ℕ) → nat_le n n ≡ true
le-itself n = grind (arith, nat_tests)

front-char : (b : ℕ) (s : List ℕ) (m : ℕ) → suc m ≡ sequence_len b → utf8 (b ∷ take m s) ≡ true
    → length (b ∷ take m s) ≡ suc m → char_len (b ∷ take m s) ≡ suc m
unfolding char_len
front-char b s m e u d = rw (sym e, d, le-itself (suc m), take-again m s, u) refl

-- of so many bytes as the first one says
front-sized : (b : ℕ) (s : List ℕ) (n : ℕ) → n ≡ sequence_len b → nat_le n (length (b ∷ s)) ≡ true
    → utf8 (take n (b ∷ s)) ≡ true → char_len (b ∷ s) ≡ n → IsFront (take (piece_len (b ∷ s)) (b ∷ s))
unfolding IsFront
front-sized b s zero e l u c = rw c (inl refl)
front-sized b s (suc m) e l u c =
    let k : suc m ≤ length (b ∷ s) = leb-true _ _ l in
    let d : length (b ∷ take m s) ≡ suc m = omega (arith, length-take m s, k) in
    let p : piece_len (b ∷ s) ≡ suc m = omega (arith, c) in
    rw p (inr (omega (arith, d), front-char b s m e u d ∙ sym d))

front-by : (t u : Bool) (b : ℕ) (s : List ℕ) → nat_le (sequence_len b) (length (b ∷ s)) ≡ t
    → utf8 (take (sequence_len b) (b ∷ s)) ≡ u → IsFront (take (piece_len (b ∷ s)) (b ∷ s))
unfolding IsFront char_len
front-by true true b s l u = front-sized b s (sequence_len b) refl l u (rw (l, u) refl)
front-by true false b s l u = rw (l, u) (inl refl)
front-by false u b s l e = rw l (inl refl)

pub front : (b : ℕ) (s : List ℕ) → IsFront (take (piece_len (b ∷ s)) (b ∷ s))
front b s =
    front-by (nat_le (sequence_len b) (length (b ∷ s))) (utf8 (take (sequence_len b) (b ∷ s))) b s refl refl
