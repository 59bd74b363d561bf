-- What a first byte says of its sequence: the table of RULES ("Strings") and the grammar of RFC 3629 are one.
-- Assumes nothing.
use Rattle.std.proofs.Common.{ℕ, zero, suc, ◌≤◌, ◌<◌, Bool, true, false, List, [], ◌∷◌, ◌≡◌, refl, ap, ⊎_elim, T, eqb}
use Rattle.std.proofs.Common.{eqb→eq, leb, leb→le, take, replicate, arith, le-leb, eq-eqb, if◌then◌else◌}
use Rattle.gsym_strtab.specs.Utf8.{Range, range, tail, Start, starts, nowhere, followers, sequence_len, size_of}
use Rattle.gsym_strtab.specs.Steps.{second}
use Rattle.std.proofs.lemmas.Bool.{cases_lt}
use Rattle.gsym_strtab.proofs.Ranges.{over-range}
use Rattle.gsym_strtab.proofs.Table.{both, both_left, both_right, at}

-- one entry for each byte: a rule of the byte alone is tested at these
bytes : List ℕ
bytes = replicate 256 0

sizes : ℕ → ℕ → Bool
sizes b x = eqb (sequence_len b) (size_of (followers b))

-- the length by ranges is 1 and the number of bytes that must follow, or 0 where no character starts so
pub sequence-len-size : (b : ℕ) → sequence_len b ≡ size_of (followers b)
unfolding bytes sizes sequence_len followers
sequence-len-size b =
    ⊎_elim
    (λ (l : b < 256). eqb→eq (sequence_len b) (size_of (followers b)) (at sizes bytes tt b l))
    (λ (l : 256 ≤ b).
    rw (
      over-range 0x00 0x7f b (omega arith),
      over-range 0xc2 0xdf b (omega arith),
      over-range 0xe0 0xef b (omega arith),
      over-range 0xf0 0xf4 b (omega arith),
      over-range 0xe0 0xe0 b (omega arith),
      over-range 0xe1 0xec b (omega arith),
      over-range 0xed 0xed b (omega arith),
      over-range 0xee 0xef b (omega arith),
      over-range 0xf0 0xf0 b (omega arith),
      over-range 0xf1 0xf3 b (omega arith),
      over-range 0xf4 0xf4 b (omega arith),
    ))
    (cases_lt b 256)

-- a byte below 80 is a character
pub followers-ascii : (b : ℕ) → b ≤ 0x7f → followers b ≡ starts []
unfolding followers
followers-ascii b l = rw (le-leb 0 b (omega arith), le-leb b 0x7f l)

-- ------------------------------------------------------------------------------------------------
-- the bytes that follow, as a length and the range of the second

-- two answers about a first byte are the same
alikes : List Range → List Range → Bool
alikes [] [] = true
alikes [] (q ∷ qs) = false
alikes (r ∷ rs) [] = false
alikes (range a b ∷ rs) (range c d ∷ qs) = both (eqb a c) (both (eqb b d) (alikes rs qs))

alike : Start → Start → Bool
alike (starts rs) (starts qs) = alikes rs qs
alike (starts rs) nowhere = false
alike nowhere (starts qs) = false
alike nowhere nowhere = true

alikes-eq : (rs qs : List Range) → T (alikes rs qs) → rs ≡ qs
unfolding alikes
alikes-eq [] [] t = refl
alikes-eq [] (q ∷ qs) t = absurd t
alikes-eq (range a b ∷ rs) [] t = absurd t
alikes-eq (range a b ∷ rs) (range c d ∷ qs) t =
    let t' = both_right (eqb a c) (both (eqb b d) (alikes rs qs)) t in
    let p : a ≡ c = eqb→eq a c (both_left (eqb a c) (both (eqb b d) (alikes rs qs)) t) in
    let q : b ≡ d = eqb→eq b d (both_left (eqb b d) (alikes rs qs) t') in
    let l : rs ≡ qs = alikes-eq rs qs (both_right (eqb b d) (alikes rs qs) t') in
    cc

alike-eq : (x y : Start) → T (alike x y) → x ≡ y
unfolding alike
alike-eq (starts rs) (starts qs) t = ap starts (alikes-eq rs qs t)
alike-eq (starts rs) nowhere t = absurd t
alike-eq nowhere (starts qs) t = absurd t
alike-eq nowhere nowhere t = refl

-- a first byte b of a sequence of n bytes
abbrev pub shape : ℕ → ℕ → Start
shape zero b = nowhere
shape (suc k) b = starts (take k (second b ∷ tail ∷ tail ∷ []))

shaped : ℕ → ℕ → Bool
shaped b x = alike (followers b) (shape (sequence_len b) b)

pub followers-shape : (b : ℕ) → b < 256 → followers b ≡ shape (sequence_len b) b
unfolding bytes shaped alike alikes followers sequence_len second
followers-shape b h = alike-eq (followers b) (shape (sequence_len b) b) (at shaped bytes tt b h)

small : ℕ → ℕ → Bool
small b x = leb (sequence_len b) 4

pub sequence-len-le : (b : ℕ) → b < 256 → sequence_len b ≤ 4
unfolding bytes small sequence_len
sequence-len-le b h = leb→le (sequence_len b) 4 (at small bytes tt b h)

-- of two bytes, the second is any that may follow
twos : ℕ → ℕ → Bool
twos b x = if eqb (sequence_len b) 2 then alike (followers b) (starts (tail ∷ [])) else true

pub followers-two : (b : ℕ) → b < 256 → sequence_len b ≡ 2 → followers b ≡ starts (tail ∷ [])
unfolding bytes twos alike alikes followers sequence_len
followers-two b h e =
    let t = at twos bytes tt b h in
    alike-eq (followers b) (starts (tail ∷ [])) (rw (eq-eqb _ _ e) at t)
