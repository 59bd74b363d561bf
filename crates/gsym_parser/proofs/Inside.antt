-- A number that was read at the front of bytes is as long as it is, and one reads where the bytes are there.
-- Assumes nothing.
use Rattle.std.proofs.Common.{Some, None, ◌≡◌, ℕ, ◌+◌, ◌<◌, ◌≤◌, List, length, take, drop, length-drop, ap, ⊎_elim}
use Rattle.std.proofs.Common.{arith, le-ltb, lt-ltb}
use Rattle.std.specs.Int.{w32, from_le_bytes}
use Rattle.std.proofs.lemmas.Bool.{cases_lt}
use Rattle.gsym_reads.specs.Fronts.{u32_front}
use Rattle.gsym_reads.specs.Answers.{u32_at}

pub u32_there : (bs : List ℕ) → 4 ≤ length bs → u32_front bs ≡ Some (from_le_bytes w32 (take 4 bs), drop 4 bs)
unfolding u32_front
u32_there bs h = rw (le-ltb _ _ h)

none-there : (bs : List ℕ) → length bs < 4 → u32_front bs ≡ None
unfolding u32_front
none-there bs h = rw (lt-ltb _ _ h)

-- what was read, and the four bytes that it took
pub u32_taken :
    (bs : List ℕ) (v : ℕ) (rest : List ℕ) → u32_front bs ≡ Some (v, rest) → (rest ≡ drop 4 bs) × (4 ≤ length bs)
u32_taken bs v rest e =
    ⊎_elim
    (λ (l : length bs < 4). let n = none-there bs l in absurd cc)
    (λ (l : 4 ≤ length bs).
    let t = u32_there bs l in
    let p : ◌≡◌ {A = ℕ × List ℕ} (v, rest) (from_le_bytes w32 (take 4 bs), drop 4 bs) = cc in
    (ap (λ x. x.1) p, l))
    (cases_lt (length bs) 4)

-- a number at a place lies within the bytes
pub read_within : (s : List ℕ) (at v : ℕ) → u32_at s at ≡ Some v → at + 4 ≤ length s
unfolding u32_at
read_within s at v e =
    ⊎_elim
    (λ (l : length (drop at s) < 4). let n = none-there (drop at s) l in absurd (go n e))
    (λ (l : 4 ≤ length (drop at s)). omega (arith, length-drop at s))
    (cases_lt (length (drop at s)) 4)
  where
    go : u32_front (drop at s) ≡ None → u32_at s at ≡ Some v → ⊥
    go n f = let g = rw n at f in absurd cc
