-- What the readers answer (RULES, "LEB128"): the number, and where reading goes on.
-- Assumes nothing.
use Rattle.std.specs.Prelude.{ℕ, ◌+◌, ◌*◌, ◌%◌, ◌^◌, ◌<◌, ◌≤◌, ◌⊎◌, List, [], ◌∷◌, All, length, take, drop, slice_index}
use Rattle.std.specs.Prelude.{ℤ, Ok, Result}
use Rattle.std.specs.Int.Signed.{mag}
use Rattle.gsym_reads.specs.Steps.{◌>>=◌}
use Rattle.gsym_leb128.specs.declared.Cause.{Cause}
use Rattle.gsym_leb128.specs.Leb.{complement, unsigned, signed}

-- ---- at the front of bytes: the number, and the bytes after it

unfoldable pub unsigned_front : List ℕ → Result (ℕ × List ℕ) Cause
unsigned_front bs = do
  (v, n) ← unsigned bs
  Ok (v, drop n bs)

unfoldable pub signed_front : List ℕ → Result (ℤ × List ℕ) Cause
signed_front bs = do
  (z, n) ← signed bs
  Ok (z, drop n bs)

-- ---- at a place: the number, and the place after it. Places count from the start; past the end there are no bytes

unfoldable pub unsigned_at : List ℕ → ℕ → Result (ℕ × ℕ) Cause
unsigned_at s at = do
  (v, n) ← unsigned (drop at s)
  Ok (v, at + n)

unfoldable pub signed_at : List ℕ → ℕ → Result (ℤ × ℕ) Cause
signed_at s at = do
  (z, n) ← signed (drop at s)
  Ok (z, at + n)

-- ---- when a number doesn't read

-- short: the bytes end before it does, and fewer than ten of them were there
abbrev pub EndsEarly : List ℕ → Type 0
EndsEarly bs = (length bs < 10) × All (λ b. 128 ≤ b) bs

-- what bytes come to, seven bits each, the lowest first
unfoldable pub value_of : List ℕ → ℕ
value_of [] = 0
value_of (b ∷ bs) = b % 128 + 128 * value_of bs

-- too wide: ten bytes are there, the first nine ask for another, and the tenth does too or the value is outside 64 bits
abbrev pub IsWide : (ℕ → Type 0) → List ℕ → Type 0
IsWide outside bs =
    (10 ≤ length bs) × All (λ b. 128 ≤ b) (take 9 bs)
    × ((128 ≤ slice_index bs 9) ⊎ outside (value_of (take 10 bs)))

-- an unsigned number: from 2^64 on
abbrev pub IsWideUnsigned : List ℕ → Type 0
IsWideUnsigned bs = IsWide (λ v. 2 ^ 64 ≤ v) bs

-- a signed one, in two's complement of 70 bits: below -2^63, or above 2^63-1 (`mag z` is n for n, and n for -(n + 1))
abbrev pub IsWideSigned : List ℕ → Type 0
IsWideSigned bs = IsWide (λ v. 2 ^ 63 ≤ mag (complement v 10)) bs
