-- Numbers at the front of bytes: a value, and the bytes after it (RULES, "Numbers"). The least significant byte comes
-- first. Where fewer bytes are there than the number has, there is none.
-- Assumes nothing.
use Rattle.std.specs.Prelude.{◌≡◌, ◌≤◌, ℕ, List, [], ◌∷◌, Option, Some, None, Result, Ok, Err, length, take, drop}
use Rattle.std.specs.Prelude.{nat_lt, if◌then◌else◌}
use Rattle.std.specs.Int.{w16, w32, w64, from_le_bytes}

unfoldable pub byte_front : List ℕ → Option (ℕ × List ℕ)
byte_front [] = None
byte_front (b ∷ bs) = Some (b, bs)

unfoldable pub u16_front : List ℕ → Option (ℕ × List ℕ)
u16_front bs = if nat_lt (length bs) 2 then None else Some (from_le_bytes w16 (take 2 bs), drop 2 bs)

unfoldable pub u32_front : List ℕ → Option (ℕ × List ℕ)
u32_front bs = if nat_lt (length bs) 4 then None else Some (from_le_bytes w32 (take 4 bs), drop 4 bs)

unfoldable pub u64_front : List ℕ → Option (ℕ × List ℕ)
u64_front bs = if nat_lt (length bs) 8 then None else Some (from_le_bytes w64 (take 8 bs), drop 8 bs)

-- ---- reading at a place of a list, and at the front of the bytes from there on

-- the place after what was read stands for the bytes after it
abbrev pub ReadsTo : {A E : Type 0} → List ℕ → Result (A × ℕ) E → Result (A × List ℕ) E → Type 0
ReadsTo s (Ok (x, next)) front = (next ≤ length s) × (front ≡ Ok (x, drop next s))
ReadsTo s (Err e) front = front ≡ Err e

-- the same of what has a fixed width, so that the place after it is known
abbrev pub ReadsUpTo : {A : Type 0} → List ℕ → ℕ → Option A → Option (A × List ℕ) → Type 0
ReadsUpTo s next (Some x) front = (next ≤ length s) × (front ≡ Some (x, drop next s))
ReadsUpTo s next None front = front ≡ None
