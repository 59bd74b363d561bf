-- LEB128 numbers at the front of bytes (DWARF 5, section 7.6; RULES, "LEB128"): a value, and how many bytes it takes.
--   byte from 128    seven bits of the number, and another byte follows
--   byte below 128   its last seven bits; the upper of them is the sign of a signed number
-- The lowest seven bits come first. A number has at most ten bytes; those above what it needs are padding.
-- Assumes nothing.
use Rattle.std.specs.Prelude.{ℕ, zero, suc, ◌+◌, ◌-◌, ◌*◌, ◌^◌, List, [], ◌∷◌, ℤ, pos, ◌-ℤ◌, Result, Ok, Err, nat_lt}
use Rattle.std.specs.Prelude.{if◌then◌else◌}
use Rattle.std.specs.Int.Signed.{mag}
use Rattle.gsym_reads.specs.Steps.{◌>>=◌, ◌>>◌, need}
use Rattle.gsym_leb128.specs.declared.Cause.{Cause}
use Rattle.gsym_leb128.specs.declared.Cause.TheVariants.{Short, Wide}

-- the digits in groups of seven bits, of which there may be k, and how many groups there are
unfoldable pub digits : ℕ → List ℕ → Result (ℕ × ℕ) Cause
digits zero bs = Err Wide
digits (suc k) [] = Err Short
digits (suc k) (b ∷ bs) =
    if nat_lt b 128 then Ok (b, 1)
    else do
      (v, n) ← digits k bs
      Ok (b - 128 + 128 * v, 1 + n)

-- n groups with the digits v, in two's complement of 7n bits
abbrev pub complement : ℕ → ℕ → ℤ
complement v n = if nat_lt (2 * v) (128 ^ n) then pos v else pos v -ℤ pos (128 ^ n)

-- the unsigned number: below 2^64
unfoldable pub unsigned : List ℕ → Result (ℕ × ℕ) Cause
unsigned bs = do
  (v, n) ← digits 10 bs
  need (nat_lt v (2 ^ 64)) Wide
  Ok (v, n)

-- the signed number: from -2^63 to 2^63-1 (`mag z` is n for n, and n for -(n + 1))
unfoldable pub signed : List ℕ → Result (ℤ × ℕ) Cause
signed bs = do
  (v, n) ← digits 10 bs
  need (nat_lt (mag (complement v n)) (2 ^ 63)) Wide
  Ok (complement v n, n)
