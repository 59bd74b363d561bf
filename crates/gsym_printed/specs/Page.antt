-- Writing into lent bytes: a page is the bytes and how many bytes were written so far, whether or not they fit.
-- Assumes nothing.
use Rattle.std.specs.Prelude.{ℕ, zero, suc, ◌+◌, ◌-◌, ◌/◌, ◌%◌, ◌^◌, List, [], ◌∷◌, ◌++◌, length, min, max, slice_set}
use Rattle.std.specs.Prelude.{codes, nat_lt, if◌then◌else◌}

-- a byte goes to its place, where there is room for it, and counts; the count stays at 2^64-1, which is above every
-- list in memory
unfoldable pub with_byte : List ℕ × ℕ → ℕ → List ℕ × ℕ
with_byte page b = (slice_set page.0 page.1 b, min (page.1 + 1) (max (length page.0) (2 ^ 64 - 1)))

-- the bytes of a text, one after the other
unfoldable pub put : List ℕ × ℕ → List ℕ → List ℕ × ℕ
put page [] = page
put page (b ∷ bs) = put (with_byte page b) bs

-- a text and then another: as `++`, but no proof computes it unless it is named, so that a text stays one
unfoldable pub joined : List ℕ → List ℕ → List ℕ
joined s t = s ++ t

infixl 60 ◌&◌
abbrev pub ◌&◌ : List ℕ → List ℕ → List ℕ
s & t = joined s t

-- ---- numbers

-- a digit below 16
abbrev pub digit_byte : ℕ → ℕ
digit_byte d = if nat_lt d 10 then 48 + d else 87 + d

-- the last k hexadecimal digits of a number
unfoldable pub last_digits : ℕ → ℕ → List ℕ
last_digits zero n = []
last_digits (suc k) n = last_digits k (n / 16) ++ digit_byte (n % 16) ∷ []

-- how many hexadecimal digits a number has, if k are enough
unfoldable pub digit_count : ℕ → ℕ → ℕ
digit_count zero n = 0
digit_count (suc k) n = if nat_lt n 16 then 1 else suc (digit_count k (n / 16))

-- an address with all of its 16 digits, and with as many as it has
unfoldable pub wide_hex : ℕ → List ℕ
wide_hex n = codes "0x" & last_digits 16 n

unfoldable pub hex : ℕ → List ℕ
hex n = codes "0x" & last_digits (digit_count 16 n) n
