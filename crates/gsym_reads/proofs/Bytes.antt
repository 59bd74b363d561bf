-- Numbers of any width, little-endian: reading one off the front of a list of bytes, and writing one.
--
--   width in bytes   least significant byte first   a number from 0 to 256 ^ width - 1
--
-- Assumes nothing.
use Rattle.std.proofs.Common.{ℕ, zero, suc, ◌+◌, ◌*◌, ◌/◌, ◌%◌, List, [], ◌∷◌, Option, Some, None, length, take, drop}
use Rattle.std.proofs.Common.{leb, if◌then◌else◌}

-- the number that bytes say: the first counts once, each next one 256 times as much
unfoldable pub le : List ℕ → ℕ
le [] = 0
le (b ∷ bs) = b + 256 * le bs

-- the number in the first bytes of a list; where there are fewer there is none
unfoldable pub le_in : ℕ → List ℕ → Option ℕ
le_in width bs = if leb width (length bs) then Some (le (take width bs)) else None

-- the number at a place of a list
abbrev pub le_at : ℕ → List ℕ → ℕ → Option ℕ
le_at width s at = le_in width (drop at s)

-- the bytes that say a number, modulo 256 ^ width
unfoldable pub le_of : ℕ → ℕ → List ℕ
le_of zero v = []
le_of (suc width) v = v % 256 ∷ le_of width (v / 256)
