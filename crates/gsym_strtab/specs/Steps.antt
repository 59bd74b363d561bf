-- What the private functions are held to: the range of a sequence's second byte, the length of the character that bytes
-- begin with, and that of a run. No public function's contract cites this.
-- Assumes nothing.
use Rattle.std.specs.Prelude.{ℕ, zero, suc, ◌+◌, Bool, true, false, List, [], ◌∷◌, ◌==◌, length, if◌then◌else◌}
use Rattle.gsym_strtab.specs.Utf8.{Range, range, within, tail, Start, starts, nowhere, followers}

-- the range of the second byte, by the first: a0 to bf after e0, 80 to 9f after ed, 90 to bf after f0, 80 to 8f after
-- f4, else 80 to bf
unfoldable pub second : ℕ → Range
second b =
    if b == 0xe0 then range 0xa0 0xbf
    else if b == 0xed then range 0x80 0x9f
    else if b == 0xf0 then range 0x90 0xbf
    else if b == 0xf4 then range 0x80 0x8f else tail

-- the bytes begin with one byte of each range, in order
unfoldable pub met : List Range → List ℕ → Bool
met [] bs = true
met (r ∷ rs) [] = false
met (r ∷ rs) (b ∷ bs) = if within r b then met rs bs else false

abbrev pub sized : Start → List ℕ → ℕ
sized (starts rs) bs = if met rs bs then suc (length rs) else 0
sized nowhere bs = 0

-- the length of the character that the bytes begin with, 0 where they begin with none
unfoldable pub char_len : List ℕ → ℕ
char_len [] = 0
char_len (b ∷ bs) = sized (followers b) bs

-- how many of the first bytes lie in a range, up to the first that doesn't
unfoldable pub run_len : Range → List ℕ → ℕ
run_len r [] = 0
run_len r (b ∷ bs) = if within r b then suc (run_len r bs) else 0

-- how many of the first k bytes lie in a range
unfoldable pub count_in : Range → ℕ → List ℕ → ℕ
count_in r zero bs = 0
count_in r (suc k) [] = 0
count_in r (suc k) (b ∷ bs) = (if within r b then 1 else 0) + count_in r k bs
