-- The words of an input, and the address that a word is.
-- Assumes nothing.
use Rattle.std.specs.Prelude.{ℕ, ◌+◌, ◌-◌, ◌*◌, ◌^◌, Bool, not, ◌&&◌, ◌||◌, List, [], ◌∷◌, ◌++◌, length, drop, nat_le}
use Rattle.std.specs.Prelude.{nat_lt, ◌==◌, slice_index, if◌then◌else◌, Option, Some, None, option_and_then}
use Rattle.std.specs.List.{prefix_len}

-- ---- words

-- blank, tab, carriage return and newline part words
unfoldable pub parts : ℕ → Bool
parts b = (b == 32) || (b == 9) || (b == 13) || (b == 10)

-- a word that has ended, if it has any bytes
abbrev pub ended : List ℕ → List (List ℕ)
ended [] = []
ended (b ∷ bs) = (b ∷ bs) ∷ []

-- the words of the rest, behind the first bytes of one
unfoldable pub words_onto : List ℕ → List ℕ → List (List ℕ)
words_onto word [] = ended word
words_onto word (b ∷ bs) = if parts b then ended word ++ words_onto [] bs else words_onto (word ++ b ∷ []) bs

-- the words of an input, in order
unfoldable pub words : List ℕ → List (List ℕ)
words input = words_onto [] input

-- how many bytes at the front part words
unfoldable pub blank_count : List ℕ → ℕ
blank_count s = prefix_len parts s

-- how many bytes the word at the front has
unfoldable pub word_len : List ℕ → ℕ
word_len s = prefix_len (λ b. not (parts b)) s

-- ---- addresses

-- a word without 0x or 0X before it
abbrev pub digits_of : List ℕ → List ℕ
digits_of w =
    if nat_le 2 (length w) && (slice_index w 0 == 48) && ((slice_index w 1 == 120) || (slice_index w 1 == 88))
    then drop 2 w
    else w

abbrev pub digit_of : ℕ → Option ℕ
digit_of b =
    if nat_le 48 b && nat_le b 57 then Some (b - 48)
    else if nat_le 65 b && nat_le b 70 then Some (b - 65 + 10)
    else if nat_le 97 b && nat_le b 102 then Some (b - 97 + 10)
    else None

-- the number of these digits behind a number; none where one is no digit, or it takes more than 64 bits
unfoldable pub hex_onto : ℕ → List ℕ → Option ℕ
hex_onto v [] = Some v
hex_onto v (b ∷ bs) = option_and_then (λ d. if nat_lt v (2 ^ 60) then hex_onto (v * 16 + d) bs else None) (digit_of b)

-- the address that a word is: hexadecimal, with or without 0x or 0X, at least one digit and at most 64 bits
unfoldable pub address_of : List ℕ → Option ℕ
address_of w = if length (digits_of w) == 0 then None else hex_onto 0 (digits_of w)
