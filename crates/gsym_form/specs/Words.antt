-- The words of a line (RULES, "A file as text"): a word is read at the front of what is left of the line, and what
-- stands behind it is left.
-- Assumes nothing.
use Rattle.std.specs.Prelude.{ℕ, ◌+◌, ◌*◌, Bool, true, false, ◌||◌, not, nat_lt, nat_le, ◌==◌, if◌then◌else◌}
use Rattle.std.specs.Prelude.{List, [], ◌∷◌, drop, codes, Option, Some, None, option_and_then, Result, Ok}
use Rattle.std.specs.List.{prefix_len, take_while, starts_with}
use Rattle.std.specs.Cmp.Lexicographic.{pointwise}
use Rattle.std.proofs.Math.Dec.{eqb}
use Rattle.hex.specs.Hex.{hex_digit_value, decode_of}
use Rattle.hex.specs.declared.error.FromHexError.{FromHexError}
use Rattle.gsym_reads.specs.Steps.{◌>>=◌, ◌>>◌, need, given, told}
use Rattle.gsym_form.specs.declared.wrong.Wrong.{Wrong}
use Rattle.gsym_form.specs.declared.wrong.Wrong.TheVariants.{Text, Number, Hex, TooMany}

-- what a word is, and what is left of the line
abbrev pub Read : Type 0 → Type 0
Read A = Result (A × List ℕ) Wrong

-- ---- where words begin and end

-- a blank, a tab, a carriage return
abbrev pub is_blank : ℕ → Bool
is_blank b = (b == 32) || (b == 9) || (b == 13)

-- from the next word on
unfoldable pub next_word : List ℕ → List ℕ
next_word line = drop (prefix_len is_blank line) line

abbrev pub begins_with : ℕ → List ℕ → Bool
begins_with c [] = false
begins_with c (b ∷ bs) = b == c

abbrev pub is_empty : List ℕ → Bool
is_empty [] = true
is_empty (b ∷ bs) = false

-- no word is left: what stands behind a `#` that begins a word says nothing
unfoldable pub is_over : List ℕ → Bool
is_over line = is_empty (next_word line) || begins_with 35 (next_word line)

-- a text is next
unfoldable pub is_text : List ℕ → Bool
is_text line = begins_with 34 (next_word line)

abbrev pub goes_on : ℕ → Bool
goes_on b = not (is_blank b)

-- the next word, where there is one and it is no text
unfoldable pub word : List ℕ → Option (List ℕ × List ℕ)
word line =
    if is_over line || is_text line then None
    else Some (take_while goes_on (next_word line), drop (prefix_len goes_on (next_word line)) (next_word line))

-- it is this one
abbrev pub is_word : List ℕ → Option (List ℕ × List ℕ) → Bool
is_word w (Some found) = pointwise eqb w found.0
is_word w None = false

-- what stands behind it
abbrev pub behind_word : Option (List ℕ × List ℕ) → List ℕ
behind_word (Some found) = found.1
behind_word None = []

-- ---- numbers

-- the digits to a base from here on, behind those that come to v
unfoldable pub digits_onto : (base v : ℕ) → List ℕ → Option ℕ
digits_onto base v [] = Some v
digits_onto base v (b ∷ bs) =
    option_and_then (λ d. if nat_lt d base then digits_onto base (v * base + d) bs else None) (hex_digit_value b)

abbrev pub at_most : ℕ → ℕ → Option ℕ
at_most most v = if nat_le v most then Some v else None

-- at least one digit, and no number above the limit
unfoldable pub digits_of : (base most : ℕ) → List ℕ → Option ℕ
digits_of base most bs = if is_empty bs then None else option_and_then (at_most most) (digits_onto base 0 bs)

-- decimal or, behind `0x`, hexadecimal
unfoldable pub number_of : (most : ℕ) → List ℕ → Option ℕ
number_of most w = if starts_with eqb w (codes "0x") then digits_of 16 most (drop 2 w) else digits_of 10 most w

unfoldable pub number : (most : ℕ) → List ℕ → Read ℕ
number most line = do
  (w, rest) ← given Number (word line)
  n ← given Number (number_of most w)
  Ok (n, rest)

-- of 32 and of 64 bits
abbrev pub most_short : ℕ
most_short = 4294967295

abbrev pub most_long : ℕ
most_long = 18446744073709551615

-- ---- texts in quotes

-- what stands before a byte of a text: nothing, a backslash, `\x`, or `\x` and its first digit
pub data Before : Type 0 where
  nothing : Before
  slash : Before
  escape : Before
  high : ℕ → Before

abbrev pub is_control : ℕ → Bool
is_control b = nat_lt b 32 || (b == 127)

abbrev pub behind_byte : ℕ → Option (List ℕ × List ℕ) → Option (List ℕ × List ℕ)
behind_byte b (Some (text, rest)) = Some (b ∷ text, rest)
behind_byte b None = None

-- a text whose quote is open, up to the quote that closes it: its bytes, and what stands behind it
unfoldable pub open_text : Before → List ℕ → Option (List ℕ × List ℕ)
open_text before [] = None
open_text nothing (b ∷ bs) =
    if b == 34 then Some ([], bs)
    else if b == 92 then open_text slash bs
    else if is_control b then None
    else behind_byte b (open_text nothing bs)
open_text slash (b ∷ bs) =
    if (b == 34) || (b == 92) then behind_byte b (open_text nothing bs)
    else if b == 120 then open_text escape bs
    else None
open_text escape (b ∷ bs) = option_and_then (λ h. open_text (high h) bs) (hex_digit_value b)
open_text (high h) (b ∷ bs) =
    option_and_then
    (λ l. if h * 16 + l == 0 then None else behind_byte (h * 16 + l) (open_text nothing bs))
    (hex_digit_value b)

abbrev pub open_words : List ℕ → Read (List ℕ)
open_words line = given Text (open_text nothing line)

-- a word ends here
abbrev pub is_apart : List ℕ → Bool
is_apart [] = true
is_apart (b ∷ bs) = is_blank b

unfoldable pub text : List ℕ → Read (List ℕ)
text line = do
  need (is_text line) Text
  (bytes, rest) ← open_words (drop 1 (next_word line))
  need (is_apart rest) Text
  Ok (bytes, rest)

-- ---- bytes in hexadecimal digits, none where no word is left

abbrev pub word_or_none : List ℕ → Option (List ℕ × List ℕ) → List ℕ × List ℕ
word_or_none line (Some found) = found
word_or_none line None = ([], line)

abbrev pub not_hex : FromHexError → Wrong
not_hex e = Hex

unfoldable pub hex : List ℕ → Read (List ℕ)
hex line = do
  need (not (is_text line)) Hex
  bytes ← told not_hex (decode_of (word_or_none line (word line)).0)
  Ok (bytes, (word_or_none line (word line)).1)

-- ---- the end of a line

unfoldable pub over : List ℕ → Result (Unit {0}) Wrong
over line = need (is_over line) TooMany
