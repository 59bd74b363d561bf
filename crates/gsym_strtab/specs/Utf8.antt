-- UTF-8 (RFC 3629), and the length of a sequence by its first byte (RULES). The grammar, in section 4 of the RFC:
--   UTF8-octets = *( UTF8-char )
--   UTF8-char   = UTF8-1 / UTF8-2 / UTF8-3 / UTF8-4
--   UTF8-1      = %x00-7F
--   UTF8-2      = %xC2-DF UTF8-tail
--   UTF8-3      = %xE0 %xA0-BF UTF8-tail / %xE1-EC 2( UTF8-tail ) / %xED %x80-9F UTF8-tail / %xEE-EF 2( UTF8-tail )
--   UTF8-4      = %xF0 %x90-BF 2( UTF8-tail ) / %xF1-F3 3( UTF8-tail ) / %xF4 %x80-8F 2( UTF8-tail )
--   UTF8-tail   = %x80-BF
-- Assumes nothing.
use Rattle.std.specs.Prelude.{ℕ, suc, Bool, true, false, List, [], ◌∷◌, nat_le, length, if◌then◌else◌}

-- the bytes from low to high, both of them included
pub data Range : Type 0 where
  range : ℕ → ℕ → Range

abbrev pub within : Range → ℕ → Bool
within (range low high) b = if nat_le low b then nat_le b high else false

abbrev pub tail : Range
tail = range 0x80 0xbf

-- UTF8-char: its alternatives in the grammar's order, each as the ranges of its bytes
abbrev pub characters : List (List Range)
characters =
    (range 0x00 0x7f ∷ []) ∷
    (range 0xc2 0xdf ∷ tail ∷ []) ∷
    (range 0xe0 0xe0 ∷ range 0xa0 0xbf ∷ tail ∷ []) ∷
    (range 0xe1 0xec ∷ tail ∷ tail ∷ []) ∷
    (range 0xed 0xed ∷ range 0x80 0x9f ∷ tail ∷ []) ∷
    (range 0xee 0xef ∷ tail ∷ tail ∷ []) ∷
    (range 0xf0 0xf0 ∷ range 0x90 0xbf ∷ tail ∷ tail ∷ []) ∷
    (range 0xf1 0xf3 ∷ tail ∷ tail ∷ tail ∷ []) ∷
    (range 0xf4 0xf4 ∷ range 0x80 0x8f ∷ tail ∷ tail ∷ []) ∷
    []

-- what a first byte says: the ranges of the bytes that must follow it, or that no character starts so
pub data Start : Type 0 where
  starts : List Range → Start
  nowhere : Start

abbrev pub after : ℕ → List (List Range) → Start
after b [] = nowhere
after b ([] ∷ others) = after b others
after b ((r ∷ rs) ∷ others) = if within r b then starts rs else after b others

unfoldable pub followers : ℕ → Start
followers b = after b characters

-- UTF8-octets, where bytes in the given ranges are still owed to the character begun before
abbrev pub begun : Start → (List Range → Bool) → Bool
begun (starts rs) rest = rest rs
begun nowhere rest = false

unfoldable pub octets : List Range → List ℕ → Bool
octets [] [] = true
octets (r ∷ rs) [] = false
octets [] (b ∷ bs) = begun (followers b) (λ rs. octets rs bs)
octets (r ∷ rs) (b ∷ bs) = if within r b then octets rs bs else false

unfoldable pub utf8 : List ℕ → Bool
utf8 bs = octets [] bs

-- the length of a sequence by its first byte: 1 for 00 to 7f, 2 for c2 to df, 3 for e0 to ef, 4 for f0 to f4, else 0
unfoldable pub sequence_len : ℕ → ℕ
sequence_len b =
    if within (range 0x00 0x7f) b then 1
    else if within (range 0xc2 0xdf) b then 2
    else if within (range 0xe0 0xef) b then 3
    else if within (range 0xf0 0xf4) b then 4 else 0

-- how many bytes a character has that starts so, 0 where none does
abbrev pub size_of : Start → ℕ
size_of (starts rs) = suc (length rs)
size_of nowhere = 0
