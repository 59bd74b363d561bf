-- A text of the file, or a word of the user, as it may be shown: cut into pieces, each a character of UTF-8 or else a
-- single byte, none of which may steer a terminal.
-- Assumes nothing.
use Rattle.std.specs.Prelude.{ℕ, zero, suc, ◌+◌, ◌-◌, ◌*◌, Bool, false, ◌&&◌, ◌||◌, not, List, [], ◌∷◌, ◌++◌, length}
use Rattle.std.specs.Prelude.{take, max, nat_le, nat_lt, ◌==◌, slice_index, if◌then◌else◌, codes}
use Rattle.std.specs.List.{prefix_len}
use Rattle.gsym_strtab.specs.Utf8.{utf8, sequence_len}
use Rattle.gsym_printed.specs.declared.view.Form.{Form}
use Rattle.gsym_printed.specs.declared.view.Form.TheVariants.{Lines, Pretty, Json}
use Rattle.gsym_printed.specs.Page.{◌&◌, last_digits}

-- the length of the character at the front, 0 where the bytes there are none
unfoldable pub char_len : List ℕ → ℕ
char_len [] = 0
char_len (b ∷ bs) =
    if nat_le (sequence_len b) (length (b ∷ bs)) && utf8 (take (sequence_len b) (b ∷ bs)) then sequence_len b else 0

-- the length of the piece at the front
abbrev pub piece_len : List ℕ → ℕ
piece_len s = max 1 (char_len s)

-- ---- what may not reach a terminal: control bytes, C1 controls and marks that turn the direction of writing

-- a byte below 32, 127, or one from 128 to 159 that is in no character
abbrev pub is_control : ℕ → Bool
is_control b = nat_lt b 32 || (nat_le 127 b && nat_lt b 160)

-- U+0080 to U+009F
abbrev pub is_c1 : ℕ → ℕ → Bool
is_c1 b c = (b == 0xc2) && nat_lt c 0xa0

-- U+202A to U+202E, and U+2066 to U+2069
abbrev pub is_turn : ℕ → ℕ → ℕ → Bool
is_turn b c d =
    (b == 0xe2) && (((c == 0x80) && nat_le 0xaa d && nat_le d 0xae) || ((c == 0x81) && nat_le 0xa6 d && nat_le d 0xa9))

unfoldable pub is_mark : List ℕ → Bool
is_mark p =
    if length p == 1 then is_control (slice_index p 0)
    else if length p == 2 then is_c1 (slice_index p 0) (slice_index p 1)
    else if length p == 3 then is_turn (slice_index p 0) (slice_index p 1) (slice_index p 2)
    else false

-- the number of such a character
unfoldable pub mark_number : List ℕ → ℕ
mark_number p =
    if length p == 1 then slice_index p 0
    else if length p == 2 then slice_index p 1
    else if length p == 3 then 8192 + (slice_index p 1 - 128) * 64 + (slice_index p 2 - 128)
    else 0

-- ---- a piece as it is shown

-- on a terminal a question mark stands for each of these
abbrev pub shown_piece : List ℕ → List ℕ
shown_piece p = if is_mark p then codes "?" else p

-- in JSON they, quotes and backslashes are escaped, and a byte that is in no character is U+FFFD
unfoldable pub escaped_byte : ℕ → List ℕ
escaped_byte b =
    if nat_le 128 b then codes "\\ufffd"
    else if is_control b then codes "\\u" & last_digits 4 b
    else if (b == 34) || (b == 92) then (92 ∷ []) & (b ∷ [])
    else b ∷ []

unfoldable pub escaped_piece : List ℕ → List ℕ
escaped_piece p =
    if length p == 1 then escaped_byte (slice_index p 0)
    else if is_mark p then codes "\\u" & last_digits 4 (mark_number p)
    else p

abbrev pub piece_text : Form → List ℕ → List ℕ
piece_text Lines p = shown_piece p
piece_text Pretty p = shown_piece p
piece_text Json p = escaped_piece p

-- ---- all pieces

-- those of the bytes behind the first k, which are shown
unfoldable pub shown_rest : Form → ℕ → List ℕ → List ℕ
shown_rest form k [] = []
shown_rest form zero (b ∷ bs) =
    piece_text form (take (piece_len (b ∷ bs)) (b ∷ bs)) ++ shown_rest form (piece_len (b ∷ bs) - 1) bs
shown_rest form (suc k) (b ∷ bs) = shown_rest form k bs

unfoldable pub shown_text : Form → List ℕ → List ℕ
shown_text form s = shown_rest form 0 s

-- ---- bytes that are shown as they are

-- ASCII that is no control byte, no quote and no backslash
unfoldable pub is_bare : ℕ → Bool
is_bare b = nat_le 32 b && nat_lt b 127 && not ((b == 34) || (b == 92))

-- how many of these stand at the front
unfoldable pub bare_len : List ℕ → ℕ
bare_len s = prefix_len is_bare s
