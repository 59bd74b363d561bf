-- A text that steers no terminal: no control byte, no C1 control and no mark that turns the direction of writing is in
-- it, except newlines.
-- Assumes nothing.
use Rattle.std.specs.Prelude.{◌≡◌, ℕ, Bool, true, ◌&&◌, ◌||◌, not, List, Contains, length, nat_lt, ◌==◌, slice_index}
use Rattle.std.specs.Prelude.{if◌then◌else◌}
use Rattle.std.specs.List.{concat, list_all}
use Rattle.gsym_types.specs.declared.Refusal.{Refusal}
use Rattle.gsym_printed.specs.declared.view.Form.{Form}
use Rattle.gsym_printed.specs.declared.view.View.{View}
use Rattle.gsym_printed.specs.Pieces.{char_len, is_control, is_mark, shown_text}
use Rattle.gsym_printed.specs.Printed.{name_of}
use Rattle.gsym_printed.specs.Answers.{answer_text, answers_text}

-- a byte that is no control byte and stands in no character unless it is one, or a newline
abbrev pub is_plain_byte : ℕ → Bool
is_plain_byte b = not (is_control b) || (b == 10)

-- such a byte, or a character of UTF-8 that is no mark
unfoldable pub is_plain_piece : List ℕ → Bool
is_plain_piece p =
    if length p == 1 then is_plain_byte (slice_index p 0)
    else nat_lt 0 (length p) && (char_len p == length p) && not (is_mark p)

-- pieces, one after the other. None begins with a byte from 128 to 159, so that no mark stands across two.
pub record IsPlain (text : List ℕ) : Type 0 where
  pub pieces : List (List ℕ)
  pub each : list_all is_plain_piece pieces ≡ true
  pub whole : concat pieces ≡ text

-- such a text that has no newline in it either, so that nothing in it begins a line
pub record IsPlainLine (text : List ℕ) : Type 0 where
  pub plain : IsPlain text
  pub unbroken : ¬ Contains text 10

-- every text
pub record PlainTexts : Type 0 where
  pub answer : (view : View) (file word : List ℕ) → IsPlain (answer_text view file word)
  pub answers : (view : View) (file input : List ℕ) → IsPlain (answers_text view file input)
  pub shown : (form : Form) (bytes : List ℕ) → IsPlainLine (shown_text form bytes)
  pub refusal : (r : Refusal) → IsPlainLine (name_of r)
