-- What is printed of an address and of its frames, as text.
-- Assumes nothing.
use Rattle.std.specs.Prelude.{ℕ, Bool, true, false, ◌-◌, ◌&&◌, not, List, [], ◌∷◌, length, drop, ◌==◌, if◌then◌else◌}
use Rattle.std.specs.Prelude.{codes, decimal, Option, Some, None}
use Rattle.std.specs.List.{flat_map, suffix_len}
use Rattle.gsym_types.specs.declared.Position.{Position}
use Rattle.gsym_types.specs.declared.Refusal.{Refusal}
use Rattle.gsym_types.specs.declared.Refusal.TheVariants as refused
use Rattle.gsym_types.specs.declared.Text.{Text}
use Rattle.gsym_types.specs.Refusal.{number_of}
use Rattle.gsym_strtab.specs.Strings.{part_of}
use Rattle.gsym.specs.declared.chain.Call.{Call}
use Rattle.gsym_printed.specs.declared.view.Form.{Form}
use Rattle.gsym_printed.specs.declared.view.Form.TheVariants.{Lines, Pretty, Json}
use Rattle.gsym_printed.specs.declared.view.View.{View}
use Rattle.gsym_printed.specs.Page.{◌&◌, wide_hex}
use Rattle.gsym_printed.specs.Pieces.{shown_text}

-- ---- words between the parts, by the form

abbrev pub is_pretty : Form → Bool
is_pretty Lines = false
is_pretty Pretty = true
is_pretty Json = false

abbrev pub is_json : Form → Bool
is_json Lines = false
is_json Pretty = false
is_json Json = true

abbrev pub after_address : Form → List ℕ
after_address form = if is_pretty form then codes ": " else codes "\n"

abbrev pub after_name : Form → List ℕ
after_name form = if is_pretty form then codes " at " else codes "\n"

abbrev pub before_outer : Form → List ℕ
before_outer form = if is_pretty form then codes " (inlined by) " else []

-- ---- a frame

-- how many bytes at the end are no slash
unfoldable pub base_len : List ℕ → ℕ
base_len s = suffix_len (λ b. not (b == 47)) s

-- the bytes behind the last slash, all where there is none
abbrev pub base_name : List ℕ → List ℕ
base_name s = drop (length s - base_len s) s

-- a text of the file
abbrev pub text_of : Form → List ℕ → Text → List ℕ
text_of form file t = shown_text form (part_of file t.place t.len)

-- the directory, a slash and the file, or the file's last part alone
unfoldable pub path_text : View → List ℕ → Position → List ℕ
path_text view file p =
    if view.base_names then shown_text view.form (base_name (part_of file p.file.place p.file.len))
    else text_of view.form file p.dir & (if p.dir.len == 0 then [] else codes "/") & text_of view.form file p.file

-- one line a frame says `?` of an unknown line
abbrev pub line_text : Form → ℕ → List ℕ
line_text form line = if is_pretty form && (line == 0) then codes "?" else decimal line

abbrev pub no_place : Form → List ℕ
no_place form = if is_pretty form then codes "??:?" else codes "??:0"

abbrev pub place_text : View → List ℕ → Option Position → List ℕ
place_text view file None = no_place view.form
place_text view file (Some p) = path_text view file p & codes ":" & line_text view.form p.line.0

unfoldable pub frame_text : View → List ℕ → Call → List ℕ
frame_text view file call =
    (if view.functions then text_of view.form file call.name & after_name view.form else [])
    & place_text view file call.position & codes "\n"

unfoldable pub outer_text : View → List ℕ → Call → List ℕ
outer_text view file call = before_outer view.form & frame_text view file call

-- from the innermost call out; without `inlines` the innermost alone
unfoldable pub calls_text : View → List ℕ → List Call → List ℕ
calls_text view file [] = []
calls_text view file (c ∷ cs) =
    frame_text view file c & (if view.inlines then flat_map (outer_text view file) cs else [])

-- ---- where there is no answer

unfoldable pub name_of : Refusal → List ℕ
name_of refused.UnknownAddress = codes "no symbol covers the address"
name_of refused.TooFewBytes = codes "the file ends inside its header or a table"
name_of refused.WrongMagic = codes "not a GSYM file, or one of the other byte order"
name_of refused.WrongVersion = codes "a version other than 1"
name_of refused.UnreadInfo = codes "the symbol's information doesn't read"
name_of refused.UnreadName = codes "the name of the symbol or of an inlined call doesn't read, or is not UTF-8"
name_of refused.UnknownFile = codes "a file index that is not below the file count"
name_of refused.UnreadPath = codes "a directory or a file name doesn't read"
name_of refused.UnreadLineHeader = codes "the header of a line table doesn't read: it is cut short"
name_of refused.UnreadInline = codes "an inline block doesn't read: it is cut short"
name_of refused.InlineSumTooLarge = codes "an inline range starts or ends above 2^64-1"
name_of refused.CallFileTooLarge = codes "a call file above 4,294,967,295"
name_of refused.TooDeep = codes "inlined calls on more than 64 levels"
name_of refused.TooManyFrames = codes "more frames than there is room for"
name_of refused.TooWide = codes "a number wider than 64 bits: from a broken producer, not a torn file"

-- `??` for the function and `??:0` for the position
unfoldable pub unknown_text : View → List ℕ
unknown_text view =
    (if view.functions then (if is_pretty view.form then codes "?? " else codes "??\n") else []) & codes "??:0\n"

-- a line that stands for the function, if a line does, and for the position
abbrev pub for_each_line : View → List ℕ → List ℕ
for_each_line view line = (if view.functions && not (is_pretty view.form) then line else []) & line

unfoldable pub refusal_line : Refusal → List ℕ
refusal_line r = codes "?" & decimal (number_of r) & codes " " & name_of r & codes "\n"

unfoldable pub refused_text : View → Refusal → List ℕ
refused_text view r = if view.refusals then for_each_line view (refusal_line r) else unknown_text view

-- ---- addresses

unfoldable pub address_text : View → ℕ → List ℕ
address_text view n = if view.addresses then wide_hex n & after_address view.form else []

-- ---- a word that is no address

unfoldable pub no_address_line : View → List ℕ → List ℕ
no_address_line view word = codes "?? '" & shown_text view.form word & codes "' is no address\n"

abbrev pub no_frames_text : View → List ℕ → List ℕ
no_frames_text view word = if view.refusals then for_each_line view (no_address_line view word) else unknown_text view

unfoldable pub no_address_text : View → List ℕ → List ℕ
no_address_text view word =
    (if view.addresses then codes "??" & after_address view.form else []) & no_frames_text view word
