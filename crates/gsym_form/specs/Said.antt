-- What a text says, line by line (RULES, "A file as text"): the first wrong line ends it.
-- Assumes nothing.
use Rattle.std.specs.Prelude.{ℕ, ◌+◌, Bool, true, false, ◌||◌, not, nat_le, ◌==◌, if◌then◌else◌}
use Rattle.std.specs.Prelude.{List, [], ◌∷◌, ◌++◌, length, drop, codes, Option, Some, None, Result, Ok, Err}
use Rattle.std.specs.List.{slice_split, starts_with, count_by, prefix_len}
use Rattle.std.specs.Option.{option_or}
use Rattle.std.specs.Cmp.Lexicographic.{pointwise}
use Rattle.std.proofs.Math.Dec.{eqb}
use Rattle.gsym_types.specs.declared.Address.{Address}
use Rattle.gsym_types.specs.declared.StrOffset.{StrOffset}
use Rattle.gsym_parser.specs.declared.entries.FileInfo.{FileInfo}
use Rattle.gsym_reads.specs.Steps.{◌>>=◌, ◌>>◌, need, told}
use Rattle.gsym_form.specs.declared.wrong.Wrong.{Wrong}
use Rattle.gsym_form.specs.declared.wrong.Wrong.TheVariants as wrong
use Rattle.gsym_form.specs.Words.{Read, word, is_word, behind_word, begins_with, number, text, hex, over, is_over}
use Rattle.gsym_form.specs.Words.{is_text, most_short, most_long}

-- ---- what was said so far

-- an item and an entry, each with its line, counted from 1
pub record SaidItem : Type 0 where
  pub kind : ℕ
  pub bytes : List ℕ
  pub line : ℕ

pub record SaidEntry : Type 0 where
  pub addr : Address
  pub size : ℕ
  pub name : StrOffset
  pub items : List SaidItem
  pub line : ℕ

-- the string table, the files and their lines, the entries
pub record Said : Type 0 where
  pub strings : List ℕ
  pub files : List FileInfo
  pub file_lines : List ℕ
  pub entries : List SaidEntry

-- no line has said anything; the form's own line stands above; `end` does
pub data Stage : Type 0 where
  before : Stage
  within : Stage
  behind : Stage

-- with the offset of each text that a `string` line or a file or an entry put into the table, the first that it had;
-- whether a line of strings was read; and whether one of a file or an entry was
pub record Reading : Type 0 where
  pub said : Said
  pub texts : List ℕ → Option ℕ
  pub stage : Stage
  pub has_strings : Bool
  pub has_more : Bool

abbrev pub nothing_said : Reading
nothing_said = record {
  said = record { strings = []; files = []; file_lines = []; entries = [] };
  texts = λ t. None;
  stage = before;
  has_strings = false;
  has_more = false;
}

-- ---- strings

abbrev pub with_strings : Reading → List ℕ → Reading
with_strings r bytes = record {
  said = record {
    strings = r.said.strings ++ bytes;
    files = r.said.files;
    file_lines = r.said.file_lines;
    entries = r.said.entries;
  };
  texts = r.texts;
  stage = r.stage;
  has_strings = r.has_strings;
  has_more = r.has_more;
}

-- a text more, at an offset: one that was known keeps the first that it had
abbrev pub with_text : (List ℕ → Option ℕ) → List ℕ → ℕ → List ℕ → Option ℕ
with_text texts t offset other = option_or (texts other) (if pointwise eqb t other then Some offset else None)

-- a text and a zero byte at the end of the table: its offset
unfoldable pub put_text : Reading → List ℕ → Result (ℕ × Reading) Wrong
put_text r t = do
  need (nat_le (length r.said.strings) most_short) wrong.FullStrings
  Ok (
    length r.said.strings,
    record {
      said = (with_strings r (t ++ 0 ∷ [])).said;
      texts = with_text r.texts t (length r.said.strings);
      stage = r.stage;
      has_strings = r.has_strings;
      has_more = r.has_more;
    },
  )

-- nothing stands behind the last such byte
unfoldable pub ends_in : ℕ → List ℕ → Bool
ends_in byte [] = true
ends_in byte (b ∷ []) = b == byte
ends_in byte (b ∷ c ∷ bs) = ends_in byte (c ∷ bs)

abbrev pub known_or_put : Reading → List ℕ → Option ℕ → Result (ℕ × Reading) Wrong
known_or_put r t (Some offset) = Ok (offset, r)
known_or_put r t None = do
  need (ends_in 0 r.said.strings) wrong.FullStrings
  put_text r t

-- where it stands by itself, or at the end
unfoldable pub offset_of : Reading → List ℕ → Result (ℕ × Reading) Wrong
offset_of r t = known_or_put r t (r.texts t)

-- the string at an offset is this text
unfoldable pub is_string_at : List ℕ → ℕ → List ℕ → Bool
is_string_at strings offset t = starts_with eqb (drop offset strings) (t ++ 0 ∷ [])

-- a STRING: an offset, a text, or both, the offset first
unfoldable pub text_string : Reading → List ℕ → Read (StrOffset × Reading)
text_string r line = do
  (t, rest) ← text line
  (offset, after) ← offset_of r t
  Ok ((record { 0 = offset }, after), rest)

unfoldable pub same_text : Reading → ℕ → List ℕ → Result (List ℕ) Wrong
same_text r offset line = do
  (t, rest) ← text line
  need (is_string_at r.said.strings offset t) wrong.OtherString
  Ok rest

unfoldable pub offset_string : Reading → List ℕ → Read (StrOffset × Reading)
offset_string r line = do
  (offset, rest) ← number most_short line
  last ← if is_text rest then same_text r offset rest else Ok rest
  Ok ((record { 0 = offset }, r), last)

unfoldable pub string : Reading → List ℕ → Read (StrOffset × Reading)
string r line = if is_text line then text_string r line else offset_string r line

-- ---- the lines of strings, which stand before any file or entry

unfoldable pub early : Reading → Result Reading Wrong
early r = do
  need (not r.has_more) wrong.LateStrings
  Ok (record { said = r.said; texts = r.texts; stage = r.stage; has_strings = true; has_more = r.has_more })

-- `string TEXT`
unfoldable pub read_string : Reading → List ℕ → Result Reading Wrong
read_string r line = do
  began ← early r
  (t, rest) ← text line
  over rest
  (offset, after) ← put_text began t
  Ok after

-- `bytes TEXT`
unfoldable pub read_bytes : Reading → List ℕ → Result Reading Wrong
read_bytes r line = do
  began ← early r
  (t, rest) ← text line
  over rest
  Ok (with_strings began t)

-- where there is none of them, the table begins with a zero byte
unfoldable pub with_table : Reading → Result Reading Wrong
with_table r = do
  (offset, after) ← if r.has_strings then Ok (0, r) else put_text r []
  Ok (record { said = after.said; texts = after.texts; stage = after.stage; has_strings = true; has_more = true })

-- ---- files, entries and their items

-- `file STRING STRING`
unfoldable pub read_file : ℕ → Reading → List ℕ → Result Reading Wrong
read_file n r line = do
  began ← with_table r
  ((directory, second), rest) ← string began line
  ((filename, after), rest) ← string second rest
  over rest
  Ok (record {
    said = record {
      strings = after.said.strings;
      files = after.said.files ++ record { directory = directory; filename = filename } ∷ [];
      file_lines = after.said.file_lines ++ n ∷ [];
      entries = after.said.entries;
    };
    texts = after.texts;
    stage = after.stage;
    has_strings = after.has_strings;
    has_more = after.has_more;
  })

-- an entry whose information didn't read
unfoldable pub is_unread : List ℕ → Bool
is_unread line = is_word (codes "?5") (word line)

abbrev pub with_entries : Reading → List SaidEntry → Reading
with_entries r entries = record {
  said = record {
    strings = r.said.strings;
    files = r.said.files;
    file_lines = r.said.file_lines;
    entries = entries;
  };
  texts = r.texts;
  stage = r.stage;
  has_strings = r.has_strings;
  has_more = r.has_more;
}

-- `entry ADDRESS SIZE STRING`
unfoldable pub read_entry : ℕ → Reading → List ℕ → Result Reading Wrong
read_entry n r line = do
  began ← with_table r
  (addr, rest) ← number most_long line
  need (not (is_unread rest)) wrong.UnreadEntry
  (size, rest) ← number most_short rest
  ((name, after), rest) ← string began rest
  over rest
  Ok (with_entries after (after.said.entries
      ++ record { addr = record { 0 = addr }; size = size; name = name; items = []; line = n } ∷ []))

-- an item more of the last entry, if there is one
unfoldable pub with_item : SaidItem → List SaidEntry → List SaidEntry
with_item item [] = []
with_item item (e ∷ []) =
    record { addr = e.addr; size = e.size; name = e.name; items = e.items ++ item ∷ []; line = e.line } ∷ []
with_item item (e ∷ f ∷ es) = e ∷ with_item item (f ∷ es)

abbrev pub has_entry : List SaidEntry → Bool
has_entry [] = false
has_entry (e ∷ es) = true

-- `TYPE HEX`
unfoldable pub read_item : ℕ → Reading → List ℕ → Result Reading Wrong
read_item n r line = do
  need (has_entry r.said.entries) wrong.NoEntry
  (kind, rest) ← number most_short line
  (bytes, rest) ← hex rest
  over rest
  Ok (with_entries r (with_item (record { kind = kind; bytes = bytes; line = n }) r.said.entries))

-- ---- a line

abbrev pub at_stage : Stage → Reading → Reading
at_stage stage r = record {
  said = r.said;
  texts = r.texts;
  stage = stage;
  has_strings = r.has_strings;
  has_more = r.has_more;
}

-- `gsym 1`
unfoldable pub read_start : Reading → List ℕ → Result Reading Wrong
read_start r line = do
  need (is_word (codes "gsym") (word line)) wrong.Start
  let rest = behind_word (word line)
  need (is_word (codes "1") (word rest)) wrong.Start
  over (behind_word (word rest))
  Ok (at_stage within r)

-- `end`
unfoldable pub read_end : Reading → List ℕ → Result Reading Wrong
read_end r line = do
  over line
  Ok (at_stage behind r)

-- a blank or a tab stands before all its words
unfoldable pub is_indented : List ℕ → Bool
is_indented line =
    let rest = drop (prefix_len (λ b. b == 13) line) line in begins_with 32 rest || begins_with 9 rest

unfoldable pub read_words : ℕ → Reading → List ℕ → Result Reading Wrong
read_words n r line =
    if is_word (codes "string") (word line) then read_string r (behind_word (word line))
    else if is_word (codes "bytes") (word line) then read_bytes r (behind_word (word line))
    else if is_word (codes "file") (word line) then read_file n r (behind_word (word line))
    else if is_word (codes "entry") (word line) then read_entry n r (behind_word (word line))
    else if is_word (codes "end") (word line) then read_end r (behind_word (word line))
    else if is_indented line then read_item n r line
    else Err wrong.Word

abbrev pub staged_line : Stage → ℕ → Reading → List ℕ → Result Reading Wrong
staged_line before n r line = read_start r line
staged_line within n r line = read_words n r line
staged_line behind n r line = Err wrong.Behind

-- a line with no word says nothing
unfoldable pub line_said : ℕ → Reading → List ℕ → Result Reading Wrong
line_said n r line = if is_over line then Ok r else staged_line r.stage n r line

-- ---- a text

-- lines with their numbers; the first wrong one with its number
unfoldable pub lines_said : ℕ → Reading → List (List ℕ) → Result Reading (ℕ × Wrong)
lines_said n r [] = Ok r
lines_said n r (line ∷ lines) = do
  after ← told (λ w. (n, w)) (line_said n r line)
  lines_said (n + 1) after lines

abbrev pub is_newline : ℕ → Bool
is_newline b = b == 10

-- how many lines a text has: the last one maybe without a newline
unfoldable pub line_count : List ℕ → ℕ
line_count text = count_by is_newline text + (if ends_in 10 text then 0 else 1)

-- a text without `end` is wrong at the line behind its last
abbrev pub stage_ended : Stage → Result (Unit {0}) Wrong
stage_ended before = Err wrong.Start
stage_ended within = Err wrong.Unended
stage_ended behind = Ok tt

unfoldable pub text_said : List ℕ → Result Said (ℕ × Wrong)
text_said text = do
  r ← lines_said 1 nothing_said (slice_split is_newline text)
  told (λ w. (line_count text + 1, w)) (stage_ended r.stage)
  whole ← told (λ w. (line_count text + 1, w)) (with_table r)
  Ok whole.said
