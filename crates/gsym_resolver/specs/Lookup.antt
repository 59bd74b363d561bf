-- A whole lookup, told once in the order of RULES: opening (2, 3, 4), the entry (1), its information (5), its size (1),
-- its name (6), its items in list order (9 to 15), the row's position (7, 8), the first frame's name (6), each later
-- frame (6, 7, 8), and the positions moved up one. Texts are places of the file. `WithPlaces` tells the same in values.
-- Assumes nothing.
use Rattle.std.specs.Prelude.{ℕ, Bool, true, false, List, [], ◌∷◌, length, take, Some, None, Ok, Err, Option, Result}
use Rattle.std.specs.Prelude.{◌&&◌, if◌then◌else◌}
use Rattle.gsym_reads.specs.Steps.{◌>>=◌, ◌>>◌, need, given}
use Rattle.gsym_types.specs.declared.Address.{Address}
use Rattle.gsym_types.specs.declared.Answer.{Answer}
use Rattle.gsym_types.specs.declared.FileIndex.{FileIndex}
use Rattle.gsym_types.specs.declared.Frame.{Frame}
use Rattle.gsym_types.specs.declared.InlineFrame.{InlineFrame}
use Rattle.gsym_types.specs.declared.LineNumber.{LineNumber}
use Rattle.gsym_types.specs.declared.Options.{Options}
use Rattle.gsym_types.specs.declared.Position.{Position}
use Rattle.gsym_types.specs.declared.Refusal.{Refusal}
use Rattle.gsym_types.specs.declared.Refusal.TheVariants as refused
use Rattle.gsym_types.specs.declared.Text.{Text}
use Rattle.gsym_linetab.specs.declared.LineTableRow.{LineTableRow}
use Rattle.gsym_parser.specs.View.{View}
use Rattle.gsym_parser.specs.Header.{opened_of}
use Rattle.gsym_parser.specs.Search.{find_of}
use Rattle.gsym_parser.specs.Entries.{symbol_at, info_at, covered_by, file_at}
use Rattle.gsym_parser.specs.Texts.{text_at, name_at}
use Rattle.gsym_parser.specs.Items.{items_of}
use Rattle.gsym_resolver.specs.declared.landing.Entry.{Entry}
use Rattle.gsym_resolver.specs.Known.{question, nothing, read_items}

-- ---- the entry

-- where an address lands: the symbol's address, size and name, and the bytes of its address data list
pub record Landing : Type 0 where
  pub symbol : Address
  pub size : ℕ
  pub name : Text
  pub bytes : List ℕ

-- the entry (1), its information (5), its size (1), its name (6)
unfoldable pub landing_at : View → Address → Result Landing Refusal
landing_at v addr = do
  i ← given refused.UnknownAddress (find_of v addr)
  info ← given refused.UnreadInfo (info_at v i)
  need (covered_by addr (symbol_at v i) info.size) refused.UnknownAddress
  name ← given refused.UnreadName (name_at v (record { 0 = info.name }))
  Ok (record { symbol = symbol_at v i; size = info.size; name = name; bytes = info.bytes })

-- ---- positions

-- the position of a file index and a line: the row of the file table (7), its directory (8) and its file name (8)
unfoldable pub position_at : View → FileIndex → LineNumber → Result Position Refusal
position_at v index line = do
  row ← given refused.UnknownFile (file_at v index)
  dir ← given refused.UnreadPath (text_at v row.directory)
  name ← given refused.UnreadPath (text_at v row.filename)
  Ok (record { dir = dir; file = name; line = line })

-- a name and a position
abbrev pub frame_of : Text → Position → Frame
frame_of name p = record { name = name; position = p }

-- a frame's name (6), and the position of its call (7, 8)
unfoldable pub call_at : View → InlineFrame → Result Frame Refusal
call_at v f = do
  name ← given refused.UnreadName (name_at v f.name)
  p ← position_at v f.call_file f.call_line
  Ok (frame_of name p)

-- each of several frames
unfoldable pub calls_at : View → List InlineFrame → Result (List Frame) Refusal
calls_at v [] = Ok []
calls_at v (f ∷ fs) = do
  c ← call_at v f
  cs ← calls_at v fs
  Ok (c ∷ cs)

-- the position of the first call, or the row's
abbrev pub first_position : Position → List Frame → Position
first_position row [] = row
first_position row (c ∷ cs) = c.position

-- positions move up one: each call gets that of the one after it, the last the row's
unfoldable pub moved_up : Position → List Frame → List Frame
moved_up row [] = []
moved_up row (c ∷ cs) = frame_of c.name (first_position row cs) ∷ moved_up row cs

-- ---- the answer

-- an answer and its records
pub record LookedUp : Type 0 where
  pub answer : Answer
  pub frames : List Frame

-- the symbol of an entry under a name, at a position or none, with so many records
abbrev pub answer_of : Landing → Text → Option Position → (count : ℕ) → Answer
answer_of e name p count = record { addr = e.symbol; name = name; position = p; count = count; size = e.size }

-- the symbol alone
abbrev pub alone : Landing → LookedUp
alone e = record { answer = answer_of e e.name None 0; frames = [] }

-- the symbol at a position, with its records
abbrev pub placed : Landing → Text → Position → List Frame → LookedUp
placed e name p fs = record { answer = answer_of e name (Some p) (length fs); frames = fs }

-- with a row's position and the frames: the first frame only gives its name to the symbol (6), each later one is a
-- record (6, 7, 8), and the symbol gets the position of the first of these
unfoldable pub with_frames : View → Landing → Position → List InlineFrame → Result LookedUp Refusal
with_frames v e row [] = Ok (placed e e.name row [])
with_frames v e row (f ∷ fs) = do
  name ← given refused.UnreadName (name_at v f.name)
  calls ← calls_at v fs
  Ok (placed e name (first_position row calls) (moved_up row calls))

-- with what the items say: without a row there is no position and there are no frames; the row's position (7, 8)
unfoldable pub with_row : View → Landing → Option LineTableRow → List InlineFrame → Result LookedUp Refusal
with_row v e None fs = Ok (alone e)
with_row v e (Some row) fs = do
  p ← position_at v row.file_idx row.file_line
  with_frames v e p fs

-- the items in list order (9 to 15), and what they say
unfoldable pub with_code : View → Landing → Address → (inlining : Bool) → (room : ℕ) → Result LookedUp Refusal
with_code v e addr inlining room = do
  known ← read_items (question e.symbol addr room inlining) (items_of e.bytes) nothing
  with_row v e known.row known.frames

-- the answer of a file at an address, with options, and room for the frames of a block: if no code info is asked for,
-- nothing of the list is read
unfoldable pub lookup_of : List ℕ → Address → Options → (room : ℕ) → Result LookedUp Refusal
lookup_of file addr o room = do
  v ← opened_of file
  e ← landing_at v addr
  if o.code_info then with_code v e addr o.inlining room else Ok (alone e)

-- ---- what the functions are held to

-- what the code keeps of an entry
abbrev pub landing_of : Entry → Landing
landing_of e = record { symbol = e.symbol; size = e.size; name = e.name; bytes = e.bytes.now }

abbrev pub landed : Result Entry Refusal → Result Landing Refusal
landed (Ok e) = Ok (landing_of e)
landed (Err r) = Err r

-- the later frames: the position that the symbol gets, and the records
unfoldable pub later_frames : View → Position → List InlineFrame → Result (Position × List Frame) Refusal
later_frames v row fs = do
  calls ← calls_at v fs
  Ok (first_position row calls, moved_up row calls)

-- the symbol's position with the records in the list, or a refusal
abbrev pub placed_with : Result Position Refusal → List Frame → Result (Position × List Frame) Refusal
placed_with (Ok p) fs = Ok (p, fs)
placed_with (Err r) fs = Err r

-- an answer with the records in the list, or a refusal
abbrev pub looked_up : Result Answer Refusal → List Frame → Result LookedUp Refusal
looked_up (Ok a) fs = Ok (record { answer = a; frames = fs })
looked_up (Err r) fs = Err r

-- the records of a lookup in the list that is lent to it: what the list has where they are asked for, else none
abbrev pub records_asked : Options → List Frame → List Frame
records_asked o fs = if o.code_info && o.inlining then fs else []

-- the records of an answer, which stand at the front of a list; a refusal has none
abbrev pub records_in : Result Answer Refusal → List Frame → List Frame
records_in (Ok a) frames = take a.count frames
records_in (Err r) frames = []

-- position without inlining, or the symbol alone
abbrev pub plain_options : Bool → Options
plain_options code = record { code_info = code; inlining = false }

-- position and inlined calls
abbrev pub all_options : Options
all_options = record { code_info = true; inlining = true }
