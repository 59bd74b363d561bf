-- What an entry says at an address, in values (RULES, from "If size is not 0" to the end of "Putting the answer
-- together"): strings are offsets in the string table, and no place of the file is in it.
-- Assumes nothing.
use Rattle.std.specs.Prelude.{ℕ, List, [], ◌∷◌, slice_get, Some, None, Ok, Option, Result, if◌then◌else◌}
use Rattle.gsym_reads.specs.Steps.{◌>>=◌, ◌>>◌, need, given}
use Rattle.gsym_types.specs.declared.Address.{Address}
use Rattle.gsym_types.specs.declared.FileIndex.{FileIndex}
use Rattle.gsym_types.specs.declared.InlineFrame.{InlineFrame}
use Rattle.gsym_types.specs.declared.LineNumber.{LineNumber}
use Rattle.gsym_types.specs.declared.Options.{Options}
use Rattle.gsym_types.specs.declared.Refusal.{Refusal}
use Rattle.gsym_types.specs.declared.Refusal.TheVariants as refused
use Rattle.gsym_types.specs.declared.StrOffset.{StrOffset}
use Rattle.gsym_linetab.specs.declared.LineTableRow.{LineTableRow}
use Rattle.gsym_parser.specs.declared.entries.FileInfo.{FileInfo}
use Rattle.gsym_parser.specs.Entries.{covered_by}
use Rattle.gsym_resolver.specs.EntryData.{EntryData}
use Rattle.gsym_resolver.specs.SharedTables.{SharedTables, reads_text, reads_name}
use Rattle.gsym_resolver.specs.Known.{question, nothing, read_items}

-- a position: a row of the file table, and a line
pub record PositionData : Type 0 where
  pub row : FileInfo
  pub line : LineNumber

-- a name and a position
pub record CallData : Type 0 where
  pub name : StrOffset
  pub position : PositionData

-- the symbol's address, size and name, its position if there is one, and the later frames
pub record EntryAnswer : Type 0 where
  pub addr : Address
  pub size : ℕ
  pub name : StrOffset
  pub position : Option PositionData
  pub calls : List CallData

-- ---- positions and calls

-- the position of a file index (7) and a line: its directory (8), then its file name (8)
unfoldable pub position_of : SharedTables → FileIndex → LineNumber → Result PositionData Refusal
position_of t index line = do
  row ← given refused.UnknownFile (slice_get t.files index.0)
  need (reads_text t row.directory) refused.UnreadPath
  need (reads_text t row.filename) refused.UnreadPath
  Ok (record { row = row; line = line })

-- a frame's name (6), and the position of its call
unfoldable pub call_of : SharedTables → InlineFrame → Result CallData Refusal
call_of t f = do
  need (reads_name t f.name) refused.UnreadName
  p ← position_of t f.call_file f.call_line
  Ok (record { name = f.name; position = p })

-- each of several frames
unfoldable pub calls_of : SharedTables → List InlineFrame → Result (List CallData) Refusal
calls_of t [] = Ok []
calls_of t (f ∷ fs) = do
  c ← call_of t f
  cs ← calls_of t fs
  Ok (c ∷ cs)

-- the position of the first call, or the row's
abbrev pub first_call_position : PositionData → List CallData → PositionData
first_call_position row [] = row
first_call_position row (c ∷ cs) = c.position

-- positions move up one: each call gets that of the one after it, the last the row's
unfoldable pub calls_moved_up : PositionData → List CallData → List CallData
calls_moved_up row [] = []
calls_moved_up row (c ∷ cs) = record { name = c.name; position = first_call_position row cs } ∷ calls_moved_up row cs

-- ---- the answer

-- the symbol alone, and at a position with the later frames
abbrev pub entry_alone : Address → EntryData → EntryAnswer
entry_alone symbol d = record { addr = symbol; size = d.size; name = d.name; position = None; calls = [] }

abbrev pub entry_placed : Address → EntryData → StrOffset → PositionData → List CallData → EntryAnswer
entry_placed symbol d name p calls =
    record { addr = symbol; size = d.size; name = name; position = Some p; calls = calls }

-- the first frame only gives its name to the symbol (6); each later one has a call
unfoldable pub entry_with_frames :
    SharedTables → Address → EntryData → PositionData → List InlineFrame → Result EntryAnswer Refusal
entry_with_frames t symbol d row [] = Ok (entry_placed symbol d d.name row [])
entry_with_frames t symbol d row (f ∷ fs) = do
  need (reads_name t f.name) refused.UnreadName
  calls ← calls_of t fs
  Ok (entry_placed symbol d f.name (first_call_position row calls) (calls_moved_up row calls))

-- without a row there is no position and there are no frames
unfoldable pub entry_with_row :
    SharedTables → Address → EntryData → Option LineTableRow → List InlineFrame → Result EntryAnswer Refusal
entry_with_row t symbol d None fs = Ok (entry_alone symbol d)
entry_with_row t symbol d (Some row) fs = do
  p ← position_of t row.file_idx row.file_line
  entry_with_frames t symbol d p fs

-- the items in list order (9 to 15), and what they say
unfoldable pub entry_with_code :
    SharedTables → Address → EntryData → Address → Options → (room : ℕ) → Result EntryAnswer Refusal
entry_with_code t symbol d addr o room = do
  known ← read_items (question symbol addr room o.inlining) d.items nothing
  entry_with_row t symbol d known.row known.frames

-- what an entry says: its size (1), its name (6), and if code info is asked for, what its items say
unfoldable pub entry_answer :
    SharedTables → (symbol : Address) → EntryData → (addr : Address) → Options → (room : ℕ) → Result EntryAnswer Refusal
entry_answer t symbol d addr o room = do
  need (covered_by addr symbol d.size) refused.UnknownAddress
  need (reads_name t d.name) refused.UnreadName
  if o.code_info then entry_with_code t symbol d addr o room else Ok (entry_alone symbol d)
