-- What an answer says (RULES, "Putting the answer together"): what the data of the entry say that the address lands on.
-- Assumes nothing.
use Rattle.std.specs.Prelude.{Some, None, ℕ, true, false, List, [], ◌∷◌, ◌≡◌}
use Rattle.std.specs.List.{AllZip}
use Rattle.gsym_types.specs.declared.Address.{Address}
use Rattle.gsym_types.specs.declared.InlineFrame.{InlineFrame}
use Rattle.gsym_types.specs.declared.LineNumber.{LineNumber}
use Rattle.gsym_types.specs.declared.Options.{Options}
use Rattle.gsym_linetab.specs.declared.LineTableRow.{LineTableRow}
use Rattle.gsym_parser.specs.Entries.{covered_by}
use Rattle.gsym_parser.specs.declared.entries.FileInfo.{FileInfo}
use Rattle.gsym_resolver.specs.EntryData.{Entered}
use Rattle.gsym_resolver.specs.SharedTables.{SharedTables, shared_tables, HasName}
use Rattle.gsym_resolver.specs.EntryAnswer.{PositionData, CallData, EntryAnswer, first_call_position, calls_moved_up}
use Rattle.gsym_resolver.specs.EntryAnswer.{entry_alone, entry_placed}
use Rattle.gsym_resolver.specs.Lookup.{LookedUp}
use Rattle.gsym_resolver.specs.WithPlaces.{with_places}
use Rattle.gsym_resolver.specs.Met.{HasPosition, HasCall, EntryQuestion, ItemsGive, entry_question}

-- a file's directory and name, and a line
abbrev pub on_line : FileInfo → LineNumber → PositionData
on_line file line = record { row = file; line = line }

-- a later frame reads, and as a call it has its own name, and directory, file name and line of its call site
pub record IsCallOf (t : SharedTables) (f : InlineFrame) (c : CallData) : Type 0 where
  pub reads : HasCall t f
  pub is : c ≡ record { name = f.name; position = on_line reads.1.file f.call_line }

-- what an entry says at an address, where nothing is refused
pub data Says (q : EntryQuestion) : EntryAnswer → Type 0 where
  -- no code info is asked for: the symbol alone
  unasked : covered_by q.addr q.symbol q.entry.size ≡ true → HasName q.tables q.entry.name →
      q.options.code_info ≡ false → Says q (entry_alone q.symbol q.entry)
  -- there is no row: no position, no records, and the name is the symbol's own
  rowless : (fs : List InlineFrame) → ItemsGive q None fs → Says q (entry_alone q.symbol q.entry)
  -- there are no frames: the symbol at the row's position
  frameless : (row : LineTableRow) → ItemsGive q (Some row) [] → (P : HasPosition q.tables row.file_idx) →
      Says q (entry_placed q.symbol q.entry q.entry.name (on_line P.file row.file_line) [])
  -- the first frame gives its name, each later one is a record; positions move up one
  framed : (row : LineTableRow) (f : InlineFrame) (fs : List InlineFrame) (calls : List CallData) →
      ItemsGive q (Some row) (f ∷ fs) → (P : HasPosition q.tables row.file_idx) → HasName q.tables f.name →
      AllZip (IsCallOf q.tables) fs calls →
      Says q
      (entry_placed q.symbol q.entry f.name (first_call_position (on_line P.file row.file_line) calls)
      (calls_moved_up (on_line P.file row.file_line) calls))

-- a lookup's answer and records: the address lands on an entry, and they are what its data say, with places
pub record Answered (file : List ℕ) (addr : Address) (o : Options) (room : ℕ) (l : LookedUp) : Type 0 where
  pub entered : Entered file addr
  pub values : EntryAnswer
  pub said : Says (entry_question entered o room) values
  pub places : l ≡ with_places (shared_tables entered.view) entered.view.tables.strings.place values
