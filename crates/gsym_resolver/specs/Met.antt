-- When each refusal of a lookup is given (RULES, "Refusal numbers" and "Address data list"): its condition, which is
-- the first met in the order of RULES.
-- Assumes nothing.
use Rattle.std.specs.Prelude.{Some, None, Ok, Option, ℕ, ◌≤◌, true, false, List, [], ◌∷◌, ◌++◌, ◌≡◌, length}
use Rattle.std.specs.Prelude.{slice_get}
use Rattle.std.specs.List.{All}
use Rattle.gsym_types.specs.declared.Address.{Address}
use Rattle.gsym_types.specs.declared.FileIndex.{FileIndex}
use Rattle.gsym_types.specs.declared.InlineFrame.{InlineFrame}
use Rattle.gsym_types.specs.declared.Options.{Options}
use Rattle.gsym_types.specs.declared.Refusal.{Refusal}
use Rattle.gsym_types.specs.declared.Refusal.TheVariants as refused
use Rattle.gsym_leb128.specs.declared.Cause.{Cause}
use Rattle.gsym_linetab.specs.Unread.{IsUnread, header_refusal}
use Rattle.gsym_linetab.specs.Rows.{Run, table_of}
use Rattle.gsym_linetab.specs.RowFor.{IsRowFor}
use Rattle.gsym_linetab.specs.declared.LineTableRow.{LineTableRow}
use Rattle.gsym_inline.specs.ListsFrames.{ListsFrames}
use Rattle.gsym_inline.specs.Steps.{steps_of}
use Rattle.gsym_inline.specs.FirstFault.{FirstFault}
use Rattle.gsym_parser.specs.declared.entries.FileInfo.{FileInfo}
use Rattle.gsym_parser.specs.View.{View}
use Rattle.gsym_parser.specs.Header.{opened_of}
use Rattle.gsym_parser.specs.Unopened.{Unopened}
use Rattle.gsym_parser.specs.Search.{find_of, Nowhere}
use Rattle.gsym_parser.specs.Entries.{symbol_at, covered_by}
use Rattle.gsym_parser.specs.Items.{ItemData}
use Rattle.gsym_resolver.specs.EntryData.{EntryData, data_at, Entered}
use Rattle.gsym_resolver.specs.SharedTables.{SharedTables, shared_tables, HasText, HasName}
use Rattle.gsym_resolver.specs.Known.{Question, question, line_table, inline_info}

-- the first of a list of which P holds: of each before it N does
pub record First {A : Type 0} (N P : A → Type 0) (xs : List A) : Type 0 where
  pub before : List A
  pub this : A
  pub after : List A
  pub split : xs ≡ before ++ this ∷ after
  pub each : All N before
  pub holds : P this

-- ---- what the items give

-- a line table gives a row at the address, or none: its header reads, and of all the rows that its program makes it is
-- the one before the first that is above the address; where none is above, and one was made, the state at the program's
-- end; and none where no row was made, and where the first is above (RULES, "Line table")
pub record TableGives (symbol addr : Address) (bytes : List ℕ) (row : Option LineTableRow) : Type 0 where
  pub table : Run
  pub reads : table_of bytes symbol ≡ Ok table
  pub row_is : IsRowFor table addr row

-- an item gives no row: it is no line table, or one that gives none
abbrev pub GivesNoRow : Question → ItemData → Type 0
GivesNoRow q item = item.kind ≡ line_table → TableGives q.symbol q.addr item.bytes None

-- it is a line table that gives this row
abbrev pub GivesRow : Question → LineTableRow → ItemData → Type 0
GivesRow q row item = (item.kind ≡ line_table) × TableGives q.symbol q.addr item.bytes (Some row)

-- an item gives no frames: it is no inline block, or one that reads and lists none
abbrev pub GivesNoFrames : Question → ItemData → Type 0
GivesNoFrames q item = item.kind ≡ inline_info → ListsFrames q.symbol.0 q.addr.0 q.room item.bytes []

-- it is an inline block that lists these
abbrev pub GivesFrames : Question → List InlineFrame → ItemData → Type 0
GivesFrames q fs item = (item.kind ≡ inline_info) × ListsFrames q.symbol.0 q.addr.0 q.room item.bytes fs

-- the row after items: that of the first line table with one
pub data RowIs (q : Question) (items : List ItemData) : Option LineTableRow → Type 0 where
  no_row : All (GivesNoRow q) items → RowIs q items None
  row : {r : LineTableRow} → First (GivesNoRow q) (GivesRow q r) items → RowIs q items (Some r)

-- the frames after items: those of the first inline block that lists any
pub data FramesAre (q : Question) (items : List ItemData) : List InlineFrame → Type 0 where
  no_inlining : q.inlining ≡ false → FramesAre q items []
  no_frames : All (GivesNoFrames q) items → FramesAre q items []
  frames : {f : InlineFrame} {fs : List InlineFrame} → q.inlining ≡ true →
      First (GivesNoFrames q) (GivesFrames q (f ∷ fs)) items → FramesAre q items (f ∷ fs)

-- why an item refuses when it is read, after a row and frames: a line table's header that doesn't read (9, or 15 for a
-- number that is too wide), where no row is known; an inline block's first fault (10 to 15), where inlining is asked
-- for and no frame is known
pub data ItemRefuses (q : Question) (known : Option LineTableRow) (fs : List InlineFrame) (item : ItemData)
    : Refusal → Type 0 where
  header : (c : Cause) → known ≡ None → item.kind ≡ line_table → IsUnread item.bytes 0 c →
      ItemRefuses q known fs item (header_refusal c)
  block : (r : Refusal) → q.inlining ≡ true → fs ≡ [] → item.kind ≡ inline_info →
      FirstFault q.room (steps_of q.symbol.0 q.addr.0 item.bytes) r → ItemRefuses q known fs item r

-- the first item that refuses: those before it are read, and give a row or none, and frames or none
pub record FirstRefusing (q : Question) (items : List ItemData) (r : Refusal) : Type 0 where
  pub before : List ItemData
  pub this : ItemData
  pub after : List ItemData
  pub split : items ≡ before ++ this ∷ after
  pub known_row : Option LineTableRow
  pub row_is : RowIs q before known_row
  pub known_frames : List InlineFrame
  pub frames_are : FramesAre q before known_frames
  pub refuses : ItemRefuses q known_row known_frames this r

-- ---- a position, and later frames

-- directory and file name of the file index read
pub record HasPosition (t : SharedTables) (index : FileIndex) : Type 0 where
  pub file : FileInfo
  pub there : slice_get t.files index.0 ≡ Some file
  pub dir : HasText t file.directory
  pub name : HasText t file.filename

-- why a position doesn't read: the index (7), the directory (8), then the file name (8)
pub data NoPosition (t : SharedTables) (index : FileIndex) : Refusal → Type 0 where
  no_file : length t.files ≤ index.0 → NoPosition t index refused.UnknownFile
  no_dir : (file : FileInfo) → slice_get t.files index.0 ≡ Some file → (HasText t file.directory → ⊥) →
      NoPosition t index refused.UnreadPath
  no_file_name : (file : FileInfo) → slice_get t.files index.0 ≡ Some file → HasText t file.directory →
      (HasText t file.filename → ⊥) → NoPosition t index refused.UnreadPath

-- a later frame reads
abbrev pub HasCall : SharedTables → InlineFrame → Type 0
HasCall t f = HasName t f.name × HasPosition t f.call_file

-- why it doesn't: its name (6), then its call site (7, 8)
pub data NoCall (t : SharedTables) (f : InlineFrame) : Refusal → Type 0 where
  no_name : (HasName t f.name → ⊥) → NoCall t f refused.UnreadName
  no_site : {r : Refusal} → HasName t f.name → NoPosition t f.call_file r → NoCall t f r

-- ---- an entry, and a lookup

-- what is asked of an entry, given what all share, the symbol's address and the entry's data: the wanted address, with
-- these options, and with room for so many frames
pub record EntryQuestion : Type 0 where
  pub tables : SharedTables
  pub symbol : Address
  pub entry : EntryData
  pub addr : Address
  pub options : Options
  pub room : ℕ

-- and what that asks of its items
abbrev pub items_question : EntryQuestion → Question
items_question q = question q.symbol q.addr q.room q.options.inlining

-- the entry covers the address, its name reads, and code info is asked for
pub record Asked (q : EntryQuestion) : Type 0 where
  pub covered : covered_by q.addr q.symbol q.entry.size ≡ true
  pub named : HasName q.tables q.entry.name
  pub code : q.options.code_info ≡ true

-- and the items give this row and these frames
pub record ItemsGive (q : EntryQuestion) (known : Option LineTableRow) (fs : List InlineFrame) : Type 0 where
  pub asked : Asked q
  pub row_is : RowIs (items_question q) q.entry.items known
  pub frames_are : FramesAre (items_question q) q.entry.items fs

-- why what an entry says is a refusal, in the order of RULES
pub data Unanswered (q : EntryQuestion) : Refusal → Type 0 where
  -- 1: the symbol doesn't cover the address
  uncovered : covered_by q.addr q.symbol q.entry.size ≡ false → Unanswered q refused.UnknownAddress
  -- 6: its name doesn't read
  unnamed : covered_by q.addr q.symbol q.entry.size ≡ true → (HasName q.tables q.entry.name → ⊥) →
      Unanswered q refused.UnreadName
  -- 9 to 15: an item refuses
  unread : {r : Refusal} → Asked q → FirstRefusing (items_question q) q.entry.items r → Unanswered q r
  -- 7, 8: the row's position
  unplaced : {r : Refusal} (row : LineTableRow) (fs : List InlineFrame) → ItemsGive q (Some row) fs →
      NoPosition q.tables row.file_idx r → Unanswered q r
  -- 6: the first frame's name
  first_unnamed : (row : LineTableRow) (f : InlineFrame) (fs : List InlineFrame) → ItemsGive q (Some row) (f ∷ fs) →
      HasPosition q.tables row.file_idx → (HasName q.tables f.name → ⊥) → Unanswered q refused.UnreadName
  -- 6, 7, 8: the first later frame that doesn't read
  uncalled : {r : Refusal} (row : LineTableRow) (f : InlineFrame) (fs : List InlineFrame) →
      ItemsGive q (Some row) (f ∷ fs) → HasPosition q.tables row.file_idx → HasName q.tables f.name →
      First (HasCall q.tables) (λ g. NoCall q.tables g r) fs → Unanswered q r

-- what a lookup asks of the entry that it lands on
abbrev pub entry_question : {file : List ℕ} {addr : Address} → Entered file addr → Options → (room : ℕ) → EntryQuestion
entry_question {addr = addr} E o room = record {
  tables = shared_tables E.view;
  symbol = symbol_at E.view E.index;
  entry = E.entry;
  addr = addr;
  options = o;
  room = room;
}

-- why a lookup is a refusal, in the order of RULES
pub data Met (file : List ℕ) (addr : Address) (o : Options) (room : ℕ) : Refusal → Type 0 where
  -- 2, 3, 4: the file doesn't open
  not_opened : {r : Refusal} → Unopened file r → Met file addr o room r
  -- 1: no entry is chosen
  not_found : (v : View) → opened_of file ≡ Ok v → Nowhere v addr → Met file addr o room refused.UnknownAddress
  -- 5: the entry's information doesn't read
  no_info : (v : View) (i : ℕ) → opened_of file ≡ Ok v → find_of v addr ≡ Some i → data_at v i ≡ None →
      Met file addr o room refused.UnreadInfo
  -- 1 and 6 to 15: what the entry says
  by_entry : {r : Refusal} (E : Entered file addr) → Unanswered (entry_question E o room) r → Met file addr o room r
