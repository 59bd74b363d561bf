-- What the items of an address data list say at an address (RULES, "Address data list"): a row and frames, or the first
-- fault in list order. No place of the file is in it.
-- Assumes nothing.
use Rattle.std.specs.Prelude.{ℕ, Bool, List, [], ◌∷◌, ◌==◌, Some, None, Ok, Err, Option, Result, if◌then◌else◌}
use Rattle.gsym_reads.specs.Steps.{◌>>=◌, told}
use Rattle.gsym_types.specs.declared.Address.{Address}
use Rattle.gsym_types.specs.declared.InlineFrame.{InlineFrame}
use Rattle.gsym_types.specs.declared.Refusal.{Refusal}
use Rattle.gsym_linetab.specs.declared.LineTableRow.{LineTableRow}
use Rattle.gsym_linetab.specs.Rows.{line_row}
use Rattle.gsym_linetab.specs.Unread.{header_refusal}
use Rattle.gsym_inline.specs.Block.{block_of}
use Rattle.gsym_parser.specs.Items.{ItemData}

-- the types of the items that are read
abbrev pub line_table : ℕ
line_table = 1

abbrev pub inline_info : ℕ
inline_info = 2

-- what is asked of the items: the symbol's address, the wanted one, room for so many frames, and whether frames are
-- wanted
pub record Question : Type 0 where
  pub symbol : Address
  pub addr : Address
  pub room : ℕ
  pub inlining : Bool

abbrev pub question : Address → Address → ℕ → Bool → Question
question symbol addr room inlining = record { symbol = symbol; addr = addr; room = room; inlining = inlining }

-- the row and the frames that are known
pub record Known : Type 0 where
  pub row : Option LineTableRow
  pub frames : List InlineFrame

abbrev pub knowing : Option LineTableRow → List InlineFrame → Known
knowing row frames = record { row = row; frames = frames }

-- before any item is read
abbrev pub nothing : Known
nothing = knowing None []

-- type 1 is read while no row is known: 9 or 15 where its header doesn't read
abbrev pub row_after : Question → ItemData → Option LineTableRow → Result (Option LineTableRow) Refusal
row_after q item (Some row) = Ok (Some row)
row_after q item None =
    if item.kind == line_table
    then told header_refusal (line_row item.bytes q.symbol q.addr)
    else Ok None

-- type 2 is read if inlining is asked for and no frame is known yet: 10 to 15
abbrev pub frames_after : Question → ItemData → List InlineFrame → Result (List InlineFrame) Refusal
frames_after q item (f ∷ fs) = Ok (f ∷ fs)
frames_after q item [] =
    if item.kind == inline_info
    then if q.inlining then block_of q.symbol.0 q.addr.0 q.room item.bytes else Ok []
    else Ok []

-- what is known after all items, from what is known so far
unfoldable pub read_items : Question → List ItemData → Known → Result Known Refusal
read_items q [] known = Ok known
read_items q (item ∷ items) known = do
  row ← row_after q item known.row
  frames ← frames_after q item known.frames
  read_items q items (knowing row frames)

-- what the readers of items answer, with the frames in the list: what is known, or a refusal
abbrev pub known_with : Result (Option LineTableRow) Refusal → List InlineFrame → Result Known Refusal
known_with (Ok row) fs = Ok (knowing row fs)
known_with (Err r) fs = Err r
