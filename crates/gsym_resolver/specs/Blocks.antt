-- Which item a lookup's records or refusal come from (RULES, "Calls"): the first of the entry's inline blocks that
-- decides, at the same symbol address, bytes, address and room as the single-block call; or the first of its line
-- tables that does.
-- Assumes nothing.
use Rattle.std.specs.Prelude.{Some, Ok, ℕ, true, List, [], ◌∷◌, ◌++◌, ◌≡◌, map}
use Rattle.gsym_types.specs.declared.Address.{Address}
use Rattle.gsym_types.specs.declared.Frame.{Frame}
use Rattle.gsym_types.specs.declared.InlineFrame.{InlineFrame}
use Rattle.gsym_types.specs.declared.Options.{Options}
use Rattle.gsym_types.specs.declared.Position.{Position}
use Rattle.gsym_types.specs.declared.Refusal.{Refusal}
use Rattle.gsym_types.specs.declared.Text.{Text}
use Rattle.gsym_leb128.specs.declared.Cause.{Cause}
use Rattle.gsym_linetab.specs.declared.LineTableRow.{LineTableRow}
use Rattle.gsym_linetab.specs.Unread.{IsUnread, header_refusal}
use Rattle.gsym_inline.specs.Steps.{steps_of}
use Rattle.gsym_inline.specs.FirstFault.{FirstFault}
use Rattle.gsym_parser.specs.Texts.{name_at}
use Rattle.gsym_parser.specs.Items.{ItemData}
use Rattle.gsym_resolver.specs.EntryData.{Entered}
use Rattle.gsym_resolver.specs.Known.{Question, line_table, inline_info}
use Rattle.gsym_resolver.specs.Lookup.{LookedUp, position_at, calls_at}
use Rattle.gsym_resolver.specs.Met.{First, GivesNoRow, GivesNoFrames, GivesFrames, RowIs, Asked, entry_question}
use Rattle.gsym_resolver.specs.Met.{items_question}

-- what a lookup asks of the items of the entry that it lands on
abbrev pub asked_of : {file : List ℕ} {addr : Address} → Entered file addr → Options → (room : ℕ) → Question
asked_of E o room = items_question (entry_question E o room)

-- an inline block that is refused with its first fault
abbrev pub BlockRefuses : Question → Refusal → ItemData → Type 0
BlockRefuses q r item = (item.kind ≡ inline_info) × FirstFault q.room (steps_of q.symbol.0 q.addr.0 item.bytes) r

-- the entry covers the address, its name reads, and position and inlining are asked for; its first inline block that
-- doesn't list none is refused so
pub record RefusedByBlock (file : List ℕ) (addr : Address) (o : Options) (room : ℕ) (r : Refusal) : Type 0 where
  pub entered : Entered file addr
  pub asked : Asked (entry_question entered o room)
  pub inlining : o.inlining ≡ true
  pub block : First (GivesNoFrames (asked_of entered o room))
      (BlockRefuses (asked_of entered o room) r) entered.entry.items

-- a line table whose header doesn't read
abbrev pub HeaderRefuses : Question → Refusal → ItemData → Type 0
HeaderRefuses q r item = (item.kind ≡ line_table) × ((c : Cause) × IsUnread item.bytes 0 c × (r ≡ header_refusal c))

-- the entry covers the address, its name reads, and a position is asked for; its first line table that doesn't give no
-- row is refused so
pub record RefusedByHeader (file : List ℕ) (addr : Address) (o : Options) (room : ℕ) (r : Refusal) : Type 0 where
  pub entered : Entered file addr
  pub asked : Asked (entry_question entered o room)
  pub table : First (GivesNoRow (asked_of entered o room))
      (HeaderRefuses (asked_of entered o room) r) entered.entry.items

abbrev pub frame_name : Frame → Text
frame_name f = f.name

abbrev pub frame_position : Frame → Position
frame_position f = f.position

-- the first inline block of the entry that lists anything lists these frames: the symbol has the name of the first, the
-- records those of the later ones, in order; the positions of the symbol and of the records are the call sites of the
-- later frames, and then the row's
pub record Listed (file : List ℕ) (addr : Address) (o : Options) (room : ℕ) (l : LookedUp) : Type 0 where
  pub entered : Entered file addr
  pub frame : InlineFrame
  pub later : List InlineFrame
  pub block : First (GivesNoFrames (asked_of entered o room))
      (GivesFrames (asked_of entered o room) (frame ∷ later)) entered.entry.items
  pub row : LineTableRow
  pub row_is : RowIs (asked_of entered o room) entered.entry.items (Some row)
  pub row_position : Position
  pub row_read : position_at entered.view row.file_idx row.file_line ≡ Ok row_position
  pub calls : List Frame
  pub called : calls_at entered.view later ≡ Ok calls
  pub name : name_at entered.view frame.name ≡ Some l.answer.name
  pub names : map frame_name l.frames ≡ map frame_name calls
  pub position : Position
  pub placed : l.answer.position ≡ Some position
  pub positions : position ∷ map frame_position l.frames ≡ map frame_position calls ++ row_position ∷ []
