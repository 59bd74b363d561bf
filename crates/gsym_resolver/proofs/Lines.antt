-- The lines of a lookup are below 2^32, of the answer's position and of each record: each is a row's, or the call line
-- of a frame.
-- Assumes nothing.
use Rattle.std.proofs.Common.{Some, None, Ok, Err, Option, Result, ℕ, ◌^◌, ◌<◌, Bool, eqb, List, [], ◌∷◌}
use Rattle.gsym_reads.specs.Steps.{given, told}
use Rattle.gsym_reads.proofs.Steps.{through, by_choice, by_outcome}
use Rattle.gsym_types.specs.declared.Address.{Address}
use Rattle.gsym_types.specs.declared.FileIndex.{FileIndex}
use Rattle.gsym_types.specs.declared.Frame.{Frame}
use Rattle.gsym_types.specs.declared.InlineFrame.{InlineFrame}
use Rattle.gsym_types.specs.declared.LineNumber.{LineNumber}
use Rattle.gsym_types.specs.declared.Options.{Options}
use Rattle.gsym_types.specs.declared.Position.{Position}
use Rattle.gsym_types.specs.declared.Refusal.{Refusal}
use Rattle.gsym_types.specs.declared.Refusal.TheVariants as refused
use Rattle.gsym_leb128.specs.declared.Cause.{Cause}
use Rattle.gsym_linetab.specs.declared.LineTableRow.{LineTableRow}
use Rattle.gsym_linetab.specs.Rows.{line_row}
use Rattle.gsym_linetab.specs.Unread.{header_refusal}
use Rattle.gsym_linetab.proofs.RowLines.{ReadSmall, line_row_small}
use Rattle.gsym_inline.proofs.CallLines.{Capped, block_capped}
use Rattle.gsym_parser.specs.Entries.{file_at}
use Rattle.gsym_parser.specs.Header.{opened_of}
use Rattle.gsym_parser.specs.Items.{ItemData, items_of}
use Rattle.gsym_parser.specs.Texts.{text_at, name_at}
use Rattle.gsym_parser.specs.View.{View}
use Rattle.gsym_resolver.specs.Known.{Question, question, Known, knowing, nothing, row_after, frames_after, read_items}
use Rattle.gsym_resolver.specs.Lookup.{Landing, landing_at, position_at, call_at, calls_at, first_position, moved_up}
use Rattle.gsym_resolver.specs.Lookup.{LookedUp, with_frames, with_row, with_code, lookup_of}

-- ---- lines below 2^32

unfoldable pub Lined : List Frame → Type 0
Lined [] = Unit {0}
Lined (f ∷ fs) = (f.position.line.0 < 2 ^ 32) × Lined fs

abbrev pub PlaceLined : Option Position → Type 0
PlaceLined (Some p) = p.line.0 < 2 ^ 32
PlaceLined None = Unit {0}

abbrev pub LookupLined : Result LookedUp Refusal → Type 0
LookupLined (Ok l) = PlaceLined l.answer.position × Lined l.frames
LookupLined (Err r) = Unit {0}

abbrev FoundSmall : Option LineTableRow → Type 0
FoundSmall (Some row) = row.file_line.0 < 2 ^ 32
FoundSmall None = Unit {0}

abbrev RowSmall : Result (Option LineTableRow) Refusal → Type 0
RowSmall (Ok row) = FoundSmall row
RowSmall (Err r) = Unit {0}

abbrev FramesCapped : Result (List InlineFrame) Refusal → Type 0
FramesCapped (Ok fs) = Capped fs
FramesCapped (Err r) = Unit {0}

abbrev KnownSmall : Result Known Refusal → Type 0
KnownSmall (Ok known) = FoundSmall known.row × Capped known.frames
KnownSmall (Err r) = Unit {0}

abbrev PositionLined : Result Position Refusal → Type 0
PositionLined (Ok p) = p.line.0 < 2 ^ 32
PositionLined (Err r) = Unit {0}

abbrev CallLined : Result Frame Refusal → Type 0
CallLined (Ok c) = c.position.line.0 < 2 ^ 32
CallLined (Err r) = Unit {0}

abbrev CallsLined : Result (List Frame) Refusal → Type 0
CallsLined (Ok cs) = Lined cs
CallsLined (Err r) = Unit {0}

-- ---- the items

module _ (q : Question) where
  row_small : (item : ItemData) (r : Option LineTableRow) → FoundSmall r → RowSmall (row_after q item r)
  row_small item (Some row) l = l
  row_small item None l =
      by_choice RowSmall (eqb item.kind 1) _ _
      (λ _. go (line_row item.bytes q.symbol q.addr) (line_row_small item.bytes q.symbol q.addr)) (λ _. tt)
    where
      go : (x : Result (Option LineTableRow) Cause) → ReadSmall x → RowSmall (told header_refusal x)
      go (Ok (Some row)) l = l
      go (Ok None) l = tt
      go (Err c) l = tt

  frames_capped : (item : ItemData) (fs : List InlineFrame) → Capped fs → FramesCapped (frames_after q item fs)
  unfolding Capped
  frames_capped item (f ∷ fs) l = l
  frames_capped item [] l =
      by_choice FramesCapped (eqb item.kind 2) _ _
      (λ _. by_choice FramesCapped q.inlining _ _
      (λ _. block_capped q.symbol.0 q.addr.0 q.room item.bytes) (λ _. tt)) (λ _. tt)

  items_small : (items : List ItemData) (known : Known) → KnownSmall (Ok known) → KnownSmall (read_items q items known)
  unfolding read_items
  items_small [] known l = l
  items_small (item ∷ items) known l =
      by_outcome KnownSmall RowSmall (row_after q item known.row) _ (row_small item known.row l.0) (λ r _. tt)
      (λ row _ m.
      by_outcome KnownSmall FramesCapped (frames_after q item known.frames) _ (frames_capped item known.frames l.1)
      (λ r _. tt) (λ frames _ n. items_small items (knowing row frames) (m, n)))

-- ---- positions

module _ (v : View) where
  position_lined : (index : FileIndex) (line : LineNumber) → line.0 < 2 ^ 32 → PositionLined (position_at v index line)
  unfolding position_at
  position_lined index line l =
      through PositionLined (given refused.UnknownFile (file_at v index)) _ (λ r _. tt) (λ row _.
      through PositionLined (given refused.UnreadPath (text_at v row.directory)) _ (λ r _. tt) (λ dir _.
      through PositionLined (given refused.UnreadPath (text_at v row.filename)) _ (λ r _. tt) (λ name _. l)))

  call_lined : (f : InlineFrame) → f.call_line.0 < 2 ^ 32 → CallLined (call_at v f)
  unfolding call_at
  call_lined f l =
      through CallLined (given refused.UnreadName (name_at v f.name)) _ (λ r _. tt) (λ name _.
      by_outcome CallLined PositionLined (position_at v f.call_file f.call_line) _
      (position_lined f.call_file f.call_line l) (λ r _. tt) (λ p _ m. m))

  calls_lined : (fs : List InlineFrame) → Capped fs → CallsLined (calls_at v fs)
  unfolding calls_at Capped Lined
  calls_lined [] l = tt
  calls_lined (f ∷ fs) l =
      by_outcome CallsLined CallLined (call_at v f) _ (call_lined f l.0) (λ r _. tt) (λ c _ m.
      by_outcome CallsLined CallsLined (calls_at v fs) _ (calls_lined fs l.1) (λ r _. tt) (λ cs _ n. (m, n)))

  first_lined :
      (row : Position) (cs : List Frame) → row.line.0 < 2 ^ 32 → Lined cs →
      (first_position row cs).line.0 < 2 ^ 32
  unfolding Lined
  first_lined row [] l m = l
  first_lined row (c ∷ cs) l m = m.0

  moved_lined : (row : Position) (cs : List Frame) → row.line.0 < 2 ^ 32 → Lined cs → Lined (moved_up row cs)
  unfolding moved_up Lined
  moved_lined row [] l m = tt
  moved_lined row (c ∷ cs) l m = (first_lined row cs l m.1, moved_lined row cs l m.1)

  -- ---- the answer

  module _ (e : Landing) where
    frames_lined :
        (row : Position) (fs : List InlineFrame) → row.line.0 < 2 ^ 32 → Capped fs →
        LookupLined (with_frames v e row fs)
    unfolding with_frames Capped Lined
    frames_lined row [] l c = (l, tt)
    frames_lined row (f ∷ fs) l c =
        through LookupLined (given refused.UnreadName (name_at v f.name)) _ (λ r _. tt) (λ name _.
        by_outcome LookupLined CallsLined (calls_at v fs) _ (calls_lined fs c.1) (λ r _. tt) (λ calls _ m.
        (first_lined row calls l m, moved_lined row calls l m)))

    row_lined :
        (row : Option LineTableRow) (fs : List InlineFrame) → FoundSmall row → Capped fs →
        LookupLined (with_row v e row fs)
    unfolding with_row Lined
    row_lined None fs l c = (tt, tt)
    row_lined (Some row) fs l c =
        by_outcome LookupLined PositionLined (position_at v row.file_idx row.file_line) _
        (position_lined row.file_idx row.file_line l) (λ r _. tt) (λ p _ m. frames_lined p fs m c)

    code_lined : (addr : Address) (inlining : Bool) (room : ℕ) → LookupLined (with_code v e addr inlining room)
    unfolding with_code Capped
    code_lined addr inlining room =
        by_outcome LookupLined KnownSmall
        (read_items (question e.symbol addr room inlining) (items_of e.bytes) nothing) _
        (items_small (question e.symbol addr room inlining) (items_of e.bytes) nothing (tt, tt)) (λ r _. tt)
        (λ known _ m. row_lined known.row known.frames m.0 m.1)

-- a lookup's answer and each of its records have a line below 2^32
pub lookup_lined : (file : List ℕ) (addr : Address) (o : Options) (room : ℕ) → LookupLined (lookup_of file addr o room)
unfolding lookup_of Lined
lookup_lined file addr o room =
    through LookupLined (opened_of file) _ (λ r _. tt) (λ v _.
    through LookupLined (landing_at v addr) _ (λ r _. tt) (λ e _.
    by_choice LookupLined o.code_info _ _ (λ _. code_lined v e addr o.inlining room) (λ _. (tt, tt))))
