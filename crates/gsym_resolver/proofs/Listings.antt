-- Where records are given: the block that lists them, and whose name and position is whose.
-- Assumes nothing.
use Rattle.std.proofs.Common.{◌≡◌, ◌<◌, Some, Ok, ℕ, List, [], ◌∷◌, ◌++◌, map, length, refl, sym, ap, subst, ◌∙◌, arith}
use Rattle.gsym_types.specs.declared.Address.{Address}
use Rattle.gsym_types.specs.declared.Frame.{Frame}
use Rattle.gsym_types.specs.declared.InlineFrame.{InlineFrame}
use Rattle.gsym_types.specs.declared.Options.{Options}
use Rattle.gsym_types.specs.declared.Position.{Position}
use Rattle.gsym_parser.specs.Items.{ItemData}
use Rattle.gsym_parser.proofs.Opened.{tables_within}
use Rattle.gsym_resolver.specs.EntryData.{Entered}
use Rattle.gsym_resolver.specs.SharedTables.{shared_tables}
use Rattle.gsym_resolver.specs.Known.{Question}
use Rattle.gsym_resolver.specs.EntryAnswer.{EntryAnswer, first_call_position}
use Rattle.gsym_resolver.specs.Lookup.{LookedUp, lookup_of, first_position, moved_up}
use Rattle.gsym_resolver.specs.WithPlaces.{with_places}
use Rattle.gsym_resolver.specs.Met.{entry_question, First, GivesNoFrames, GivesFrames, FramesAre, no_inlining}
use Rattle.gsym_resolver.specs.Met.{no_frames, frames}
use Rattle.gsym_resolver.specs.Answered.{on_line, Says, unasked, rowless, frameless, framed}
use Rattle.gsym_resolver.specs.Blocks.{asked_of, frame_name, frame_position, Listed}
use Rattle.gsym_resolver.proofs.Shared.{name_in_tables}
use Rattle.gsym_resolver.proofs.Strings.{name_read}
use Rattle.gsym_resolver.proofs.Joined.{position_placed, called, position_joined, calls_joined, first_joined}
use Rattle.gsym_resolver.proofs.Joined.{moved_joined}
use Rattle.gsym_resolver.proofs.Answers.{placed_position, called_calls}
use Rattle.gsym_resolver.proofs.Lookups.{lookup_answered}

-- positions move up one, names stay: that settles every record
pub moved_names : (row : Position) (fs : List Frame) → map frame_name (moved_up row fs) ≡ map frame_name fs
unfolding moved_up
moved_names row [] = refl
moved_names row (f ∷ fs) = ap (λ l. f.name ∷ l) (moved_names row fs)

pub moved_positions :
    (row : Position) (fs : List Frame) →
    first_position row fs ∷ map frame_position (moved_up row fs) ≡ map frame_position fs ++ row ∷ []
unfolding moved_up
moved_positions row [] = refl
moved_positions row (f ∷ fs) = ap (λ l. f.position ∷ l) (moved_positions row fs)

-- frames that are given are those of the first block that lists any
given_frames :
    (q : Question) (items : List ItemData) (gs : List InlineFrame) (f : InlineFrame) (fs : List InlineFrame) →
    FramesAre q items gs → gs ≡ f ∷ fs → First (GivesNoFrames q) (GivesFrames q (f ∷ fs)) items
given_frames q items gs f fs (no_inlining i) e = absurd cc
given_frames q items gs f fs (no_frames a) e = absurd cc
given_frames q items gs f fs (frames i F) e = subst (λ l. First (GivesNoFrames q) (GivesFrames q l) items) e F

module _ (file : List ℕ) (addr : Address) (o : Options) (room : ℕ) (l : LookedUp) (E : Entered file addr) where
  abbrev IsPlaced : EntryAnswer → Type 0
  IsPlaced a = l ≡ with_places (shared_tables E.view) E.view.tables.strings.place a

  none_given : (a : EntryAnswer) → a.calls ≡ [] → IsPlaced a → 0 < length l.frames → Listed file addr o room l
  unfolding with_places
  none_given a n p h =
      let f : l.frames ≡ [] = ap (λ (x : LookedUp). x.frames) p ∙ ap (map _) n in
      let z : length l.frames ≡ 0 = ap length f in
      absurd (omega arith)

  says_listed : (a : EntryAnswer) → Says (entry_question E o room) a → IsPlaced a →
      0 < length l.frames → Listed file addr o room l
  unfolding with_places
  says_listed a (unasked c n k) p h = none_given a refl p h
  says_listed a (rowless fs G) p h = none_given a refl p h
  says_listed a (frameless row G P) p h = none_given a refl p h
  says_listed a (framed row f fs calls G P n k) p h =
      let v = E.view in
      let w = tables_within file v E.opens in
      let at = on_line P.file row.file_line in
      let records : l.frames ≡ moved_up (position_placed v w at) (map (called v w) calls) =
      ap (λ (x : LookedUp). x.frames) p ∙ sym (moved_joined v w at calls) in
      let e = placed_position (shared_tables v) row.file_idx row.file_line P in
      record {
        entered = E;
        frame = f;
        later = fs;
        block = given_frames (asked_of E o room) E.entry.items (f ∷ fs) f fs G.frames_are refl;
        row = row;
        row_is = G.row_is;
        row_position = position_placed v w at;
        row_read = position_joined v w row.file_idx row.file_line ∙ rw e;
        calls = map (called v w) calls;
        called = calls_joined v w fs ∙ rw (called_calls (shared_tables v) fs calls k);
        name = name_in_tables v w f.name
            ∙ rw ((name_read (shared_tables v) f.name).1 n) (ap Some (sym (ap (λ (x : LookedUp). x.answer.name) p)));
        names = ap (map frame_name) records ∙ moved_names (position_placed v w at) (map (called v w) calls);
        position = position_placed v w (first_call_position at calls);
        placed = ap (λ (x : LookedUp). x.answer.position) p;
        positions =
            ap (λ fs. position_placed v w (first_call_position at calls) ∷ map frame_position fs) records
            ∙ ap (λ x. x ∷ map frame_position (moved_up (position_placed v w at) (map (called v w) calls)))
            (sym (first_joined v w at calls))
            ∙ moved_positions (position_placed v w at) (map (called v w) calls);
      }

pub lookup_listed :
    (file : List ℕ) (addr : Address) (o : Options) (room : ℕ) (l : LookedUp) → lookup_of file addr o room ≡ Ok l →
    0 < length l.frames → Listed file addr o room l
lookup_listed file addr o room l e h =
    let A = (lookup_answered file addr o room l).0 e in
    says_listed file addr o room l A.entered A.values A.said A.places h
