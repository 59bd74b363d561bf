-- The lookup on the places of the file is the lookup in values, with its places.
-- Assumes nothing.
use Rattle.std.proofs.Common.{◌∙◌, ◌≡◌, ℕ, Some, None, Ok, Option, Result, List, [], ◌∷◌, map, refl, option_and_then}
use Rattle.std.proofs.Common.{if◌then◌else◌}
use Rattle.std.proofs.Math.ListN.{length-map}
use Rattle.gsym_reads.specs.Steps.{◌>>=◌, ◌>>◌, need, given}
use Rattle.gsym_types.specs.declared.Address.{Address}
use Rattle.gsym_types.specs.declared.FileIndex.{FileIndex}
use Rattle.gsym_types.specs.declared.Frame.{Frame}
use Rattle.gsym_types.specs.declared.InlineFrame.{InlineFrame}
use Rattle.gsym_types.specs.declared.LineNumber.{LineNumber}
use Rattle.gsym_types.specs.declared.Options.{Options}
use Rattle.gsym_types.specs.declared.Position.{Position}
use Rattle.gsym_types.specs.declared.Refusal.{Refusal}
use Rattle.gsym_types.specs.declared.Refusal.TheVariants as refused
use Rattle.gsym_types.specs.declared.StrOffset.{StrOffset}
use Rattle.gsym_types.specs.declared.Text.{Text}
use Rattle.gsym_linetab.specs.declared.LineTableRow.{LineTableRow}
use Rattle.gsym_parser.specs.View.{View}
use Rattle.gsym_parser.specs.Header.{Within, opened_of}
use Rattle.gsym_parser.specs.Search.{find_of}
use Rattle.gsym_parser.specs.Entries.{EntryInfo, symbol_at, info_at, covered_by}
use Rattle.gsym_parser.specs.Texts.{text_at, name_at}
use Rattle.gsym_resolver.specs.EntryData.{entry_data, data_at}
use Rattle.gsym_resolver.specs.SharedTables.{SharedTables, shared_tables, reads_text, reads_name}
use Rattle.gsym_resolver.specs.EntryAnswer.{PositionData, CallData, EntryAnswer, position_of, call_of, calls_of}
use Rattle.gsym_resolver.specs.EntryAnswer.{first_call_position, calls_moved_up, entry_with_frames, entry_with_row}
use Rattle.gsym_resolver.specs.EntryAnswer.{entry_with_code, entry_answer}
use Rattle.gsym_resolver.specs.Lookup.{Landing, landing_at, position_at, call_at, calls_at, first_position, moved_up}
use Rattle.gsym_resolver.specs.Lookup.{LookedUp, alone, with_frames, with_row, with_code, lookup_of}
use Rattle.gsym_resolver.specs.WithPlaces.{text_with_place, position_with_places, call_with_places, with_places}
use Rattle.gsym_resolver.specs.WithPlaces.{lookup_in_values}
use Rattle.gsym_parser.proofs.Opened.{tables_within}
use Rattle.gsym_reads.proofs.Steps.{bind_bind, need_bind, if_bind, bind_same, given_same, given_if}
use Rattle.gsym_resolver.proofs.Shared.{file_in_tables, text_in_tables, name_in_tables}

module _ (v : View) (w : Within v.file v.tables) where
  abbrev pub t : SharedTables
  t = shared_tables v

  abbrev pub start : ℕ
  start = v.tables.strings.place

  abbrev pub position_placed : PositionData → Position
  position_placed p = position_with_places t start p

  abbrev pub called : CallData → Frame
  called c = call_with_places t start c

  -- a string or a name that is read, and what follows
  text_step :
      {B : Type 0} (e : Refusal) (offset : StrOffset) (f : _ → Result B Refusal) →
      (given e (text_at v offset) >>= f) ≡ (need (reads_text t offset) e >> f (text_with_place t start offset))
  text_step e offset f = rw (text_in_tables v w offset) (given_if e (reads_text t offset) _ f)

  name_step :
      {B : Type 0} (e : Refusal) (offset : StrOffset) (f : _ → Result B Refusal) →
      (given e (name_at v offset) >>= f) ≡ (need (reads_name t offset) e >> f (text_with_place t start offset))
  name_step e offset f = rw (name_in_tables v w offset) (given_if e (reads_name t offset) _ f)

  pub position_joined :
      (index : FileIndex) (line : LineNumber) →
      position_at v index line ≡ (position_of t index line >>= λ p. Ok (position_placed p))
  unfolding position_at position_of
  position_joined index line = simp (file_in_tables v w, text_step, bind_bind, need_bind)

  pub call_joined : (f : InlineFrame) → call_at v f ≡ (call_of t f >>= λ c. Ok (called c))
  unfolding call_at call_of
  call_joined f = simp (name_step, position_joined, bind_bind, need_bind)

  pub calls_joined : (fs : List InlineFrame) → calls_at v fs ≡ (calls_of t fs >>= λ cs. Ok (map called cs))
  unfolding calls_at calls_of
  calls_joined [] = refl
  calls_joined (f ∷ fs) = simp (call_joined, calls_joined fs, bind_bind)

  pub first_joined :
      (row : PositionData) (cs : List CallData) →
      first_position (position_placed row) (map called cs) ≡ position_placed (first_call_position row cs)
  first_joined row [] = refl
  first_joined row (c ∷ cs) = refl

  pub moved_joined :
      (row : PositionData) (cs : List CallData) →
      moved_up (position_placed row) (map called cs) ≡ map called (calls_moved_up row cs)
  unfolding moved_up calls_moved_up
  moved_joined row [] = refl
  moved_joined row (c ∷ cs) = rw (first_joined row cs, moved_joined row cs)

  -- ---- an entry

  module _ (symbol : Address) (info : EntryInfo) where
    abbrev landing_with : Text → Landing
    landing_with name = record { symbol = symbol; size = info.size; name = name; bytes = info.bytes }

    abbrev landing : Landing
    landing = landing_with (text_with_place t start (record { 0 = info.name }))

    abbrev put : Result EntryAnswer Refusal → Result LookedUp Refusal
    put a = a >>= λ a. Ok (with_places t start a)

    frames_joined :
        (row : PositionData) (fs : List InlineFrame) →
        with_frames v landing (position_placed row) fs
        ≡ put (entry_with_frames t symbol (entry_data info) row fs)
    unfolding with_frames entry_with_frames with_places calls_moved_up
    frames_joined row [] = refl
    frames_joined row (f ∷ fs) =
        simp (name_step, calls_joined, bind_bind, need_bind, first_joined, moved_joined, length-map)

    row_joined :
        (known : Option LineTableRow) (fs : List InlineFrame) →
        with_row v landing known fs ≡ put (entry_with_row t symbol (entry_data info) known fs)
    unfolding with_row entry_with_row with_places
    row_joined None fs = refl
    row_joined (Some row) fs = simp (position_joined, frames_joined, bind_bind)

    code_joined :
        (addr : Address) (o : Options) (room : ℕ) →
        with_code v landing addr o.inlining room ≡ put (entry_with_code t symbol (entry_data info) addr o room)
    unfolding with_code entry_with_code
    code_joined addr o room = simp (row_joined, bind_bind)

    answer_joined :
        (addr : Address) (o : Options) (room : ℕ) →
        (do
          need (covered_by addr symbol info.size) refused.UnknownAddress
          name ← given refused.UnreadName (name_at v (record { 0 = info.name }))
          Ok (landing_with name))
        >>= (λ e. if o.code_info then with_code v e addr o.inlining room else Ok (alone e))
        ≡ put (entry_answer t symbol (entry_data info) addr o room)
    unfolding entry_answer with_places
    answer_joined addr o room = simp (name_step, need_bind, code_joined, if_bind)

-- ---- a whole lookup

module _ (file : List ℕ) (addr : Address) (o : Options) (room : ℕ) where
  info_joined :
      (v : View) → Within v.file v.tables → (i : ℕ) (x : Option EntryInfo) →
      ((do
        info ← given refused.UnreadInfo x
        need (covered_by addr (symbol_at v i) info.size) refused.UnknownAddress
        name ← given refused.UnreadName (name_at v (record { 0 = info.name }))
        Ok (record { symbol = symbol_at v i; size = info.size; name = name; bytes = info.bytes })) >>= λ e.
      if o.code_info then with_code v e addr o.inlining room else Ok (alone e))
      ≡ (do
        d ← given refused.UnreadInfo (option_and_then (λ info. Some (entry_data info)) x)
        a ← entry_answer (shared_tables v) (symbol_at v i) d addr o room
        Ok (with_places (shared_tables v) v.tables.strings.place a))
  info_joined v w i (Some info) = answer_joined v w (symbol_at v i) info addr o room
  info_joined v w i None = refl

  pub lookup_with_places : lookup_of file addr o room ≡ lookup_in_values file addr o room
  unfolding lookup_of lookup_in_values landing_at data_at
  lookup_with_places = bind_same (opened_of file) _ _ (λ v e.
      bind_bind (given refused.UnknownAddress (find_of v addr)) _ _
      ∙ given_same refused.UnknownAddress (find_of v addr) _ _ (λ i.
      info_joined v (tables_within file v e) i (info_at v i)))
