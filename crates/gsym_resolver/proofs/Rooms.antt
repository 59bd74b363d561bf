-- More room changes nothing but that there are too many frames: a lookup with less room is refused so, or is the lookup
-- with more.
-- Assumes nothing.
use Rattle.std.proofs.Common.{◌≡◌, ◌≤◌, ◌⊎◌, inr, Some, None, Ok, Err, Option, Result, ℕ, Bool, List}
use Rattle.std.proofs.Common.{[], ◌∷◌, eqb, refl}
use Rattle.gsym_reads.specs.Steps.{given}
use Rattle.gsym_reads.proofs.Or.{Or, step_or, same_or, need_or, pick_or}
use Rattle.gsym_types.specs.declared.Address.{Address}
use Rattle.gsym_types.specs.declared.InlineFrame.{InlineFrame}
use Rattle.gsym_types.specs.declared.Options.{Options}
use Rattle.gsym_types.specs.declared.Refusal.{Refusal}
use Rattle.gsym_types.specs.declared.Refusal.TheVariants as refused
use Rattle.gsym_types.specs.declared.Refusal.TheVariants.{TooManyFrames}
use Rattle.gsym_linetab.specs.declared.LineTableRow.{LineTableRow}
use Rattle.gsym_inline.proofs.MoreRoom.{block_more}
use Rattle.gsym_parser.specs.Header.{opened_of}
use Rattle.gsym_parser.specs.Search.{find_of}
use Rattle.gsym_parser.specs.Entries.{symbol_at, covered_by}
use Rattle.gsym_parser.specs.Items.{ItemData}
use Rattle.gsym_resolver.specs.EntryData.{EntryData, data_at}
use Rattle.gsym_resolver.specs.SharedTables.{SharedTables, shared_tables, reads_name}
use Rattle.gsym_resolver.specs.Known.{Known, knowing, nothing, question, row_after, frames_after, read_items}
use Rattle.gsym_resolver.specs.EntryAnswer.{entry_with_code, entry_answer}
use Rattle.gsym_resolver.specs.Lookup.{lookup_of}
use Rattle.gsym_resolver.specs.WithPlaces.{with_places, lookup_in_values}
use Rattle.gsym_resolver.proofs.Joined.{lookup_with_places}

-- too many frames, or the same
abbrev OrTooMany : {A : Type 0} → Result A Refusal → Result A Refusal → Type 0
OrTooMany less more = Or TooManyFrames less more

module _ (room more : ℕ) (l : room ≤ more) (symbol addr : Address) (inlining : Bool) where
  row_same : (item : ItemData) (r : Option LineTableRow) →
      row_after (question symbol addr room inlining) item r ≡ row_after (question symbol addr more inlining) item r
  row_same item (Some r) = refl
  row_same item None = refl

  frames_more : (item : ItemData) (fs : List InlineFrame) →
      OrTooMany (frames_after (question symbol addr room inlining) item fs)
      (frames_after (question symbol addr more inlining) item fs)
  frames_more item (f ∷ fs) = inr refl
  frames_more item [] =
      pick_or TooManyFrames (eqb item.kind 2) _ _ _ _
      (pick_or TooManyFrames inlining _ _ _ _ (block_more room more l symbol.0 addr.0 item.bytes) (inr refl)) (inr refl)

  items_more : (items : List ItemData) (k : Known) →
      OrTooMany (read_items (question symbol addr room inlining) items k)
      (read_items (question symbol addr more inlining) items k)
  unfolding read_items
  items_more [] k = inr refl
  items_more (item ∷ items) k =
      step_or TooManyFrames _ _ _ _ (inr (row_same item k.row)) (λ row.
      step_or TooManyFrames _ _ _ _ (frames_more item k.frames) (λ frames. items_more items (knowing row frames)))

module _ (room more : ℕ) (l : room ≤ more) (addr : Address) (o : Options) where
  answer_more : (t : SharedTables) (symbol : Address) (d : EntryData) →
      OrTooMany (entry_answer t symbol d addr o room) (entry_answer t symbol d addr o more)
  unfolding entry_answer entry_with_code
  answer_more t symbol d =
      need_or TooManyFrames (covered_by addr symbol d.size) _ _ _
      (need_or TooManyFrames (reads_name t d.name) _ _ _
      (pick_or TooManyFrames o.code_info _ _ _ _
      (step_or TooManyFrames _ _ _ _ (items_more room more l symbol addr o.inlining d.items nothing) (λ k. inr refl))
      (inr refl)))

  values_more : (file : List ℕ) → OrTooMany (lookup_in_values file addr o room) (lookup_in_values file addr o more)
  unfolding lookup_in_values
  values_more file =
      same_or TooManyFrames (opened_of file) _ _ (λ v.
      same_or TooManyFrames (given refused.UnknownAddress (find_of v addr)) _ _ (λ i.
      same_or TooManyFrames (given refused.UnreadInfo (data_at v i)) _ _ (λ d.
      step_or TooManyFrames _ _ (λ a. Ok (with_places (shared_tables v) v.tables.strings.place a)) _
      (answer_more (shared_tables v) (symbol_at v i) d) (λ a. inr refl))))

  pub lookup_more :
      (file : List ℕ) → (lookup_of file addr o room ≡ Err TooManyFrames)
      ⊎ (lookup_of file addr o room ≡ lookup_of file addr o more)
  lookup_more file = rw (lookup_with_places file addr o room, lookup_with_places file addr o more) (values_more file)
