-- What an entry says: a refusal exactly where its condition is met, the first in the order of RULES, else an answer.
-- Assumes nothing.
use Rattle.std.proofs.Common.{◌≤◌, ◌≡◌, Some, None, Ok, Err, Option, Result, ℕ, List, [], ◌∷◌, length, slice_get}
use Rattle.std.proofs.Common.{refl, sym, ap, subst, ◌∙◌, ⊎_elim, arith}
use Rattle.std.specs.List.{AllZip}
use Rattle.std.proofs.lemmas.Option.{gets, slice_get_past, slice_get_cases}
use Rattle.gsym_reads.proofs.Steps.{through}
use Rattle.gsym_types.specs.declared.Address.{Address}
use Rattle.gsym_types.specs.declared.FileIndex.{FileIndex}
use Rattle.gsym_types.specs.declared.InlineFrame.{InlineFrame}
use Rattle.gsym_types.specs.declared.LineNumber.{LineNumber}
use Rattle.gsym_types.specs.declared.Options.{Options}
use Rattle.gsym_types.specs.declared.Refusal.{Refusal}
use Rattle.gsym_linetab.specs.declared.LineTableRow.{LineTableRow}
use Rattle.gsym_parser.specs.Entries.{covered_by}
use Rattle.gsym_resolver.specs.EntryData.{EntryData}
use Rattle.gsym_resolver.specs.SharedTables.{SharedTables, reads_text, reads_name}
use Rattle.gsym_resolver.specs.Known.{Question, question, nothing, read_items}
use Rattle.gsym_resolver.specs.EntryAnswer.{PositionData, CallData, EntryAnswer, position_of, call_of, calls_of}
use Rattle.gsym_resolver.specs.EntryAnswer.{entry_with_frames, entry_with_row, entry_with_code, entry_answer}
use Rattle.gsym_resolver.specs.Met.{First, HasPosition, NoPosition, no_file, no_dir, no_file_name, HasCall, NoCall}
use Rattle.gsym_resolver.specs.Met.{no_name, no_site}
use Rattle.gsym_resolver.specs.Met.{EntryQuestion, Asked, ItemsGive, Unanswered, uncovered, unnamed, unread, unplaced}
use Rattle.gsym_resolver.specs.Met.{first_unnamed, uncalled}
use Rattle.gsym_resolver.specs.Answered.{on_line, IsCallOf, Says, unasked, rowless, frameless, framed}
use Rattle.gsym_reads.proofs.Steps.{by_given, by_test, by_choice, by_outcome}
use Rattle.gsym_resolver.proofs.Firsts.{first_here, first_later, first_cases, first_none}
use Rattle.gsym_resolver.proofs.Strings.{text_read, text_unread, name_read, name_unread}
use Rattle.gsym_resolver.proofs.Items.{items_known, items_refused}

module _ (t : SharedTables) where
  -- ---- positions

  module _ (index : FileIndex) (line : LineNumber) where
    abbrev PositionOutcome : Result PositionData Refusal → Type 0
    PositionOutcome (Ok p) = (P : HasPosition t index) × (p ≡ on_line P.file line)
    PositionOutcome (Err r) = NoPosition t index r

    pub position_outcome : PositionOutcome (position_of t index line)
    unfolding position_of
    position_outcome =
        by_given PositionOutcome _ (slice_get t.files index.0) _
        (λ e. no_file (past_files e))
        (λ file e. by_test PositionOutcome (reads_text t file.directory) _ _
        (λ d. no_dir file e ((text_unread t file.directory).0 d)) (λ d.
        let D = (text_read t file.directory).0 d in
        by_test PositionOutcome (reads_text t file.filename) _ _
        (λ n. no_file_name file e D ((text_unread t file.filename).0 n)) (λ n.
        (record { file = file; there = e; dir = D; name = (text_read t file.filename).0 n }, refl))))
      where
        past_files : slice_get t.files index.0 ≡ None → length t.files ≤ index.0
        past_files e = grind (arith, gets, slice_get_cases t.files index.0)

    pub placed_position : (P : HasPosition t index) → position_of t index line ≡ Ok (on_line P.file line)
    unfolding position_of
    placed_position P =
        rw (P.there, (text_read t P.file.directory).1 P.dir, (text_read t P.file.filename).1 P.name)

    pub unplaced_position : (r : Refusal) → NoPosition t index r → position_of t index line ≡ Err r
    unfolding position_of
    unplaced_position r (no_file l) = rw (slice_get_past t.files index.0 l)
    unplaced_position r (no_dir file e d) = rw (e, (text_unread t file.directory).1 d)
    unplaced_position r (no_file_name file e d n) =
        rw (e, (text_read t file.directory).1 d, (text_unread t file.filename).1 n)

  -- ---- later frames

  abbrev CallOutcome : InlineFrame → Result CallData Refusal → Type 0
  CallOutcome f (Ok c) = IsCallOf t f c
  CallOutcome f (Err r) = NoCall t f r

  call_outcome : (f : InlineFrame) → CallOutcome f (call_of t f)
  unfolding call_of
  call_outcome f =
      by_test (CallOutcome f) (reads_name t f.name) _ _ (λ n. no_name ((name_unread t f.name).0 n)) (λ n.
      by_outcome (CallOutcome f) (PositionOutcome f.call_file f.call_line) (position_of t f.call_file f.call_line) _
      (position_outcome f.call_file f.call_line) (λ r u. no_site ((name_read t f.name).0 n) u)
      (λ p e h. record {
        reads = ((name_read t f.name).0 n, h.0);
        is = ap (λ p. record { name = f.name; position = p }) h.1;
      }))

  called_call :
      (f : InlineFrame) (h : HasCall t f) →
      call_of t f ≡ Ok (record { name = f.name; position = on_line h.1.file f.call_line })
  unfolding call_of
  called_call f h =
      let p = placed_position f.call_file f.call_line h.1 in rw ((name_read t f.name).1 h.0, p)

  uncalled_call : (f : InlineFrame) (r : Refusal) → NoCall t f r → call_of t f ≡ Err r
  unfolding call_of
  uncalled_call f r (no_name n) = rw ((name_unread t f.name).1 n)
  uncalled_call f r (no_site n u) =
      let p = unplaced_position f.call_file f.call_line r u in
      rw ((name_read t f.name).1 n, p)

  -- the first of them that doesn't read
  abbrev pub FirstUncalled : List InlineFrame → Refusal → Type 0
  FirstUncalled fs r = First (HasCall t) (λ f. NoCall t f r) fs

  abbrev pub CallsOutcome : List InlineFrame → Result (List CallData) Refusal → Type 0
  CallsOutcome fs (Ok cs) = AllZip (IsCallOf t) fs cs
  CallsOutcome fs (Err r) = FirstUncalled fs r

  pub calls_outcome : (fs : List InlineFrame) → CallsOutcome fs (calls_of t fs)
  unfolding calls_of
  calls_outcome [] = tt
  calls_outcome (f ∷ fs) =
      by_outcome (CallsOutcome (f ∷ fs)) (CallOutcome f) (call_of t f) _ (call_outcome f)
      (λ r h. first_here _ _ f fs h) (λ c e h.
      by_outcome (CallsOutcome (f ∷ fs)) (CallsOutcome fs) (calls_of t fs) _ (calls_outcome fs)
      (λ r k. first_later _ _ f fs h.reads k)
      (λ cs e k. (h, k)))

  pub called_calls : (fs : List InlineFrame) (cs : List CallData) → AllZip (IsCallOf t) fs cs → calls_of t fs ≡ Ok cs
  unfolding calls_of
  called_calls [] [] k = refl
  called_calls [] (c ∷ cs) k = absurd k
  called_calls (f ∷ fs) [] k = absurd k
  called_calls (f ∷ fs) (c ∷ cs) k =
      let e = called_calls fs cs k.1 in rw (called_call f k.0.reads, e, k.0.is)

  pub uncalled_calls : (fs : List InlineFrame) (r : Refusal) → FirstUncalled fs r → calls_of t fs ≡ Err r
  unfolding calls_of
  uncalled_calls [] r F = absurd (first_none _ _ F)
  uncalled_calls (f ∷ fs) r F = go (uncalled_calls fs r)
    where
      go : (FirstUncalled fs r → calls_of t fs ≡ Err r) → calls_of t (f ∷ fs) ≡ Err r
      go rest =
          ⊎_elim
          (λ (u : NoCall t f r). let e = uncalled_call f r u in rw e)
          (λ (h : HasCall t f × FirstUncalled fs r). let e = rest h.1 in rw (called_call f h.0, e))
          (first_cases _ _ f fs F)

-- ---- an entry

module _ (t : SharedTables) (symbol : Address) (d : EntryData) (addr : Address) (o : Options) (room : ℕ) where
  abbrev pub asking : EntryQuestion
  asking = record { tables = t; symbol = symbol; entry = d; addr = addr; options = o; room = room }

  abbrev pub IsOutcome : Result EntryAnswer Refusal → Type 0
  IsOutcome (Ok a) = Says asking a
  IsOutcome (Err r) = Unanswered asking r

  frames_outcome :
      (row : LineTableRow) (fs : List InlineFrame) → ItemsGive asking (Some row) fs →
      (P : HasPosition t row.file_idx) → IsOutcome (entry_with_frames t symbol d (on_line P.file row.file_line) fs)
  unfolding entry_with_frames
  frames_outcome row [] G P = frameless row G P
  frames_outcome row (f ∷ fs) G P =
      by_test IsOutcome (reads_name t f.name) _ _ (λ n. first_unnamed row f fs G P ((name_unread t f.name).0 n)) (λ n.
      let N = (name_read t f.name).0 n in
      by_outcome IsOutcome (CallsOutcome t fs) (calls_of t fs) _ (calls_outcome t fs) (λ r h. uncalled row f fs G P N h)
      (λ cs e h. framed row f fs cs G P N h))

  row_outcome :
      (known : Option LineTableRow) (fs : List InlineFrame) → ItemsGive asking known fs →
      IsOutcome (entry_with_row t symbol d known fs)
  unfolding entry_with_row
  row_outcome None fs G = rowless fs G
  row_outcome (Some row) fs G =
      by_outcome IsOutcome (PositionOutcome t row.file_idx row.file_line) (position_of t row.file_idx row.file_line) _
      (position_outcome t row.file_idx row.file_line) (λ r u. unplaced row fs G u)
      (λ p e h. subst (λ x. IsOutcome (entry_with_frames t symbol d x fs)) (sym h.1) (frames_outcome row fs G h.0))

  abbrev q : Question
  q = question symbol addr room o.inlining

  pub entry_outcome : IsOutcome (entry_answer t symbol d addr o room)
  unfolding entry_answer entry_with_code
  entry_outcome =
      by_test IsOutcome (covered_by addr symbol d.size) _ _ uncovered (λ c.
      by_test IsOutcome (reads_name t d.name) _ _ (λ n. unnamed c ((name_unread t d.name).0 n)) (λ n.
      let N = (name_read t d.name).0 n in
      by_choice IsOutcome o.code_info _ _
      (λ k. let A : Asked asking = record { covered = c; named = N; code = k } in
      through IsOutcome (read_items q d.items nothing) _ (λ r e. unread A ((items_refused q d.items r).0 e))
      (λ k e. let h = (items_known q d.items k.row k.frames).0 e in
      row_outcome k.row k.frames (record { asked = A; row_is = h.0; frames_are = h.1 })))
      (unasked c N)))

  -- ---- and the other way round

  given_code : (known : Option LineTableRow) (fs : List InlineFrame) → ItemsGive asking known fs →
      entry_answer t symbol d addr o room ≡ entry_with_row t symbol d known fs
  unfolding entry_answer entry_with_code
  given_code known fs G =
      let e = (items_known (question symbol addr room o.inlining) d.items known fs).1 (G.row_is, G.frames_are) in
      rw (G.asked.covered, (name_read t d.name).1 G.asked.named, G.asked.code, e)

  pub unanswered_answer : (r : Refusal) → Unanswered asking r → entry_answer t symbol d addr o room ≡ Err r
  unfolding entry_answer entry_with_code entry_with_row entry_with_frames
  unanswered_answer r (uncovered c) = rw c
  unanswered_answer r (unnamed c n) = rw (c, (name_unread t d.name).1 n)
  unanswered_answer r (unread A F) =
      let e = (items_refused (question symbol addr room o.inlining) d.items r).1 F in
      rw (A.covered, (name_read t d.name).1 A.named, A.code, e)
  unanswered_answer r (unplaced row fs G u) =
      let e = unplaced_position t row.file_idx row.file_line r u in given_code (Some row) fs G ∙ rw e
  unanswered_answer r (first_unnamed row f fs G P n) =
      let e = placed_position t row.file_idx row.file_line P in
      given_code (Some row) (f ∷ fs) G ∙ rw (e, (name_unread t f.name).1 n)
  unanswered_answer r (uncalled row f fs G P n F) =
      let e = placed_position t row.file_idx row.file_line P in
      let u = uncalled_calls t fs r F in
      given_code (Some row) (f ∷ fs) G ∙ rw (e, (name_read t f.name).1 n, u)

  pub says_answer : (a : EntryAnswer) → Says asking a → entry_answer t symbol d addr o room ≡ Ok a
  unfolding entry_answer entry_with_code entry_with_row entry_with_frames
  says_answer a (unasked c n k) = rw (c, (name_read t d.name).1 n, k)
  says_answer a (rowless fs G) = given_code None fs G
  says_answer a (frameless row G P) =
      let e = placed_position t row.file_idx row.file_line P in given_code (Some row) [] G ∙ rw e
  says_answer a (framed row f fs calls G P n k) =
      let e = placed_position t row.file_idx row.file_line P in
      given_code (Some row) (f ∷ fs) G ∙ rw (e, (name_read t f.name).1 n, called_calls t fs calls k)
