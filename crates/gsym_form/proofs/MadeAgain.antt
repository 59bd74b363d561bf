-- The file that is written from what was printed, and read again, answers every lookup as the file did: the address
-- lands on the same entry, and what that says at the address is the same.
-- Assumes nothing.
use Rattle.std.proofs.Common.{◌≡◌, ℕ, zero, suc, ◌+◌, ◌^◌, ◌<◌, Bool, true, List, [], ◌∷◌, map, length, get_or, refl}
use Rattle.std.proofs.Common.{sym, ap, subst, ◌∙◌, arith, Option, Some, None, Result, Ok, Err, mod-eq_of_lt}
use Rattle.std.specs.Prelude.{All}
use Rattle.std.specs.List.{AllByRecursion, slice_get}
use Rattle.std.specs.List.Sorted.{IsNonDecreasing, IsStrictlyIncreasing}
use Rattle.std.specs.Result.{result_map_both}
use Rattle.std.proofs.lemmas.List.{get_or_default, length-map}
use Rattle.std.proofs.lemmas.List.Elements.{All-from_recursion}
use Rattle.std.proofs.lemmas.List.Sorted.{IsNonDecreasingBy-from_all_adjacent}
use Rattle.std.proofs.lemmas.Option.{slice_get-get_or}
use Rattle.gsym_reads.specs.Steps.{◌>>=◌}
use Rattle.gsym_reads.proofs.Steps.{bind_same}
use Rattle.gsym_types.specs.declared.Address.{Address}
use Rattle.gsym_types.specs.declared.InlineFrame.{InlineFrame}
use Rattle.gsym_types.specs.declared.Options.{Options}
use Rattle.gsym_types.specs.declared.StrOffset.{StrOffset}
use Rattle.gsym_types.specs.declared.Refusal.TheVariants as refused
use Rattle.gsym_linetab.specs.declared.LineTableRow.{LineTableRow}
use Rattle.gsym_parser.specs.View.{View}
use Rattle.gsym_parser.specs.Header.{opened_of}
use Rattle.gsym_parser.specs.Items.{ItemData, items_of, closed_of}
use Rattle.gsym_parser.specs.Entries.{symbol_at}
use Rattle.gsym_parser.specs.Search.{entries_of, addresses_of, find_of, land_of}
use Rattle.gsym_parser.proofs.Lands.{find-address}
use Rattle.gsym_parser.proofs.Symbols.{find_of-allowed}
use Rattle.gsym_resolver.specs.EntryData.{EntryData, data_at, Entered}
use Rattle.gsym_resolver.specs.EntryAnswer.{PositionData, entry_with_frames, entry_with_row, entry_with_code}
use Rattle.gsym_resolver.specs.EntryAnswer.{entry_answer}
use Rattle.gsym_resolver.specs.Known.{Known}
use Rattle.gsym_resolver.specs.Lookup.{lookup_of}
use Rattle.gsym_resolver.specs.SharedTables.{SharedTables, shared_tables}
use Rattle.gsym_resolver.specs.WithPlaces.{lookup_in_values, answer_texts}
use Rattle.gsym_resolver.proofs.Joined.{lookup_with_places}
use Rattle.gsym_resolver.proofs.Texts.{lookup_texts}
use Rattle.gsym_layout.specs.Given.{GivenEntry, Given, addresses, said_by}
use Rattle.gsym_layout.specs.Layout.{layout_of}
use Rattle.gsym_layout.specs.Writable.{IsOf32, SumFits, Writable, Typed}
use Rattle.gsym_layout.specs.ReadBack.{given_answer, texts_answered}
use Rattle.gsym_layout.proofs.Answering.{is_there, answers_given}
use Rattle.gsym_layout.proofs.ReadBack.{at_index}
use Rattle.gsym_writer.proofs.Refusals.{writable}
use Rattle.gsym_form.specs.Printed.{dump_of}
use Rattle.gsym_form.specs.Said.{Said, text_said}
use Rattle.gsym_form.specs.Parsed.{given_said}
use Rattle.gsym_form.specs.Again.{AreBytes, SaysEntry, SaysEntries, AnswerAlike, MadeAgain}
use Rattle.gsym_form.proofs.FileFacts.{view_bytes, info_fits}
use Rattle.gsym_form.proofs.PrintedParts.{ItemFits}
use Rattle.gsym_form.proofs.Again.{says_again, only_read}

-- ---- an answer isn't asked whether the list of items ends in type 0

module _ (t : SharedTables) (symbol : Address) (size : ℕ) (name : StrOffset) (items : List ItemData) (closed : Bool)
  where
    abbrev data_with : Bool → EntryData
    data_with b = record { size = size; name = name; items = items; closed = b }

    frames_same : (row : PositionData) (fs : List InlineFrame) →
        entry_with_frames t symbol (data_with closed) row fs ≡ entry_with_frames t symbol (data_with true) row fs
    unfolding entry_with_frames
    frames_same row [] = refl
    frames_same row (f ∷ fs) = refl

    row_same : (known : Option LineTableRow) (fs : List InlineFrame) →
        entry_with_row t symbol (data_with closed) known fs ≡ entry_with_row t symbol (data_with true) known fs
    unfolding entry_with_row
    row_same None fs = refl
    row_same (Some row) fs = bind_same _ _ _ (λ p _. frames_same p fs)

    module _ (addr : Address) (o : Options) (room : ℕ) where
      code_same : entry_with_code t symbol (data_with closed) addr o room
          ≡ entry_with_code t symbol (data_with true) addr o room
      unfolding entry_with_code
      code_same = bind_same _ _ _ (λ (known : Known) _. row_same known.row known.frames)

      answer_same : entry_answer t symbol (data_with closed) addr o room
          ≡ entry_answer t symbol (data_with true) addr o room
      unfolding entry_answer
      answer_same = rw code_same refl

-- a result that is mapped is a step, and then the mapped value
mapped : {A B E : Type 0} (f : A → B) (x : Result A E) → result_map_both f (λ e. e) x ≡ (x >>= λ a. Ok (f a))
mapped f (Ok a) = refl
mapped f (Err e) = refl

-- ---- entries that are said

moved_at : (base : ℕ) (es : List ℕ) (k : ℕ) → k < length es →
    get_or (map (λ e. base + e) es) k 0 ≡ base + get_or es k 0
moved_at base [] k l = absurd (omega arith)
moved_at base (e ∷ es) zero l = refl
moved_at base (e ∷ es) (suc k) l = moved_at base es k (omega arith)

-- where the addresses rise, the table never falls
never_falls : (base : ℕ) (es : List ℕ) → IsStrictlyIncreasing (map (λ e. base + e) es) → IsNonDecreasing es
never_falls base es up =
    IsNonDecreasingBy-from_all_adjacent (λ n. n) es (λ k d l.
    rw (get_or_default es k d 0 (omega arith), get_or_default es (k + 1) d 0 l)
    (omega (
      arith,
      up k (omega (arith, length-map es (λ (e : ℕ). base + e))),
      moved_at base es k (omega arith),
      moved_at base es (k + 1) l,
    )))

module _ (v : View) where
  addresses_said : (i : ℕ) (es : List ℕ) (gs : List GivenEntry) → SaysEntries v i es gs →
      map (λ e. v.tables.base.0 + e) es ≡ addresses gs
  addresses_said i [] [] s = refl
  addresses_said i [] (x ∷ xs) s = absurd s
  addresses_said i (e ∷ es) [] s = absurd s
  addresses_said i (e ∷ es) (x ∷ xs) s = rw (s.0.addr, addresses_said (i + 1) es xs s.1) refl

  said_at : (i k : ℕ) (es : List ℕ) (gs : List GivenEntry) (x : GivenEntry) → SaysEntries v i es gs →
      slice_get gs k ≡ Some x → SaysEntry v (i + k) (get_or es k 0) x
  said_at i k es [] x s q = absurd cc
  said_at i k [] (y ∷ ys) x s q = absurd s
  said_at i zero (e ∷ es) (y ∷ ys) x s q =
      let z : i ≡ i + 0 = omega arith in
      let p : y ≡ x = cc in
      subst (λ (n : ℕ). SaysEntry v n e x) z (subst (SaysEntry v i e) p s.0)
  said_at i (suc k) (e ∷ es) (y ∷ ys) x s q =
      let z : i + 1 + k ≡ i + suc k = omega arith in
      subst (λ (n : ℕ). SaysEntry v n (get_or es k 0) x) z (said_at (i + 1) k es ys x s.1 q)

-- ---- what says the same answers the same

module _ (file : List ℕ) (v : View) (b : AreBytes file) (opens : opened_of file ≡ Ok v) (g : Given)
    (tables : g.tables ≡ shared_tables v) (says : SaysEntries v 0 (entries_of v) g.entries) where
  entry_said : (i : ℕ) (x : GivenEntry) → slice_get g.entries i ≡ Some x →
      SaysEntry v i (get_or (entries_of v) i 0) x
  entry_said i x q =
      let z : 0 + i ≡ i = omega arith in
      subst (λ (n : ℕ). SaysEntry v n (get_or (entries_of v) i 0) x) z (said_at v 0 i (entries_of v) g.entries x says q)

  -- what the file says of it
  abbrev data_of : GivenEntry → List ℕ → EntryData
  data_of x bytes =
      record { size = x.size; name = x.name; items = items_of bytes; closed = closed_of bytes }

  small_kinds : (items : List ItemData) → AllByRecursion ItemFits items →
      All (λ (item : ItemData). IsOf32 item.kind) items
  small_kinds items a k d l =
      let f = All-from_recursion ItemFits items a k d l in omega (arith, f.kind)

  -- sizes and types are of 32 bits
  typed : Typed g
  typed = record {
    sizes = λ k d l.
        let s = entry_said k (get_or g.entries k d) (slice_get-get_or g.entries k d l) in
        let f = info_fits v (view_bytes file v b opens) k _ s.info in
        omega (arith, f.size);
    kinds = λ k d l.
        let s = entry_said k (get_or g.entries k d) (slice_get-get_or g.entries k d l) in
        let f = info_fits v (view_bytes file v b opens) k _ s.info in
        rw s.items (small_kinds (items_of s.bytes) f.items);
  }

  module _ (w : Writable g) where
    addresses_same : addresses_of v ≡ addresses g.entries
    unfolding addresses_of
    addresses_same = addresses_said v 0 (entries_of v) g.entries says

    counts : length (entries_of v) ≡ length g.entries
    counts =
        sym (length-map (entries_of v) (λ (e : ℕ). v.tables.base.0 + e))
        ∙ ap (λ (ns : List ℕ). length ns) (addresses_said v 0 (entries_of v) g.entries says)
        ∙ length-map g.entries (λ (e : GivenEntry). e.addr.0)

    up : IsNonDecreasing (entries_of v)
    up =
        never_falls v.tables.base.0 (entries_of v)
        (subst IsStrictlyIncreasing (sym (addresses_said v 0 (entries_of v) g.entries says)) w.rises)

    symbol_said : (i : ℕ) (x : GivenEntry) → slice_get g.entries i ≡ Some x → symbol_at v i ≡ x.addr
    unfolding symbol_at
    symbol_said i x q =
        let s = entry_said i x q in
        let f = at_index SumFits g.entries i x w.sums q in
        let m : v.tables.base.0 + get_or (entries_of v) i 0 < 2 ^ 64 = omega (arith, s.addr, f) in
        ap (λ (n : ℕ). record { 0 = n }) (mod-eq_of_lt m ∙ sym s.addr)

    data_said : (i : ℕ) (x : GivenEntry) (q : slice_get g.entries i ≡ Some x) →
        data_at v i ≡ Some (data_of x (entry_said i x q).bytes)
    unfolding data_at
    data_said i x q = rw (entry_said i x q).info refl

    module _ (addr : Address) where
      finds : find_of v addr ≡ land_of (addresses g.entries) addr.0
      finds = find-address v addr up ∙ ap (λ ns. land_of ns addr.0) addresses_same

      found : (i : ℕ) → land_of (addresses g.entries) addr.0 ≡ Some i →
          (e : GivenEntry) × (slice_get g.entries i ≡ Some e)
      found i p =
          let l : i < length (entries_of v) = (find_of-allowed v addr i (finds ∙ p)).inside in
          is_there g.entries i (omega (arith, l, counts))

      module _ (o : Options) (room : ℕ) where
        landed_on : (i : ℕ) (x : GivenEntry) → land_of (addresses g.entries) addr.0 ≡ Some i →
            slice_get g.entries i ≡ Some x →
            texts_answered file addr o room
            ≡ (entry_answer g.tables x.addr (said_by x) addr o room >>= λ a. Ok (answer_texts g.tables a))
        landed_on i x p q =
            let s = entry_said i x q in
            let E : Entered file addr = record {
              view = v;
              index = i;
              entry = data_of x s.bytes;
              opens = opens;
              finds = finds ∙ p;
              reads = data_said i x q;
            } in
            lookup_texts file addr o room E
            ∙ rw (
              ← tables,
              symbol_said i x q,
              answer_same g.tables x.addr x.size x.name (items_of s.bytes) (closed_of s.bytes) addr o room,
              ← s.items,
            )
            (mapped (answer_texts g.tables) (entry_answer g.tables x.addr (said_by x) addr o room))

        landed_nowhere : land_of (addresses g.entries) addr.0 ≡ None →
            lookup_of file addr o room ≡ Err refused.UnknownAddress
        unfolding lookup_in_values
        landed_nowhere p =
            let f : find_of v addr ≡ None = finds ∙ p in lookup_with_places file addr o room ∙ rw (opens, f)

        file_answers : texts_answered file addr o room ≡ given_answer g addr o room
        unfolding given_answer
        file_answers = go (land_of (addresses g.entries) addr.0) refl
          where
            go : (f : Option ℕ) → land_of (addresses g.entries) addr.0 ≡ f →
                texts_answered file addr o room ≡ given_answer g addr o room
            go (Some i) p = let e = found i p in rw (p, e.1) (landed_on i e.0 p e.1)
            go None p = rw (p, landed_nowhere p)

    answer_alike : AnswerAlike (layout_of g) file
    answer_alike addr o room = answers_given g w typed addr o room ∙ sym (file_answers addr o room)

pub made_again : (file : List ℕ) (v : View) → AreBytes file → opened_of file ≡ Ok v → (said : Said) →
    text_said (dump_of v) ≡ Ok said → MadeAgain file said
made_again file v b opens said q room n written =
    let f = only_read file v b opens said q in
    let again = says_again file v b opens f.0 f.1 in
    let p : again.said ≡ said = cc again.reads in
    let tables : (given_said said).tables ≡ shared_tables v = rw p at (again.tables) in
    let says : SaysEntries v 0 (entries_of v) (given_said said).entries =
    subst (λ (x : Said). SaysEntries v 0 (entries_of v) (given_said x).entries) p again.entries in
    answer_alike file v b opens (given_said said) tables says (writable (given_said said) room n written)
