-- What an answer shows, each text as its bytes, comes from the shared tables, the symbol's address and the entry's data
-- alone.
-- Assumes nothing.
use Rattle.std.proofs.Common.{◌≡◌, Some, None, Ok, Err, Option, Result, ℕ, zero, suc, ◌+◌, ◌-◌, ◌<◌, ◌≤◌, List, [], ◌∷◌}
use Rattle.std.proofs.Common.{map, option_map, length, take, drop, length-drop, take-take, drop-drop, length-take-le}
use Rattle.std.proofs.Common.{refl, sym, ap, ◌∙◌, arith, le-leb}
use Rattle.std.specs.Result.{result_map_both}
use lib.Seq.{take-nil}
use Rattle.gsym_reads.specs.Steps.{◌>>=◌}
use Rattle.gsym_types.specs.declared.Address.{Address}
use Rattle.gsym_types.specs.declared.Options.{Options}
use Rattle.gsym_types.specs.declared.Refusal.{Refusal}
use Rattle.gsym_types.specs.declared.StrOffset.{StrOffset}
use Rattle.gsym_strtab.specs.Strings.{text_in, part_of}
use Rattle.gsym_strtab.proofs.Texts.{text_in-inside}
use Rattle.gsym_parser.specs.View.{View}
use Rattle.gsym_parser.specs.Header.{Within}
use Rattle.gsym_parser.specs.Entries.{symbol_at}
use Rattle.gsym_parser.proofs.Opened.{tables_within, opened_file}
use Rattle.gsym_resolver.specs.EntryData.{Entered}
use Rattle.gsym_resolver.specs.SharedTables.{SharedTables, shared_tables}
use Rattle.gsym_resolver.specs.EntryAnswer.{PositionData, CallData, EntryAnswer, entry_answer}
use Rattle.gsym_resolver.specs.Lookup.{lookup_of}
use Rattle.gsym_resolver.specs.WithPlaces.{text, text_with_place, position_with_places, call_with_places, with_places}
use Rattle.gsym_resolver.specs.WithPlaces.{bytes_of, position_with_texts, frame_with_texts, with_texts}
use Rattle.gsym_resolver.specs.WithPlaces.{cut, read_text, position_texts, call_texts, answer_texts}
use Rattle.gsym_resolver.proofs.Lookups.{lookup_entered}

-- ---- the bytes of a text

drop_take : (k n : ℕ) (xs : List ℕ) → drop k (take (k + n) xs) ≡ take n (drop k xs)
drop_take zero n xs = let e : 0 + n ≡ n = omega arith in ap (λ (m : ℕ). take m xs) e
drop_take (suc k) n [] = ap (drop (suc k)) (take-nil (suc k + n)) ∙ sym (take-nil n)
drop_take (suc k) n (x ∷ xs) =
    let e : suc k + n ≡ suc (k + n) = omega arith in
    ap (λ (m : ℕ). drop (suc k) (take m (x ∷ xs))) e ∙ drop_take k n xs

-- a part of a part
part_of_part : (file : List ℕ) (place size k n : ℕ) → k + n ≤ size →
    take n (drop k (take size (drop place file))) ≡ take n (drop (place + k) file)
part_of_part file place size k n l =
    let e : size ≡ k + (size - k) = omega arith in
    ap (λ (m : ℕ). take n (drop k (take m (drop place file)))) e
    ∙ ap (take n) (drop_take k (size - k) (drop place file))
    ∙ take-take n (size - k) (drop k (drop place file)) (omega arith)
    ∙ ap (take n) (drop-drop k place file)

module _ (v : View) (w : Within v.file v.tables) where
  abbrev t : SharedTables
  t = shared_tables v

  abbrev start : ℕ
  start = v.tables.strings.place

  -- what the string call hands back for a string's place and length is that part of the string table
  pub text_bytes : (offset : StrOffset) → bytes_of v.file (text_with_place t start offset) ≡ read_text t offset
  unfolding text_with_place read_text part_of shared_tables
  text_bytes offset = go (text_in t.strings offset.0) refl
    where
      go : (l : Option ℕ) → text_in t.strings offset.0 ≡ l →
          bytes_of v.file (text (start + offset.0) l) ≡ cut (drop offset.0 t.strings) l
      go (Some n) e =
          let s : length t.strings ≡ v.tables.strings.size =
          length-take-le v.tables.strings.size (drop start v.file)
          (omega (arith, w.strings_end, length-drop start v.file)) in
          let i : offset.0 + n < length t.strings = text_in-inside t.strings offset.0 n e in
          let h : start + offset.0 + n ≤ length v.file = omega (arith, w.strings_end) in
          rw (le-leb _ _ h) (sym (part_of_part v.file start v.tables.strings.size offset.0 n (omega arith)))
      go None e = let h : 0 + 0 ≤ length v.file = omega arith in rw (le-leb _ _ h)

  position_bytes : (p : PositionData) → position_with_texts v.file (position_with_places t start p) ≡ position_texts t p
  position_bytes p = rw (text_bytes p.row.directory, text_bytes p.row.filename)

  calls_bytes :
      (cs : List CallData) → map (frame_with_texts v.file) (map (call_with_places t start) cs) ≡ map (call_texts t) cs
  calls_bytes [] = refl
  calls_bytes (c ∷ cs) = rw (text_bytes c.name, position_bytes c.position, calls_bytes cs)

  pub answer_bytes : (a : EntryAnswer) → with_texts v.file (with_places t start a) ≡ answer_texts t a
  unfolding with_texts with_places answer_texts
  answer_bytes a = rw (text_bytes a.name, calls_bytes a.calls, at a.position)
    where
      at : (p : Option PositionData) →
          option_map (position_with_texts v.file) (option_map (position_with_places t start) p)
          ≡ option_map (position_texts t) p
      at (Some p) = ap Some (position_bytes p)
      at None = refl

-- of a whole lookup, on an entry
pub lookup_texts :
    (file : List ℕ) (addr : Address) (o : Options) (room : ℕ) (E : Entered file addr) →
    result_map_both (with_texts file) (λ r. r) (lookup_of file addr o room)
    ≡ result_map_both (answer_texts (shared_tables E.view)) (λ r. r)
    (entry_answer (shared_tables E.view) (symbol_at E.view E.index) E.entry addr o room)
lookup_texts file addr o room E =
    rw (lookup_entered file addr o room E)
    (go (entry_answer (shared_tables E.view) (symbol_at E.view E.index) E.entry addr o room))
  where
    go : (x : Result EntryAnswer Refusal) →
        result_map_both (with_texts file) (λ r. r)
        (x >>= λ a. Ok (with_places (shared_tables E.view) E.view.tables.strings.place a))
        ≡ result_map_both (answer_texts (shared_tables E.view)) (λ r. r) x
    go (Ok a) = rw (← opened_file file E.view E.opens)
        (ap (λ x. Ok x) (answer_bytes E.view (tables_within file E.view E.opens) a))
    go (Err r) = refl
