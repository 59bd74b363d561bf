-- Lookups in a written file answer what is given of the entry on which the address lands; at an entry's own address
-- that is the entry.
-- Assumes nothing.
use Rattle.std.proofs.Common.{◌≡◌, ℕ, zero, suc, ◌-◌, ◌<◌, ◌≤◌, Bool, true, false, List, [], ◌∷◌, Option, Some, None}
use Rattle.std.proofs.Common.{Result, Ok, Err, length, eqb, ltb, refl, sym, ap, ◌∙◌, arith, le-ltb, lt-ltb}
use Rattle.std.proofs.Common.{if◌then◌else◌}
use Rattle.std.specs.List.{slice_get}
use Rattle.std.specs.List.Sorted.{IsNonDecreasing}
use Rattle.std.specs.Result.{result_map_both}
use Rattle.std.proofs.lemmas.Bool.{eqb-false}
use Rattle.gsym_reads.specs.Steps.{◌>>=◌}
use Rattle.gsym_types.specs.declared.Address.{Address}
use Rattle.gsym_types.specs.declared.Options.{Options}
use Rattle.gsym_types.specs.declared.Refusal.TheVariants as refused
use Rattle.gsym_parser.specs.Entries.{covered_by}
use Rattle.gsym_parser.specs.Search.{entries_of, find_of, land_of}
use Rattle.gsym_parser.proofs.Lands.{find-address}
use Rattle.gsym_parser.proofs.Symbols.{find-below-count}
use Rattle.gsym_resolver.specs.EntryData.{Entered}
use Rattle.gsym_resolver.specs.EntryAnswer.{entry_alone, entry_with_code, entry_answer}
use Rattle.gsym_resolver.specs.Lookup.{lookup_of}
use Rattle.gsym_resolver.specs.WithPlaces.{lookup_in_values, answer_texts}
use Rattle.gsym_resolver.proofs.Joined.{lookup_with_places}
use Rattle.gsym_resolver.proofs.Strings.{name_read}
use Rattle.gsym_resolver.proofs.Texts.{lookup_texts}
use Rattle.gsym_layout.specs.Given.{GivenEntry, Given, addresses, said_by}
use Rattle.gsym_layout.specs.Layout.{layout_of, opened_layout}
use Rattle.gsym_layout.specs.Writable.{NameReads, Writable, Typed}
use Rattle.gsym_layout.specs.ReadBack.{given_answer, texts_answered, FoundAtOwn}
use Rattle.gsym_layout.proofs.Parts.{layout_opens}
use Rattle.gsym_layout.proofs.Addresses.{offsets_up, own_lands}
use Rattle.gsym_layout.proofs.ReadBack.{at_index, tables_read, table_read, addresses_read, symbol_read, data_read}

-- an element stands at each index of a list
pub is_there : {A : Type 0} (xs : List A) (i : ℕ) → i < length xs → (x : A) × (slice_get xs i ≡ Some x)
is_there [] i l = absurd (omega arith)
is_there (x ∷ xs) zero l = (x, refl)
is_there (x ∷ xs) (suc i) l = is_there xs i (omega arith)

-- a result that is mapped is a step, and then the mapped value
mapped : {A B E : Type 0} (f : A → B) (x : Result A E) → result_map_both f (λ e. e) x ≡ (x >>= λ a. Ok (f a))
mapped f (Ok a) = refl
mapped f (Err e) = refl

-- a symbol covers its own address
own_covered : (symbol : Address) (size : ℕ) → covered_by symbol symbol size ≡ true
unfolding covered_by
own_covered symbol size =
    let a : symbol.0 ≤ symbol.0 = omega arith in rw (le-ltb _ _ a) (go (eqb size 0) refl)
  where
    go : (b : Bool) → eqb size 0 ≡ b → (if b then true else ltb (symbol.0 - symbol.0) size) ≡ true
    go true e = refl
    go false e =
        let n = eqb-false size 0 e in
        let l : symbol.0 - symbol.0 < size = omega (arith, n) in lt-ltb _ _ l

module _ (g : Given) (w : Writable g) (t : Typed g) where
  -- ---- every address

  module _ (addr : Address) where
    finds : find_of (opened_layout g) addr ≡ land_of (addresses g.entries) addr.0
    finds =
        let up : IsNonDecreasing (entries_of (opened_layout g)) =
        rw (table_read g w) (offsets_up g.entries w.rises) in
        find-address (opened_layout g) addr up ∙ ap (λ ns. land_of ns addr.0) (addresses_read g w)

    found_given : (i : ℕ) → land_of (addresses g.entries) addr.0 ≡ Some i →
        (e : GivenEntry) × (slice_get g.entries i ≡ Some e)
    unfolding opened_layout
    found_given i p = is_there g.entries i (find-below-count (opened_layout g) addr i (finds ∙ p))

    module _ (o : Options) (room : ℕ) where
      landed_on : (i : ℕ) (e : GivenEntry) → land_of (addresses g.entries) addr.0 ≡ Some i →
          slice_get g.entries i ≡ Some e →
          texts_answered (layout_of g) addr o room
          ≡ (entry_answer g.tables e.addr (said_by e) addr o room >>= λ a. Ok (answer_texts g.tables a))
      landed_on i e p q =
          let E : Entered (layout_of g) addr = record {
            view = opened_layout g;
            index = i;
            entry = said_by e;
            opens = layout_opens g w;
            finds = finds ∙ p;
            reads = data_read g w t i e q;
          } in
          lookup_texts (layout_of g) addr o room E
          ∙ rw (tables_read g w, symbol_read g w i e q)
          (mapped (answer_texts g.tables) (entry_answer g.tables e.addr (said_by e) addr o room))

      landed_nowhere : land_of (addresses g.entries) addr.0 ≡ None →
          lookup_of (layout_of g) addr o room ≡ Err refused.UnknownAddress
      unfolding lookup_in_values
      landed_nowhere p =
          let f : find_of (opened_layout g) addr ≡ None = finds ∙ p in
          lookup_with_places (layout_of g) addr o room ∙ rw (layout_opens g w, f)

      pub answers_given : texts_answered (layout_of g) addr o room ≡ given_answer g addr o room
      unfolding given_answer
      answers_given = go (land_of (addresses g.entries) addr.0) refl
        where
          go : (f : Option ℕ) → land_of (addresses g.entries) addr.0 ≡ f →
              texts_answered (layout_of g) addr o room ≡ given_answer g addr o room
          go (Some i) p = let e = found_given i p in rw (p, e.1) (landed_on i e.0 p e.1)
          go None p = rw (p, landed_nowhere p)

  -- ---- an entry's own

  module _ (i : ℕ) (e : GivenEntry) (q : slice_get g.entries i ≡ Some e) (room : ℕ) where
    own_named : (o : Options) → texts_answered (layout_of g) e.addr o room
        ≡ ((if o.code_info then entry_with_code g.tables e.addr (said_by e) e.addr o room
        else Ok (entry_alone e.addr (said_by e))) >>= λ a. Ok (answer_texts g.tables a))
    unfolding entry_answer
    own_named o =
        landed_on e.addr o room i e (own_lands g.entries w.rises i e q) q
        ∙ rw (
          own_covered e.addr e.size,
          (name_read g.tables e.name).1 (at_index (NameReads g.tables) g.entries i e w.names q),
        )

  pub found_at_own : FoundAtOwn g (layout_of g)
  found_at_own = record {
    alone = λ i e q inlining room. own_named i e q room (record { code_info = false; inlining = inlining });
    with_code = λ i e q inlining room.
        own_named i e q room (record { code_info = true; inlining = inlining })
        ∙ sym (mapped (answer_texts g.tables) (entry_with_code g.tables e.addr (said_by e) e.addr
        (record { code_info = true; inlining = inlining }) room));
  }
