-- What a written file says is what was given: its shared tables, its address table, the data of each entry, and so the
-- whole content.
-- Assumes nothing.
use Rattle.std.proofs.Common.{◌≡◌, ℕ, suc, ◌+◌, ◌-◌, ◌*◌, List, [], ◌∷◌, Some, map, length}
use Rattle.std.proofs.Common.{get_or, refl, ap, subst, ◌∙◌, arith, drop-drop, lt-ltb, mod-eq_of_lt}
use Rattle.std.specs.List.{All, slice_get}
use Rattle.std.proofs.lemmas.Option.{slice_get_within, get_or_from_slice_get}
use Rattle.gsym_parser.specs.Entries.{symbol_at, offset_at, info_at}
use Rattle.gsym_parser.specs.Search.{entries, entries_of, addresses_of}
use Rattle.gsym_resolver.specs.EntryData.{data_at}
use Rattle.gsym_resolver.specs.SharedTables.{shared_tables}
use Rattle.gsym_verify.specs.Content.{contents_from, content_of}
use Rattle.gsym_layout.specs.Given.{GivenEntry, Given, addresses, said_by, entry_said, content_said}
use Rattle.gsym_layout.specs.Layout.{base_of, offsets_of, size_of, offsets_start, strings_start}
use Rattle.gsym_layout.specs.Layout.{strings_end, places_of, layout_of, opened_layout}
use Rattle.gsym_layout.specs.Writable.{IsOf32, IsNoEnd, SumFits, NameReads, Writable, Typed}
use Rattle.gsym_layout.specs.ReadBack.{SaysGiven}
use Rattle.gsym_layout.proofs.Fits.{has_room, name_small, text_small}
use Rattle.gsym_layout.proofs.Places.{from_part}
use Rattle.gsym_layout.proofs.Lists.{entries_written, number_written, RowFits, rows_written}
use Rattle.gsym_layout.proofs.Items.{EntryFits, data_written, all_placed}
use Rattle.gsym_layout.proofs.Parts.{size_known, length_offsets, strings_on, count_on, padding_on, table_on}
use Rattle.gsym_layout.proofs.Parts.{at_table, at_offsets, at_files, at_strings, at_data, layout_opens}
use Rattle.gsym_layout.proofs.Addresses.{base_below, addresses_back, address_back}

-- what holds of each of a list holds of the one at an index
pub at_index : {A : Type 0} (P : A → Type 0) (xs : List A) (i : ℕ) (x : A) → All P xs → slice_get xs i ≡ Some x → P x
at_index P xs i x a q =
    subst P (get_or_from_slice_get xs i x x q) (a i x (slice_get_within xs i x q))

module _ (g : Given) (w : Writable g) where
  -- ---- the tables

  rows_fit : All RowFits g.tables.files
  rows_fit k d l =
      let r = w.files k d l in
      record {
        directory = text_small g w (get_or g.tables.files k d).directory r.0;
        filename = text_small g w (get_or g.tables.files k d).filename r.1;
      }

  pub tables_read : shared_tables (opened_layout g) ≡ g.tables
  unfolding shared_tables opened_layout
  tables_read =
      rw (
        from_part (layout_of g) (strings_start g) g.tables.strings _ (at_strings g) (length g.tables.strings) refl,
        (at_files g).is,
        rows_written g.tables.files (strings_on g) rows_fit,
      )

  pub table_read : entries_of (opened_layout g) ≡ offsets_of g.entries
  unfolding entries_of opened_layout
  table_read =
      rw (size_known g, (at_table g).is)
      (subst (λ (n : ℕ). entries (size_of g) n (table_on g) ≡ offsets_of g.entries) (length_offsets g)
      (entries_written (size_of g) (size_known g) (offsets_of g.entries) (padding_on g) (has_room g w)))

  pub addresses_read : addresses_of (opened_layout g) ≡ addresses g.entries
  unfolding addresses_of opened_layout
  addresses_read = ap (map (λ n. base_of g.entries + n)) table_read ∙ addresses_back g.entries w.rises

  pub start_read : (i : ℕ) (e : GivenEntry) → slice_get g.entries i ≡ Some e →
      base_of g.entries + get_or (entries_of (opened_layout g)) i 0 ≡ e.addr.0
  start_read i e q = rw table_read (address_back g.entries w.rises i e q)

  pub symbol_read : (i : ℕ) (e : GivenEntry) → slice_get g.entries i ≡ Some e → symbol_at (opened_layout g) i ≡ e.addr
  unfolding symbol_at opened_layout
  symbol_read i e q =
      let s = at_index SumFits g.entries i e w.sums q in
      ap (λ (n : ℕ). record { 0 = n }) (rw (start_read i e q) (mod-eq_of_lt (omega arith)))

  -- ---- an entry

  module _ (t : Typed g) where
    entry_fits : (i : ℕ) (e : GivenEntry) → slice_get g.entries i ≡ Some e → EntryFits e
    entry_fits i e q = record {
      size = at_index (λ (e : GivenEntry). IsOf32 e.size) g.entries i e t.sizes q;
      name = name_small g w e (at_index (NameReads g.tables) g.entries i e w.names q);
      items = λ k d l. record {
        no_end = at_index (λ (e : GivenEntry). All IsNoEnd e.items) g.entries i e w.no_ends q k d l;
        kind = at_index (λ (e : GivenEntry). All (λ item. IsOf32 item.kind) e.items) g.entries i e t.kinds q k d l;
        len = at_index (λ (e : GivenEntry). All (λ item. IsOf32 (length item.bytes)) e.items) g.entries i e
            w.of_32.lengths q k d l;
      };
    }

    pub data_read : (i : ℕ) (e : GivenEntry) → slice_get g.entries i ≡ Some e →
        data_at (opened_layout g) i ≡ Some (said_by e)
    unfolding data_at info_at offset_at opened_layout places_of
    data_read i e q =
        let l = slice_get_within g.entries i e q in
        let p = all_placed (layout_of g) (strings_end g) g.entries (at_data g) i e q in
        let n = number_written (places_of g) (count_on g) i p.place w.of_32.places p.is in
        rw (lt-ltb _ _ l, ← drop-drop (i * 4) (offsets_start g) (layout_of g), (at_offsets g).is, n.1)
        (data_written (layout_of g) p.place e p.behind (entry_fits i e q) p.data_at)

    -- ---- the whole content

    contents_read : (k : ℕ) (es : List GivenEntry) →
        ((j : ℕ) (e : GivenEntry) → slice_get es j ≡ Some e → slice_get g.entries (k + j) ≡ Some e) →
        contents_from (opened_layout g) k (map (λ (e : GivenEntry). e.addr.0 - base_of g.entries) es)
        ≡ map entry_said es
    unfolding contents_from opened_layout
    contents_read k [] h = refl
    contents_read k (e ∷ es) h =
        let z : k + 0 ≡ k = omega arith in
        let q : slice_get g.entries k ≡ Some e = rw z at (h 0 e refl) in
        let b : base_of g.entries + (e.addr.0 - base_of g.entries) ≡ e.addr.0 =
        omega (arith, base_below g.entries w.rises k e q) in
        rw (
          b,
          data_read k e q,
          contents_read (k + 1) es (λ j x p.
              let y : k + 1 + j ≡ k + suc j = omega arith in rw y (h (suc j) x p)),
        )

    content_read : content_of (opened_layout g) ≡ content_said g
    unfolding offsets_of
    content_read =
        rw (
          tables_read,
          table_read,
          contents_read 0 g.entries (λ j e p. let z : 0 + j ≡ j = omega arith in rw z p),
        )

    pub says_given : SaysGiven g (layout_of g)
    says_given = record { opens = layout_opens g w; content = content_read; tables = tables_read }
