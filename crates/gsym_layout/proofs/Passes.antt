-- A written file passes a check exactly if its items read in full: all else that a check asks is asked before a file is
-- written.
-- Assumes nothing.
use Rattle.std.proofs.Common.{◌≡◌, ◌↔◌, ℕ, ◌<◌, Option, Some, Ok, Result, get_or, refl, sym, subst}
use Rattle.std.proofs.Common.{◌∙◌}
use Rattle.std.specs.Prelude.{IsOk}
use Rattle.std.specs.List.{All, slice_get}
use Rattle.std.proofs.lemmas.Option.{slice_get-get_or}
use Rattle.gsym_types.specs.declared.Refusal.{Refusal}
use Rattle.gsym_parser.specs.View.{View}
use Rattle.gsym_resolver.specs.EntryData.{EntryData}
use Rattle.gsym_resolver.specs.SharedTables.{shared_tables}
use Rattle.gsym_verify.specs.Check.{check_of}
use Rattle.gsym_verify.specs.Good.{GoodItem, GoodData, GoodEntry, Good, start_of}
use Rattle.gsym_verify.proofs.Whole.{passes}
use Rattle.gsym_layout.specs.Given.{GivenEntry, Given, said_by}
use Rattle.gsym_layout.specs.Layout.{layout_of, opened_layout}
use Rattle.gsym_layout.specs.Writable.{SumFits, NameReads, Writable, Typed}
use Rattle.gsym_layout.specs.ReadBack.{ItemsInFull}
use Rattle.gsym_layout.proofs.Parts.{size_known, layout_opens}
use Rattle.gsym_layout.proofs.Addresses.{offsets_up}
use Rattle.gsym_layout.proofs.ReadBack.{at_index, tables_read, table_read, start_read, data_read}
use Rattle.gsym_layout.proofs.Answering.{is_there}

module _ (g : Given) (w : Writable g) (t : Typed g) where
  module _ (i : ℕ) (e : GivenEntry) (q : slice_get g.entries i ≡ Some e) where
    symbol_is : start_of (opened_layout g) i ≡ e.addr.0
    unfolding opened_layout
    symbol_is = start_read g w i e q

    -- what a good entry says
    good_items : GoodEntry (opened_layout g) i → All (GoodItem e.addr) e.items
    good_items G =
        let z : G.said ≡ said_by e =
        (let y : ◌≡◌ {A = Option EntryData} (Some G.said) (Some (said_by e)) = sym G.reads ∙ data_read g w t i e q in
        cc) in
        let d = subst (λ (s : EntryData). GoodData (shared_tables (opened_layout g)) (start_of (opened_layout g) i) s) z
        G.good in
        subst (λ (n : ℕ). All (GoodItem (record { 0 = n })) e.items) symbol_is d.items

    entry_good : All (GoodItem e.addr) e.items → GoodEntry (opened_layout g) i
    entry_good a = record {
      said = said_by e;
      reads = data_read g w t i e q;
      good = rw (tables_read g w, symbol_is) (record {
        sum = at_index SumFits g.entries i e w.sums q;
        named = at_index (NameReads g.tables) g.entries i e w.names q;
        items = a;
        closed = refl;
      });
    }

  good_full : Good (layout_of g) → ItemsInFull g
  unfolding opened_layout
  good_full G k d l =
      let v : G.view ≡ opened_layout g =
      (let y : ◌≡◌ {A = Result View Refusal} (Ok G.view) (Ok (opened_layout g)) = sym G.opens ∙ layout_opens g w in
      cc) in
      let n : k < G.view.tables.count = rw v l in
      good_items k (get_or g.entries k d) (slice_get-get_or g.entries k d l)
      (subst (λ (x : View). GoodEntry x k) v (G.entries k n))

  full_good : ItemsInFull g → Good (layout_of g)
  unfolding opened_layout
  full_good a = record {
    view = opened_layout g;
    opens = layout_opens g w;
    width = size_known g;
    never_falls = rw (table_read g w) (offsets_up g.entries w.rises);
    entries = λ i l.
        let e = is_there g.entries i l in
        entry_good i e.0 e.1 (at_index (λ (x : GivenEntry). All (GoodItem x.addr) x.items) g.entries i e.0 a e.1);
  }

  pub written_passes : IsOk (check_of (layout_of g)) ↔ ItemsInFull g
  written_passes = (λ h. good_full ((passes (layout_of g)).0 h), λ a. (passes (layout_of g)).1 (full_good a))
