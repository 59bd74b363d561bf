-- What is left of a list that is put, an element on, and at the end.
-- Assumes nothing.
use Rattle.std.proofs.Common.{◌≡◌, ℕ, ◌+◌, ◌-◌, ◌<◌, ◌≤◌, List, [], ◌∷◌, ◌++◌, length, drop, map, get_or, refl, ap}
use Rattle.std.proofs.Common.{◌∙◌, sym, append_assoc, take, subst, arith}
use Rattle.std.specs.Int.{w32, to_le_bytes}
use Rattle.std.specs.List.{flat_map, All}
use Rattle.std.proofs.lemmas.List.{at_drop_more, at_drop_all, length-replicate}
use Rattle.gsym_parser.specs.declared.entries.FileInfo.{FileInfo}
use Rattle.gsym_parser.specs.declared.items.Item.{Item}
use Rattle.gsym_parser.specs.Items.{item_view}
use Rattle.gsym_parser.specs.Search.{width_of}
use Rattle.gsym_layout.specs.Layout.{zeros, numbers, item_bytes, row_bytes, data_bytes, data_start, data_end, data_from}
use Rattle.gsym_layout.specs.Layout.{places_from}
use Rattle.std.proofs.lemmas.List.Elements.{All-head, All-tail}
use Rattle.gsym_layout.specs.Writable.{IsOf32}
use Rattle.gsym_writer.specs.declared.Entry.{Entry}
use Rattle.gsym_writer.specs.Parts.{addresses_less}
use Rattle.gsym_writer.specs.View.{entry_view, entries_view}
use Rattle.gsym_writer.proofs.Behind.{Puts, puts_more, puts_room}

-- what a list has behind its end
abbrev pub no_file : FileInfo
no_file = record { directory = record { 0 = 0 }; filename = record { 0 = 0 } }

abbrev pub no_item : Item
no_item = record { kind = 0; bytes = record { ref_ptr = (0, 0); now = [] } }

abbrev pub no_entry : Entry
no_entry = record {
  addr = record { 0 = 0 };
  size = 0;
  name = record { 0 = 0 };
  items = record { ref_ptr = (0, 0); now = [] };
}

pub items_more :
    (xs : List Item) (i : ℕ) (d : Item) → i < length xs →
    flat_map item_bytes (map item_view (drop i xs))
    ≡ item_bytes (item_view (get_or xs i d)) ++ flat_map item_bytes (map item_view (drop (i + 1) xs))
items_more xs i d l = at_drop_more (λ ys. flat_map item_bytes (map item_view ys)) xs i d l

pub rows_more :
    (xs : List FileInfo) (i : ℕ) (d : FileInfo) → i < length xs →
    flat_map row_bytes (drop i xs) ≡ row_bytes (get_or xs i d) ++ flat_map row_bytes (drop (i + 1) xs)
rows_more xs i d l = at_drop_more (flat_map row_bytes) xs i d l

module _ (es : List Entry) (i : ℕ) where
  pub addresses_more :
      (size base : ℕ) (d : Entry) → i < length es →
      numbers (width_of size) (addresses_less base (entries_view (drop i es)))
      ≡ to_le_bytes (width_of size) ((get_or es i d).addr.0 - base)
      ++ numbers (width_of size) (addresses_less base (entries_view (drop (i + 1) es)))
  addresses_more size base d l =
      at_drop_more (λ xs. numbers (width_of size) (addresses_less base (entries_view xs))) es i d l

  module _ (at : ℕ) where
    pub places_cons :
        (d : Entry) → i < length es →
        places_from at (entries_view (drop i es))
        ≡ data_start at ∷ places_from (data_end at (entry_view (get_or es i d))) (entries_view (drop (i + 1) es))
    unfolding places_from
    places_cons d l = at_drop_more (λ xs. places_from at (entries_view xs)) es i d l

    pub places_more :
        (d : Entry) → i < length es →
        numbers w32 (places_from at (entries_view (drop i es)))
        ≡ to_le_bytes w32 (data_start at)
        ++ numbers w32 (places_from (data_end at (entry_view (get_or es i d))) (entries_view (drop (i + 1) es)))
    places_more d l = ap (numbers w32) (places_cons d l)

    pub data_more :
        (d : Entry) → i < length es →
        data_from at (entries_view (drop i es))
        ≡ zeros (data_start at - at) ++ (data_bytes (entry_view (get_or es i d))
        ++ data_from (data_end at (entry_view (get_or es i d))) (entries_view (drop (i + 1) es)))
    unfolding data_from
    data_more d l =
        at_drop_more (λ xs. data_from at (entries_view xs)) es i d l
        ∙ append_assoc (zeros (data_start at - at)) (data_bytes (entry_view (get_or es i d)))
        (data_from (data_end at (entry_view (get_or es i d))) (entries_view (drop (i + 1) es)))

    pub places_end : length es ≤ i → places_from at (entries_view (drop i es)) ≡ []
    unfolding places_from
    places_end l = at_drop_all (λ xs. places_from at (entries_view xs)) es i l

    pub data_ended : length es ≤ i → data_from at (entries_view (drop i es)) ≡ []
    unfolding data_from
    data_ended l = at_drop_all (λ xs. data_from at (entries_view xs)) es i l

-- ---- the data of an entry, in two steps

module _ (es : List Entry) (place i : ℕ) where
  -- zeros up to where they stand
  pub zeros_room :
      {old new all : List ℕ} {at : ℕ} (d : Entry) (start : ℕ) →
      Puts old new at place (data_from place (entries_view (drop i es))) all →
      i < length es → start ≡ data_start place → at + length all ≤ length old → start ≤ length new
  zeros_room d start P l e r =
      omega (
        arith,
        e,
        puts_room P (zeros (data_start place - place)) _ (data_more es i place d l) r,
        length-replicate {A = ℕ} (data_start place - place) 0,
      )

  pub zeros_put :
      {old new all : List ℕ} {at : ℕ} (d : Entry) (next start : ℕ) (newer : List ℕ) →
      Puts old new at place (data_from place (entries_view (drop i es))) all →
      i < length es → start ≡ data_start place → next ≡ start →
      take next newer ≡ take place new ++ zeros (start - place) → drop next newer ≡ drop next new →
      length newer ≡ length new →
      Puts old newer at next (data_bytes (entry_view (get_or es i d))
      ++ data_from (data_end place (entry_view (get_or es i d))) (entries_view (drop (i + 1) es))) all
  zeros_put {new = new} d next start newer P l e n w r s =
      puts_more P next newer (zeros (data_start place - place)) _
      (omega (arith, e, n, length-replicate {A = ℕ} (data_start place - place) 0))
      (subst (λ (k : ℕ). take next newer ≡ take place new ++ zeros (k - place)) e w) r s (data_more es i place d l)

  -- the data themselves
  pub data_put :
      {old new all : List ℕ} {at : ℕ} (d : Entry) (start next : ℕ) (newer : List ℕ) →
      Puts old new at start (data_bytes (entry_view (get_or es i d))
      ++ data_from (data_end place (entry_view (get_or es i d))) (entries_view (drop (i + 1) es))) all →
      start ≡ data_start place → next ≡ start + length (data_bytes (entry_view (get_or es i d))) →
      take next newer ≡ take start new ++ data_bytes (entry_view (get_or es i d)) →
      drop next newer ≡ drop next new → length newer ≡ length new →
      Puts old newer at next (data_from next (entries_view (drop (i + 1) es))) all
  data_put {old = old} {all = all} {at = at} d start next newer P e n w r s =
      let q : data_end place (entry_view (get_or es i d)) ≡ next = omega (arith, e, n) in
      subst (λ (k : ℕ). Puts old newer at next (data_from k (entries_view (drop (i + 1) es))) all) q
      (puts_more P next newer (data_bytes (entry_view (get_or es i d))) _ n w r s refl)

-- ---- the place of an entry's data

module _ (es : List Entry) (at i : ℕ) where
  pub place_of_32 : (d : Entry) → i < length es → All IsOf32 (places_from at (entries_view (drop i es))) →
      IsOf32 (data_start at)
  place_of_32 d l a =
      All-head IsOf32 (data_start at) _ (subst (All IsOf32) (places_cons es i at d l) a)

  pub places_of_32 :
      (d : Entry) (end : ℕ) → i < length es → end ≡ data_end at (entry_view (get_or es i d)) →
      All IsOf32 (places_from at (entries_view (drop i es))) →
      All IsOf32 (places_from end (entries_view (drop (i + 1) es)))
  places_of_32 d end l e a =
      subst (λ (k : ℕ). All IsOf32 (places_from k (entries_view (drop (i + 1) es)))) (sym e)
      (All-tail IsOf32 (data_start at) _ (subst (All IsOf32) (places_cons es i at d l) a))

  pub place_put :
      {old new all : List ℕ} {to place : ℕ} (d : Entry) (start end next : ℕ) (newer : List ℕ) →
      Puts old new to place (numbers w32 (places_from at (entries_view (drop i es)))) all →
      i < length es → start ≡ data_start at → end ≡ data_end at (entry_view (get_or es i d)) →
      next ≡ place + 4 → take next newer ≡ take place new ++ to_le_bytes w32 start →
      drop next newer ≡ drop next new → length newer ≡ length new →
      Puts old newer to next (numbers w32 (places_from end (entries_view (drop (i + 1) es)))) all
  place_put {old = old} {new = new} {all = all} {to = to} {place = place} d start end next newer P l s e n w r q =
      subst (λ (k : ℕ). Puts old newer to next (numbers w32 (places_from k (entries_view (drop (i + 1) es)))) all)
      (sym e)
      (puts_more P next newer (to_le_bytes w32 (data_start at)) _ n
      (subst (λ (k : ℕ). take next newer ≡ take place new ++ to_le_bytes w32 k) s w) r q (places_more es i at d l))
