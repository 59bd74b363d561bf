-- What an entry says is read back: the items of its list, its size and its name; and where the data of each entry
-- stand.
-- Assumes nothing.
use Rattle.std.proofs.Common.{◌≡◌, ℕ, ◌+◌, ◌-◌, ◌≤◌, true, List, [], ◌∷◌, ◌++◌, Some, None, length, refl}
use Rattle.std.proofs.Common.{ap, ◌∙◌, arith, append_assoc, le-leb, ne_eqb, length-append, w32, option_and_then}
use Rattle.std.proofs.Common.{take_at, drop_at, zero, suc}
use Rattle.std.specs.List.{All, flat_map, slice_get}
use Rattle.std.specs.Int.{to_le_bytes}
use Rattle.std.proofs.lemmas.List.Elements.{All-head, All-tail}
use Rattle.gsym_parser.specs.Entries.{info_in}
use Rattle.gsym_parser.specs.Items.{ItemData, sized_item, item_front, onward, items_of, ends_at, closed_of}
use Rattle.gsym_parser.proofs.Lists.{items_step, closed_step}
use Rattle.gsym_resolver.specs.EntryData.{entry_data}
use Rattle.gsym_layout.specs.Given.{GivenEntry, said_by}
use Rattle.gsym_layout.specs.Layout.{zeros, item_bytes, data_bytes, data_start, data_end, data_from, places_from}
use Rattle.gsym_layout.specs.Writable.{IsOf32, IsNoEnd}
use Rattle.gsym_layout.proofs.Places.{From, from_at, from_next}
use Rattle.gsym_layout.proofs.Lists.{length_zeros, u32_written}

-- an item that doesn't end its list, its type and its length of 32 bits
pub record ItemFits (item : ItemData) : Type 0 where
  pub no_end : IsNoEnd item
  pub kind : IsOf32 item.kind
  pub len : IsOf32 (length item.bytes)

-- ---- items

module _ (item : ItemData) (rest : List ℕ) (h : ItemFits item) where
  item_split : item_bytes item ++ rest
      ≡ to_le_bytes w32 item.kind ++ (to_le_bytes w32 (length item.bytes) ++ (item.bytes ++ rest))
  unfolding item_bytes
  item_split = simp append_assoc

  item_written : item_front (item_bytes item ++ rest) ≡ Some (item, rest)
  unfolding item_front sized_item
  item_written =
      let l : length item.bytes ≤ length (item.bytes ++ rest) = omega (arith, length-append item.bytes rest) in
      rw (
        item_split,
        u32_written item.kind (to_le_bytes w32 (length item.bytes) ++ (item.bytes ++ rest)) h.kind,
        ne_eqb item.kind 0 h.no_end,
        u32_written (length item.bytes) (item.bytes ++ rest) h.len,
        le-leb _ _ l,
        take_at item.bytes rest (length item.bytes) refl,
        drop_at item.bytes rest (length item.bytes) refl,
      )

-- type 0 ends a list
abbrev ended : List ℕ → List ℕ
ended rest = to_le_bytes w32 0 ++ rest

end_written : (rest : List ℕ) → item_front (ended rest) ≡ None
unfolding item_front
end_written rest = rw (u32_written 0 rest (omega arith))

ends_written : (rest : List ℕ) → ends_at (ended rest) ≡ true
unfolding ends_at
ends_written rest = rw (u32_written 0 rest (omega arith))

items_written : (items : List ItemData) (rest : List ℕ) → All ItemFits items →
    items_of (flat_map item_bytes items ++ ended rest) ≡ items
items_written [] rest a = items_step (ended rest) ∙ ap (onward items_of) (end_written rest)
items_written (item ∷ items) rest a =
    let tail = flat_map item_bytes items ++ ended rest in
    ap items_of (append_assoc (item_bytes item) (flat_map item_bytes items) (ended rest))
    ∙ items_step (item_bytes item ++ tail)
    ∙ ap (onward items_of) (item_written item tail (All-head ItemFits item items a))
    ∙ ap (λ is. item ∷ is) (items_written items rest (All-tail ItemFits item items a))

closed_written : (items : List ItemData) (rest : List ℕ) → All ItemFits items →
    closed_of (flat_map item_bytes items ++ ended rest) ≡ true
closed_written [] rest a =
    closed_step (ended rest) ∙ rw (end_written rest) (ends_written rest)
closed_written (item ∷ items) rest a =
    let tail = flat_map item_bytes items ++ ended rest in
    ap closed_of (append_assoc (item_bytes item) (flat_map item_bytes items) (ended rest))
    ∙ closed_step (item_bytes item ++ tail)
    ∙ rw (item_written item tail (All-head ItemFits item items a))
    (closed_written items rest (All-tail ItemFits item items a))

-- ---- an entry

pub record EntryFits (e : GivenEntry) : Type 0 where
  pub size : IsOf32 e.size
  pub name : IsOf32 e.name.0
  pub items : All ItemFits e.items

module _ (file : List ℕ) (place : ℕ) (e : GivenEntry) (rest : List ℕ) (h : EntryFits e)
    (f : From file place (data_bytes e ++ rest)) where
  data_split : data_bytes e ++ rest
      ≡ to_le_bytes w32 e.size ++ (to_le_bytes w32 e.name.0
      ++ (flat_map item_bytes e.items ++ ended (to_le_bytes w32 0 ++ rest)))
  unfolding data_bytes
  data_split = simp append_assoc

  pub data_written : option_and_then (λ info. Some (entry_data info)) (info_in file place) ≡ Some (said_by e)
  unfolding info_in
  data_written =
      let bytes = flat_map item_bytes e.items ++ ended (to_le_bytes w32 0 ++ rest) in
      rw (
        f.is,
        data_split,
        u32_written e.size (to_le_bytes w32 e.name.0 ++ bytes) h.size,
        u32_written e.name.0 bytes h.name,
        items_written e.items (to_le_bytes w32 0 ++ rest) h.items,
        closed_written e.items (to_le_bytes w32 0 ++ rest) h.items,
      )

-- ---- the entries

pub length_places : (at : ℕ) (es : List GivenEntry) → length (places_from at es) ≡ length es
unfolding places_from
length_places at [] = refl
length_places at (e ∷ es) = ap suc (length_places (data_end at e) es)

-- where an entry's data stand
pub record Placed (file : List ℕ) (places : List ℕ) (i : ℕ) (e : GivenEntry) : Type 0 where
  pub place : ℕ
  pub is : slice_get places i ≡ Some place
  pub behind : List ℕ
  pub data_at : From file place (data_bytes e ++ behind)

module _ (file : List ℕ) where
  placed_first : (at : ℕ) (e : GivenEntry) (es : List GivenEntry) → From file at (data_from at (e ∷ es)) →
      From file (data_start at) (data_bytes e ++ data_from (data_end at e) es)
  unfolding data_from
  placed_first at e es f =
      let n = data_start at - at in
      from_at file (at + n) (data_start at) _ (omega arith)
      (from_next file at (zeros n) (data_bytes e ++ data_from (data_end at e) es) (simp append_assoc at f) n
      (length_zeros n))

  pub all_placed : (at : ℕ) (es : List GivenEntry) → From file at (data_from at es) → (i : ℕ) (e : GivenEntry) →
      slice_get es i ≡ Some e → Placed file (places_from at es) i e
  unfolding places_from
  all_placed at [] f i e q = absurd cc
  all_placed at (x ∷ es) f zero e q =
      let z : x ≡ e = cc in
      record {
        place = data_start at;
        is = refl;
        behind = data_from (data_end at x) es;
        data_at = rw (← z) (placed_first at x es f);
      }
  all_placed at (x ∷ es) f (suc i) e q =
      let r = all_placed (data_end at x) es
      (from_next file (data_start at) (data_bytes x) (data_from (data_end at x) es) (placed_first at x es f)
      (length (data_bytes x)) refl) i e q in
      record { place = r.place; is = r.is; behind = r.behind; data_at = r.data_at }
