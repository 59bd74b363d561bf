-- The parts of a file, put one after another, are the layout.
-- Assumes nothing.
use Rattle.std.proofs.Common.{◌≡◌, true, ℕ, ◌+◌, ◌-◌, ◌<◌, ◌≤◌, ◌^◌, List, [], ◌∷◌, ◌++◌, length, take, drop, map, refl}
use Rattle.std.proofs.Common.{sym, ap, subst, ◌∙◌, append_assoc, append-nil, length-append, arith}
use Rattle.std.specs.Int.{w32, to_le_bytes, next_multiple_of}
use Rattle.std.specs.List.{All, flat_map}
use Rattle.std.proofs.lemmas.List.Elements.{All-nil, All-cons, All-head, All-tail, All-weaker}
use Rattle.gsym_parser.specs.declared.items.Item.{Item}
use Rattle.gsym_parser.specs.Items.{item_view}
use Rattle.gsym_parser.specs.Search.{is_width, width_of}
use Rattle.gsym_layout.specs.Given.{Given}
use Rattle.gsym_layout.specs.Layout.{header_bytes, numbers, zeros, row_bytes, base_of, offsets_of, size_of, places_from}
use Rattle.gsym_layout.specs.Layout.{places_of, data_from, offsets_start, table_end, strings_end, head_of}
use Rattle.gsym_layout.specs.Layout.{layout_of}
use Rattle.gsym_layout.specs.Writable.{IsOf32, AllItems, Of32}
use Rattle.gsym_writer.specs.declared.Entry.{Entry}
use Rattle.gsym_writer.specs.declared.plan.Head.{Head}
use Rattle.gsym_writer.specs.Ends.{end_from}
use Rattle.gsym_writer.specs.Parts.{addresses_less, index_bytes, shared_bytes}
use Rattle.gsym_writer.specs.View.{entry_view, entries_view, head_view}
use Rattle.gsym_writer.proofs.Behind.{Puts, puts_none, puts_more}
use Rattle.gsym_writer.proofs.Lengths.{length_header, length_table, length_all_data, length_layout, width_known}
use Rattle.gsym_writer.proofs.Heads.{strings_end_is}

-- ---- what is asked of the lengths of items, of what is given and of its view

from_map : {X Y : Type 0} (P : Y → Type 0) (f : X → Y) (xs : List X) → All P (map f xs) → All (λ x. P (f x)) xs
from_map P f [] a = All-nil (λ x. P (f x))
from_map P f (x ∷ xs) a =
    All-cons (λ x. P (f x)) x xs (All-head P (f x) (map f xs) a) (from_map P f xs (All-tail P (f x) (map f xs) a))

pub short : (es : List Entry) → AllItems (λ item. IsOf32 (length item.bytes)) (entries_view es) →
    All (λ (e : Entry). All (λ (i : Item). length i.bytes.now < 2 ^ 32) e.items.now) es
short es a =
    All-weaker (λ (e : Entry). All (λ item. IsOf32 (length item.bytes)) (entry_view e).items) _
    (λ e b. from_map (λ item. IsOf32 (length item.bytes)) item_view e.items.now b) es
    (from_map (λ e. All (λ item. IsOf32 (length item.bytes)) e.items) entry_view es a)

-- ---- the parts

regroup :
    (H A Z P C R S D : List ℕ) →
    H ++ A ++ Z ++ P ++ C ++ R ++ S ++ D ≡ H ++ ((A ++ Z ++ P) ++ ((C ++ R ++ S) ++ D))
regroup H A Z P C R S D = simp append_assoc

module _ (g : Given) where
  parts : layout_of g
      ≡ header_bytes (head_of g) ++ (index_bytes 48 (size_of g) (base_of g.entries) (strings_end g) g.entries
      ++ (shared_bytes g.tables.files g.tables.strings ++ data_from (strings_end g) g.entries))
  unfolding layout_of index_bytes shared_bytes offsets_of places_of
  parts =
      let table : List ℕ = numbers (width_of (size_of g)) (addresses_less (base_of g.entries) g.entries) in
      let gap : offsets_start g - table_end g ≡ next_multiple_of (48 + length table) 4 - (48 + length table) =
      ap (λ n. next_multiple_of (48 + n) 4 - (48 + n)) (sym (length_table g)) in
      rw gap
      (regroup (header_bytes (head_of g)) table (zeros (next_multiple_of (48 + length table) 4 - (48 + length table)))
      (numbers w32 (places_from (strings_end g) g.entries)) (to_le_bytes w32 (length g.tables.files))
      (flat_map row_bytes g.tables.files) g.tables.strings (data_from (strings_end g) g.entries))

-- ---- with a header's numbers that are those of what is given

module _ (g : Given) (h : Head) (H : head_view h ≡ head_of g) where
  size_is : h.offset_size ≡ size_of g
  unfolding head_of
  size_is = ap (λ k. k.offset_size) H

  base_is : h.base.0 ≡ base_of g.entries
  unfolding head_of
  base_is = ap (λ k. k.base.0) H

  abbrev start : ℕ
  start = h.strings_place + h.strings_size

  start_is : start ≡ strings_end g
  start_is = strings_end_is g h H

  pub width_is : (size : ℕ) → size ≡ h.offset_size → is_width size ≡ true
  unfolding size_of
  width_is size s = ap is_width (s ∙ size_is) ∙ width_known (offsets_of g.entries)

  pub places_of_32 : Of32 g → All IsOf32 (places_from start g.entries)
  unfolding places_of
  places_of_32 F = subst (λ (k : ℕ). All IsOf32 (places_from k g.entries)) (sym start_is) F.places

  -- where all data end
  pub whole_fits : (room : ℕ) → length (layout_of g) ≤ room → room < 2 ^ 64 →
      start + length (data_from start g.entries) < 2 ^ 64
  whole_fits room l r =
      let e : start + length (data_from start g.entries) ≡ length (layout_of g) =
      length_all_data start g.entries ∙ ap (λ k. end_from k g.entries) start_is ∙ sym (length_layout g) in
      omega (arith, e, l, r)

  parts_at :
      (at size : ℕ) → at ≡ 48 → size ≡ h.offset_size →
      layout_of g
      ≡ header_bytes (head_view h) ++ (index_bytes at size h.base.0 start g.entries
      ++ (shared_bytes g.tables.files g.tables.strings ++ data_from (strings_end g) g.entries))
  parts_at at size a s =
      let index : index_bytes 48 (size_of g) (base_of g.entries) (strings_end g) g.entries
      ≡ index_bytes at size h.base.0 start g.entries =
      ap (λ k. index_bytes k (size_of g) (base_of g.entries) (strings_end g) g.entries) (sym a)
      ∙ ap (λ k. index_bytes at k (base_of g.entries) (strings_end g) g.entries) (sym (s ∙ size_is))
      ∙ ap (λ k. index_bytes at size k (strings_end g) g.entries) (sym base_is)
      ∙ ap (λ k. index_bytes at size h.base.0 k g.entries) (sym start_is) in
      let behind : List ℕ = shared_bytes g.tables.files g.tables.strings ++ data_from (strings_end g) g.entries in
      parts g
      ∙ ap (λ k. header_bytes k ++ (index_bytes 48 (size_of g) (base_of g.entries) (strings_end g) g.entries ++ behind))
      (sym H)
      ∙ ap (λ k. header_bytes (head_view h) ++ (k ++ behind)) index

  pub header_room : (room : ℕ) → length (layout_of g) ≤ room → 48 ≤ room
  header_room room l =
      omega (
        arith,
        l,
        ap length (parts_at 48 h.offset_size refl refl),
        length-append (header_bytes (head_view h)) (index_bytes 48 h.offset_size h.base.0 start g.entries
            ++ (shared_bytes g.tables.files g.tables.strings ++ data_from (strings_end g) g.entries)),
        length_header (head_view h),
      )

  module _ (out : List ℕ) where
    -- what is yet to be put behind the header, behind the tables and behind the strings
    pub after_header :
        (at size : ℕ) (new : List ℕ) → at ≡ 48 → size ≡ h.offset_size → take at new ≡ header_bytes (head_view h) →
        drop at new ≡ drop at out → length new ≡ length out →
        Puts out new 0 at (index_bytes at size h.base.0 start g.entries
        ++ (shared_bytes g.tables.files g.tables.strings ++ data_from (strings_end g) g.entries)) (layout_of g)
    after_header at size new a s w r l =
        puts_more (puts_none out 0 (layout_of g)) at new (header_bytes (head_view h)) _
        (omega (arith, a, length_header (head_view h))) w r l (parts_at at size a s)

    module _ (new : List ℕ) (at : ℕ) (P : Puts out new 0 at (data_from (strings_end g) g.entries) (layout_of g)) where
      at_is : at ≡ strings_end g
      at_is = omega (arith, P.ends, length_layout g, length_all_data (strings_end g) g.entries)

      pub after_strings : Puts out new 0 at (data_from at g.entries ++ []) (layout_of g)
      after_strings =
          subst (λ (k : ℕ). Puts out new 0 at (data_from k g.entries ++ []) (layout_of g)) (sym at_is)
          (subst (λ (xs : List ℕ). Puts out new 0 at xs (layout_of g))
          (sym (append-nil (data_from (strings_end g) g.entries))) P)
