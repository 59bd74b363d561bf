-- How long parts of a file are, counted without the bytes.
-- Assumes nothing.
use Rattle.std.proofs.Common.{◌≡◌, ℕ, suc, ◌+◌, ◌-◌, ◌*◌, ◌<◌, ◌≤◌, ◌^◌, List, [], ◌∷◌, ◌++◌, length, drop, map, refl}
use Rattle.std.proofs.Common.{get_or}
use Rattle.std.proofs.Common.{ap, subst, sym, arith, length-append, ◌∙◌, Bool, true, false}
use Rattle.std.specs.Prelude.{if◌then◌else◌}
use Rattle.std.specs.Int.{w32, to_le_bytes}
use Rattle.std.specs.List.{flat_map}
use Rattle.std.proofs.lemmas.List.{at_drop_more, at_drop_all, length-replicate, length-map}
use Rattle.gsym_parser.specs.declared.items.Item.{Item}
use Rattle.gsym_parser.specs.Items.{ItemData, item_view}
use Rattle.gsym_parser.specs.declared.entries.FileInfo.{FileInfo}
use Rattle.gsym_parser.specs.Search.{is_width, width_of}
use Rattle.gsym_layout.specs.Given.{GivenEntry, Given}
use Rattle.gsym_layout.specs.Layout.{zeros, item_bytes, data_bytes, data_start, data_end, data_from}
use Rattle.gsym_layout.specs.Layout.{places_from, places_of}
use Rattle.gsym_layout.specs.Layout.{Head, header_bytes, numbers, row_bytes, have_room, least_size, base_of, offsets_of}
use Rattle.gsym_layout.specs.Layout.{size_of, table_end, offsets_start, strings_end, head_of, layout_of}
use Rattle.gsym_inline.specs.Limits.{most_address}
use Rattle.gsym_writer.specs.declared.Entry.{Entry}
use Rattle.gsym_writer.specs.Ends.{items_len, data_len, end_from, told_len}
use Rattle.gsym_writer.specs.View.{entry_view, entries_view}
use Rattle.gsym_writer.proofs.Left.{data_more}
use Rattle.gsym_writer.proofs.Numbers.{length_to_le_bytes}

pub items_len_more :
    (xs : List Item) (i : ℕ) (d : Item) → i < length xs →
    items_len (map item_view (drop i xs))
    ≡ 8 + length (get_or xs i d).bytes.now + items_len (map item_view (drop (i + 1) xs))
unfolding items_len
items_len_more xs i d l = at_drop_more (λ ys. items_len (map item_view ys)) xs i d l

-- a length counted so far that no number holds is told as the greatest
pub told_more :
    (xs : List Item) (i : ℕ) (d : Item) (len more most all : ℕ) → i < length xs →
    told_len (len + items_len (map item_view (drop i xs))) ≡ all → more ≡ told_len (len + 8) →
    most ≡ told_len (more + length (get_or xs i d).bytes.now) →
    told_len (most + items_len (map item_view (drop (i + 1) xs))) ≡ all
told_more xs i d len more most all l e m n = omega (arith, e, m, n, items_len_more xs i d l)

pub told_end :
    (xs : List Item) (i len all : ℕ) → length xs ≤ i → len ≤ most_address →
    told_len (len + items_len (map item_view (drop i xs))) ≡ all → len ≡ all
unfolding items_len
told_end xs i len all l m e =
    let z : items_len (map item_view (drop i xs)) ≡ 0 = at_drop_all (λ ys. items_len (map item_view ys)) xs i l in
    omega (arith, z, e)

-- ---- of data

pub length_item : (item : ItemData) → length (item_bytes item) ≡ 8 + length item.bytes
unfolding item_bytes
length_item item =
    omega (
      arith,
      length-append (to_le_bytes w32 item.kind ++ to_le_bytes w32 (length item.bytes)) item.bytes,
      length-append (to_le_bytes w32 item.kind) (to_le_bytes w32 (length item.bytes)),
    )

pub length_items : (items : List ItemData) → length (flat_map item_bytes items) ≡ items_len items
unfolding items_len
length_items [] = refl
length_items (item ∷ items) =
    omega (
      arith,
      length-append (item_bytes item) (flat_map item_bytes items),
      length_item item,
      length_items items,
    )

pub length_data : (e : GivenEntry) → length (data_bytes e) ≡ data_len e
unfolding data_bytes data_len
length_data e =
    let front : List ℕ = to_le_bytes w32 e.size ++ to_le_bytes w32 e.name.0 in
    omega (
      arith,
      length-append ((front ++ flat_map item_bytes e.items) ++ to_le_bytes w32 0) (to_le_bytes w32 0),
      length-append (front ++ flat_map item_bytes e.items) (to_le_bytes w32 0),
      length-append front (flat_map item_bytes e.items),
      length_items e.items,
    )

pub length_all_data : (at : ℕ) (es : List GivenEntry) → at + length (data_from at es) ≡ end_from at es
unfolding data_from end_from
length_all_data at [] = omega arith
length_all_data at (e ∷ es) =
    let rest : List ℕ = data_from (data_end at e) es in
    let n : data_end at e + length rest ≡ end_from (data_end at e) es = length_all_data (data_end at e) es in
    let q : end_from (data_end at e) es ≡ end_from (data_start at + data_len e) es =
    ap (λ k. end_from (data_start at + k) es) (length_data e) in
    omega (
      arith,
      n,
      q,
      length-append (zeros (data_start at - at) ++ data_bytes e) rest,
      length-append (zeros (data_start at - at)) (data_bytes e),
      length-replicate {A = ℕ} (data_start at - at) 0,
    )

module _ (es : List Entry) (at i : ℕ) where
  -- the data of an entry more end where all do
  pub ends_more :
      (d : Entry) → i < length es →
      at + length (data_from at (entries_view (drop i es)))
      ≡ data_end at (entry_view (get_or es i d))
      + length (data_from (data_end at (entry_view (get_or es i d))) (entries_view (drop (i + 1) es)))
  ends_more d l =
      let bytes : List ℕ = data_bytes (entry_view (get_or es i d)) in
      let rest : List ℕ = data_from (data_end at (entry_view (get_or es i d))) (entries_view (drop (i + 1) es)) in
      omega (
        arith,
        ap length (data_more es i at d l),
        length-append (zeros (data_start at - at)) (bytes ++ rest),
        length-append bytes rest,
        length-replicate {A = ℕ} (data_start at - at) 0,
      )

  -- where they end, by the length that is told
  pub end_more :
      (d : Entry) (start len : ℕ) → i < length es → start ≡ data_start at →
      len ≡ told_len (16 + items_len (entry_view (get_or es i d)).items) →
      at + length (data_from at (entries_view (drop i es))) < 2 ^ 64 →
      start + len ≡ data_end at (entry_view (get_or es i d))
  unfolding data_len
  end_more d start len l s n f =
      omega (arith, s, n, f, ends_more d l, length_data (entry_view (get_or es i d)))

  -- which are few enough still
  pub fits_more :
      (d : Entry) (end : ℕ) → i < length es → end ≡ data_end at (entry_view (get_or es i d)) →
      at + length (data_from at (entries_view (drop i es))) < 2 ^ 64 →
      end + length (data_from end (entries_view (drop (i + 1) es))) < 2 ^ 64
  fits_more d end l e f =
      let g : data_end at (entry_view (get_or es i d))
      + length (data_from (data_end at (entry_view (get_or es i d))) (entries_view (drop (i + 1) es))) < 2 ^ 64 =
      omega (arith, f, ends_more d l) in
      subst (λ (k : ℕ). k + length (data_from k (entries_view (drop (i + 1) es))) < 2 ^ 64) (sym e) g

-- ---- of the whole

pub width_known : (ns : List ℕ) → is_width (least_size ns) ≡ true
unfolding least_size
width_known ns = by (have_room 1 ns) (have_room 2 ns) (have_room 4 ns)
  where
    by : (a b c : Bool) → is_width (if a then 1 else if b then 2 else if c then 4 else 8) ≡ true
    by true b c = refl
    by false true c = refl
    by false false true = refl
    by false false false = refl

pub length_numbers :
    (size : ℕ) (ns : List ℕ) → is_width size ≡ true → length (numbers (width_of size) ns) ≡ length ns * size
length_numbers size [] w = omega arith
length_numbers size (n ∷ ns) w =
    omega (
      arith,
      length-append (to_le_bytes (width_of size) n) (numbers (width_of size) ns),
      length_to_le_bytes size n w,
      length_numbers size ns w,
    )

pub length_u32s : (ns : List ℕ) → length (numbers w32 ns) ≡ length ns * 4
length_u32s [] = refl
length_u32s (n ∷ ns) =
    omega (arith, length-append (to_le_bytes w32 n) (numbers w32 ns), length_u32s ns)

pub length_rows : (fs : List FileInfo) → length (flat_map row_bytes fs) ≡ length fs * 8
length_rows [] = refl
length_rows (f ∷ fs) = omega (arith, length-append (row_bytes f) (flat_map row_bytes fs), length_rows fs)

pub length_places : (at : ℕ) (es : List GivenEntry) → length (places_from at es) ≡ length es
unfolding places_from
length_places at [] = refl
length_places at (e ∷ es) = ap suc (length_places (data_end at e) es)

pub length_header : (h : Head) → length (header_bytes h) ≡ 48
unfolding header_bytes
length_header h = refl

module _ (g : Given) where
  pub length_table : length (numbers (width_of (size_of g)) (offsets_of g.entries)) ≡ length g.entries * size_of g
  unfolding size_of offsets_of
  length_table =
      length_numbers (size_of g) (offsets_of g.entries) (width_known (offsets_of g.entries))
      ∙ ap (λ n. n * size_of g) (length-map g.entries (λ (e : GivenEntry). e.addr.0 - base_of g.entries))

  pub length_layout : length (layout_of g) ≡ end_from (strings_end g) g.entries
  unfolding layout_of places_of
  length_layout =
      let H : List ℕ = header_bytes (head_of g) in
      let A : List ℕ = numbers (width_of (size_of g)) (offsets_of g.entries) in
      let Z : List ℕ = zeros (offsets_start g - table_end g) in
      let P : List ℕ = numbers w32 (places_from (strings_end g) g.entries) in
      let C : List ℕ = to_le_bytes w32 (length g.tables.files) in
      let R : List ℕ = flat_map row_bytes g.tables.files in
      let S : List ℕ = g.tables.strings in
      let D : List ℕ = data_from (strings_end g) g.entries in
      omega (
        arith,
        length-append (H ++ A ++ Z ++ P ++ C ++ R ++ S) D,
        length-append (H ++ A ++ Z ++ P ++ C ++ R) S,
        length-append (H ++ A ++ Z ++ P ++ C) R,
        length-append (H ++ A ++ Z ++ P) C,
        length-append (H ++ A ++ Z) P,
        length-append (H ++ A) Z,
        length-append H A,
        length_header (head_of g),
        length_table,
        length-replicate {A = ℕ} (offsets_start g - table_end g) 0,
        length_u32s (places_from (strings_end g) g.entries),
        length_places (strings_end g) g.entries,
        length_rows g.tables.files,
        length_all_data (strings_end g) g.entries,
      )
