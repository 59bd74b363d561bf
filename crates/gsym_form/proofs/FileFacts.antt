-- What an opened file of bytes holds fits a text: its numbers are of 32 bits, what is printed in quotes are bytes other
-- than zero, and the text that is printed behind an offset stands there.
-- Assumes nothing.
use Rattle.std.proofs.Common.{◌≡◌, ◌≢◌, ℕ, zero, suc, ◌+◌, ◌-◌, ◌*◌, ◌^◌, ◌<◌, ◌≤◌, Bool, true, false, List, [], ◌∷◌}
use Rattle.std.proofs.Common.{◌++◌, length, take, drop, Option, Some, None, Ok, refl, sym, ap, subst, ◌∙◌, arith}
use Rattle.std.proofs.Common.{append_assoc, drop-cons, drop-drop, leb, eqb, le-leb, length-take-le, length-drop}
use Rattle.std.proofs.Common.{get_or, if◌then◌else◌}
use Rattle.std.specs.Prelude.{nat_le}
use Rattle.std.specs.Int.{w8, w16, w32, w64, from_le_bytes}
use Rattle.std.specs.List.{AllByRecursion, starts_with}
use Rattle.std.specs.Cmp.Lexicographic.{pointwise}
use Rattle.std.proofs.lemmas.Bool.{eq-eqb}
use Rattle.std.proofs.lemmas.List.{take_at, take-append-drop, drop-take, take-take, length-take}
use Rattle.std.proofs.lemmas.List.Elements.{recursion_from_All, All-take, All-drop}
use Rattle.hex.specs.Hex.{IsBytes}
use Rattle.gsym_types.specs.declared.StrOffset.{StrOffset}
use Rattle.gsym_types.specs.declared.Text.{Text}
use Rattle.gsym_types.specs.declared.Refusal.TheVariants.{TooFewBytes}
use Rattle.gsym_reads.specs.Fronts.{u32_front}
use Rattle.gsym_reads.specs.Steps.{given}
use Rattle.gsym_reads.specs.Answers.{u16_at, u32_at}
use Rattle.gsym_reads.proofs.Maybe.{bind_some, need_some}
use Rattle.gsym_reads.proofs.Steps.{bind_ok, need_ok, ok_is}
use Rattle.gsym_strtab.specs.Strings.{part_of, EndsBeforeZero}
use Rattle.gsym_strtab.proofs.Texts.{text_in-is, text-found, text-no-zero, name-is-text, text-within}
use Rattle.gsym_parser.specs.declared.Tables.{Tables}
use Rattle.gsym_parser.specs.View.{View}
use Rattle.gsym_parser.specs.Format.{magic_number, version_number, header_len}
use Rattle.gsym_parser.specs.Numbers.{numbers_of, file_header}
use Rattle.gsym_parser.specs.Header.{file_count_place, files_place, tables_of, opened_of}
use Rattle.gsym_parser.specs.Items.{ItemData, sized_item, item_front, onward, items_within, items_of}
use Rattle.gsym_parser.specs.Entries.{EntryInfo, offset_at, info_in, info_at}
use Rattle.gsym_parser.specs.Search.{entry_number, len_of, entries, entries_of}
use Rattle.gsym_parser.specs.Texts.{text_at, name_at}
use Rattle.gsym_parser.proofs.Inside.{u32_there, u32_taken}
use Rattle.gsym_parser.proofs.Opened.{opened_file}
use Rattle.gsym_resolver.specs.SharedTables.{shared_tables, files_in, file_row}
use Rattle.gsym_form.specs.Words.{most_short, most_long}
use Rattle.gsym_form.specs.Said.{is_string_at}
use Rattle.gsym_form.specs.Again.{AreBytes}
use Rattle.gsym_form.proofs.Quotes.{IsText}
use Rattle.gsym_form.proofs.PrintedLines.{Agrees}
use Rattle.gsym_form.proofs.PrintedParts.{FileFits, ItemFits, InfoFits}

-- ---- bytes and numbers

abbrev IsByte : ℕ → Type 0
IsByte b = b < 256

indexed : (bs : List ℕ) → AllByRecursion IsByte bs → IsBytes bs
indexed [] a zero = omega arith
indexed [] a (suc i) = omega arith
indexed (b ∷ bs) a zero = a.0
indexed (b ∷ bs) a (suc i) = indexed bs a.1 i

pub are_bytes : (bs : List ℕ) → AreBytes bs → IsBytes bs
are_bytes bs a = indexed bs (recursion_from_All IsByte bs a)

small : (bs : List ℕ) → AreBytes bs → from_le_bytes w32 bs ≤ most_short
small bs a =
    let h = are_bytes bs a in omega (arith, h 0, h 1, h 2, h 3)

long : (bs : List ℕ) → AreBytes bs → from_le_bytes w64 bs ≤ most_long
long bs a =
    let h = are_bytes bs a in omega (arith, h 0, h 1, h 2, h 3, h 4, h 5, h 6, h 7)

-- an entry of the address table
entry_long : (size : ℕ) (bs : List ℕ) → AreBytes bs → entry_number size bs ≤ most_long
entry_long size bs a = go (eqb size 1) (eqb size 2) (eqb size 4)
  where
    go : (one two four : Bool) →
        from_le_bytes (if one then w8 else if two then w16 else if four then w32 else w64) bs ≤ most_long
    go true two four = let h = are_bytes bs a in omega (arith, h 0)
    go false true four = let h = are_bytes bs a in omega (arith, h 0, h 1)
    go false false true = let l = small bs a in omega (arith, l)
    go false false false = long bs a

entries_long : (size n : ℕ) (bs : List ℕ) → AreBytes bs → AllByRecursion (λ e. e ≤ most_long) (entries size n bs)
unfolding entries
entries_long size zero bs a = tt
entries_long size (suc n) bs a = (entry_long size bs a, entries_long size n (drop size bs) (All-drop IsByte size bs a))

-- a number of 4 bytes at the front, and the bytes after it
front_fits : (bs : List ℕ) (n : ℕ) (rest : List ℕ) → AreBytes bs → u32_front bs ≡ Some (n, rest) →
    (n ≤ most_short) × AreBytes rest
front_fits bs n rest a e =
    let t = u32_taken bs n rest e in
    let q = u32_there bs t.1 in
    let p : ◌≡◌ {A = ℕ × List ℕ} (n, rest) (from_le_bytes w32 (take 4 bs), drop 4 bs) = cc in
    let k : n ≡ from_le_bytes w32 (take 4 bs) = ap (λ x. x.0) p in
    (rw k (small (take 4 bs) (All-take IsByte 4 bs a)), rw t.0 (All-drop IsByte 4 bs a))

-- ---- items

item_fits : (kind : ℕ) (bytes : List ℕ) (item : ItemData) (rest : List ℕ) → kind ≤ most_short → AreBytes bytes →
    sized_item kind bytes ≡ Some (item, rest) → ItemFits item × AreBytes rest
unfolding sized_item
item_fits kind bytes item rest k a e =
    let n = bind_some (u32_front bytes) _ _ e in
    let f = front_fits bytes n.0.0 n.0.1 a n.1 in
    let m = need_some (leb n.0.0 (length n.0.1)) _ _ n.2 in
    let p : ◌≡◌ {A = ItemData × List ℕ} (record { kind = kind; bytes = take n.0.0 n.0.1 }, drop n.0.0 n.0.1)
    (item, rest) = cc m.1
    in
    subst (λ (x : ItemData × List ℕ). ItemFits x.0 × AreBytes x.1) p (
      record { kind = k; bytes = are_bytes (take n.0.0 n.0.1) (All-take IsByte n.0.0 n.0.1 f.1) },
      All-drop IsByte n.0.0 n.0.1 f.1,
    )

front_item_fits : (bytes : List ℕ) (item : ItemData) (rest : List ℕ) → AreBytes bytes →
    item_front bytes ≡ Some (item, rest) → ItemFits item × AreBytes rest
unfolding item_front
front_item_fits bytes item rest a e =
    let k = bind_some (u32_front bytes) _ _ e in
    let f = front_fits bytes k.0.0 k.0.1 a k.1 in
    go k.0.0 k.0.1 (eqb k.0.0 0) f.0 f.1 k.2
  where
    go : (kind : ℕ) (after : List ℕ) (b : Bool) → kind ≤ most_short → AreBytes after →
        (if b then None else sized_item kind after) ≡ Some (item, rest) → ItemFits item × AreBytes rest
    go kind after true k a e = absurd cc
    go kind after false k a e = item_fits kind after item rest k a e

onward_fits : (go : List ℕ → List ItemData) (r : Option (ItemData × List ℕ)) →
    ((item : ItemData) (rest : List ℕ) → r ≡ Some (item, rest) → ItemFits item × AllByRecursion ItemFits (go rest)) →
    AllByRecursion ItemFits (onward go r)
onward_fits go None h = tt
onward_fits go (Some (item, rest)) h = h item rest refl

within_fits : (k : ℕ) (bytes : List ℕ) → AreBytes bytes → AllByRecursion ItemFits (items_within k bytes)
unfolding items_within
within_fits zero bytes a = tt
within_fits (suc k) bytes a =
    onward_fits (λ rest. items_within k rest) (item_front bytes) (λ item rest e.
    let f = front_item_fits bytes item rest a e in (f.0, within_fits k rest f.1))

items_fit : (bytes : List ℕ) → AreBytes bytes → AllByRecursion ItemFits (items_of bytes)
unfolding items_of
items_fit bytes a = within_fits (suc (length bytes)) bytes a

-- ---- strings

pointwise_self : (xs : List ℕ) → pointwise eqb xs xs ≡ true
pointwise_self [] = refl
pointwise_self (x ∷ xs) = rw (eq-eqb x x refl) (pointwise_self xs)

begins : (xs rest : List ℕ) → starts_with eqb (xs ++ rest) xs ≡ true
begins xs rest = rw (take_at xs rest (length xs) refl) (pointwise_self xs)

ended_there : (bs : List ℕ) (n : ℕ) → EndsBeforeZero bs n → starts_with eqb bs (take n bs ++ 0 ∷ []) ≡ true
ended_there bs n h =
    let z : get_or bs n 0 ≡ 0 = h.zero_after in
    let s : bs ≡ (take n bs ++ 0 ∷ []) ++ drop (suc n) bs =
    sym (take-append-drop n bs)
    ∙ ap (λ (x : List ℕ). take n bs ++ x) (drop-cons bs n 0 h.inside ∙ ap (λ (b : ℕ). b ∷ drop (suc n) bs) z)
    ∙ sym (append_assoc (take n bs) (0 ∷ []) (drop (suc n) bs)) in
    ap (λ (x : List ℕ). starts_with eqb x (take n bs ++ 0 ∷ [])) s
    ∙ begins (take n bs ++ 0 ∷ []) (drop (suc n) bs)

-- a part of a part
part_of_part : (file : List ℕ) (place size k n : ℕ) → k + n ≤ size →
    take n (drop k (take size (drop place file))) ≡ take n (drop (place + k) file)
part_of_part file place size k n l =
    let e : size ≡ k + (size - k) = omega arith in
    ap (λ (m : ℕ). take n (drop k (take m (drop place file)))) e
    ∙ ap (take n) (drop-take k (size - k) (drop place file))
    ∙ take-take n (size - k) (drop k (drop place file)) (omega arith)
    ∙ ap (take n) (drop-drop k place file)

text_of : (bs : List ℕ) → AllByRecursion (λ b. b ≢ 0) bs → AllByRecursion IsByte bs → IsText bs
text_of [] z a = tt
text_of (b ∷ bs) z a =
    let n : b ≢ 0 = z.0 in
    ((omega arith, a.0), text_of bs z.1 a.1)

part_bytes : (file : List ℕ) (place len : ℕ) → AreBytes file → AreBytes (part_of file place len)
unfolding part_of
part_bytes file place len a = go (nat_le (place + len) (length file))
  where
    go : (b : Bool) → AreBytes (if b then take len (drop place file) else [])
    go true = All-take IsByte len (drop place file) (All-drop IsByte place file a)
    go false = λ k d l. absurd (omega arith)

-- ---- the header

-- its numbers are of their bytes: the string table's size of four, the base of eight
record HeaderFits (t : Tables) : Type 0 where
  size : t.strings.size ≤ most_short
  base : t.base.0 ≤ most_long

header_fits : (file : List ℕ) (t : Tables) → AreBytes file → tables_of file (file_header file) ≡ Ok t → HeaderFits t
unfolding tables_of numbers_of
header_fits file t a e =
    let h = file_header file in
    let n = bind_ok (given TooFewBytes (u32_at file (file_count_place h))) _ t e in
    let files = need_ok (leb (files_place h + n.0 * 8) (length file)) _ _ t n.2 in
    let strings = need_ok (leb (h.strings_offset + h.strings_size) (length file)) _ _ t files.1 in
    let b = All-take IsByte 48 file a in
    rw (← ok_is _ _ strings.1) (record {
      size = small (drop 24 (take 48 file)) (All-drop IsByte 24 (take 48 file) b);
      base = long (drop 8 (take 48 file)) (All-drop IsByte 8 (take 48 file) b);
    })

opened_fits : (file : List ℕ) (v : View) → AreBytes file → opened_of file ≡ Ok v → HeaderFits v.tables
unfolding opened_of
opened_fits file v a e =
    let magic = bind_ok (given TooFewBytes (u32_at file 0)) _ v e in
    let m = need_ok (eqb magic.0 magic_number) _ _ v magic.2 in
    let version = bind_ok (given TooFewBytes (u16_at file 4)) _ v m.1 in
    let one = need_ok (eqb version.0 version_number) _ _ v version.2 in
    let there = need_ok (leb header_len (length file)) _ _ v one.1 in
    let tables = bind_ok (tables_of file (file_header file)) _ v there.1 in
    rw (← ok_is (record { file = file; tables = tables.0 }) v tables.2) (header_fits file tables.0 a tables.1)

-- ---- the file

module _ (v : View) (a : AreBytes v.file) where
  abbrev table : List ℕ
  table = take v.tables.strings.size (drop v.tables.strings.place v.file)

  abbrev strings : List ℕ
  strings = (shared_tables v).strings

  pub strings_bytes : AllByRecursion IsByte strings
  unfolding shared_tables
  strings_bytes =
      recursion_from_All IsByte table
      (All-take IsByte v.tables.strings.size (drop v.tables.strings.place v.file)
      (All-drop IsByte v.tables.strings.place v.file a))

  -- ---- what stands at an offset

  module _ (offset : StrOffset) where
    found : (t : Text) → text_at v offset ≡ Some t → Agrees strings v.file offset (Some t)
    unfolding is_string_at shared_tables part_of
    found t e =
        let f = text-found v.file v.tables.strings offset t e in
        let i = text_in-is table offset.0 t.len f.spans in
        let w : t.place + t.len ≤ length v.file = omega (arith, text-within v.file v.tables.strings offset t e) in
        let s : length table ≡ v.tables.strings.size =
        length-take-le v.tables.strings.size (drop v.tables.strings.place v.file)
        (omega (arith, f.fits, length-drop v.tables.strings.place v.file)) in
        let p : part_of v.file t.place t.len ≡ take t.len (drop offset.0 table) =
        rw (le-leb _ _ w, f.counted)
        (sym (part_of_part v.file v.tables.strings.place v.tables.strings.size offset.0 t.len (omega (arith, i.0, s))))
        in (
          text_of (part_of v.file t.place t.len)
              (recursion_from_All (λ b. b ≢ 0) _ (text-no-zero v.file v.tables.strings offset t e))
              (recursion_from_All IsByte _ (part_bytes v.file t.place t.len a)),
          ap (λ (x : List ℕ). starts_with eqb (drop offset.0 table) (x ++ 0 ∷ [])) p
              ∙ ended_there (drop offset.0 table) t.len i.1,
        )

    text_agrees : (o : Option Text) → text_at v offset ≡ o → Agrees strings v.file offset o
    text_agrees None e = tt
    text_agrees (Some t) e = found t e

    name_agrees : (o : Option Text) → name_at v offset ≡ o → Agrees strings v.file offset o
    name_agrees None e = tt
    name_agrees (Some t) e = found t (name-is-text v.file v.tables.strings offset t e)

  -- ---- files

  row_fits : (bytes : List ℕ) → AreBytes bytes → FileFits strings v (file_row bytes)
  row_fits bytes b =
      let f = file_row bytes in
      record {
        directory = small (take 4 bytes) (All-take IsByte 4 bytes b);
        filename = small (take 4 (drop 4 bytes)) (All-take IsByte 4 (drop 4 bytes) (All-drop IsByte 4 bytes b));
        directory_text = text_agrees f.directory (text_at v f.directory) refl;
        filename_text = text_agrees f.filename (text_at v f.filename) refl;
      }

  rows_fit : (n : ℕ) (bytes : List ℕ) → AreBytes bytes → AllByRecursion (FileFits strings v) (files_in n bytes)
  unfolding files_in
  rows_fit zero bytes b = tt
  rows_fit (suc n) bytes b = (row_fits bytes b, rows_fit n (drop 8 bytes) (All-drop IsByte 8 bytes b))

  pub files_fit : AllByRecursion (FileFits strings v) (shared_tables v).files
  unfolding shared_tables
  files_fit = rows_fit v.tables.file_count (drop v.tables.files v.file) (All-drop IsByte v.tables.files v.file a)

  -- ---- entries

  in_fits : (place : ℕ) (info : EntryInfo) → info_in v.file place ≡ Some info → InfoFits strings v info
  unfolding info_in
  in_fits place info e =
      let size = bind_some (u32_front (drop place v.file)) _ info e in
      let f = front_fits (drop place v.file) size.0.0 size.0.1 (All-drop IsByte place v.file a) size.1 in
      let name = bind_some (u32_front size.0.1) _ info size.2 in
      let g = front_fits size.0.1 name.0.0 name.0.1 f.1 name.1 in
      let p : ◌≡◌ {A = EntryInfo} (record { size = size.0.0; name = name.0.0; bytes = name.0.1 }) info = cc name.2 in
      subst (InfoFits strings v) p (record {
        size = f.0;
        name = g.0;
        items = items_fit name.0.1 g.1;
        name_text = name_agrees (record { 0 = name.0.0 }) (name_at v (record { 0 = name.0.0 })) refl;
      })

  pub info_fits : (i : ℕ) (info : EntryInfo) → info_at v i ≡ Some info → InfoFits strings v info
  unfolding info_at
  info_fits i info e =
      let p = bind_some (offset_at v i) _ info e in in_fits p.0 info p.2

module _ (file : List ℕ) (v : View) (a : AreBytes file) (e : opened_of file ≡ Ok v) where
  pub view_bytes : AreBytes v.file
  view_bytes = rw (opened_file file v e) a

  pub strings_small : length (shared_tables v).strings ≤ most_short
  unfolding shared_tables
  strings_small =
      omega (
        arith,
        (opened_fits file v a e).size,
        length-take v.tables.strings.size (drop v.tables.strings.place v.file),
      )

  -- an address that isn't of 64 bits is at most one bit longer
  added : (base : ℕ) (table : List ℕ) → base ≤ most_long → AllByRecursion (λ e. e ≤ most_long) table →
      AllByRecursion (λ e. base + e < 2 ^ 65) table
  added base [] l h = tt
  added base (x ∷ table) l h =
      let k : x ≤ most_long = h.0 in (omega (arith, l, k), added base table l h.1)

  pub addresses_fit : AllByRecursion (λ e. v.tables.base.0 + e < 2 ^ 65) (entries_of v)
  unfolding entries_of
  addresses_fit =
      added v.tables.base.0 _ (opened_fits file v a e).base
      (entries_long v.tables.offset_size (len_of v.tables.offset_size v.tables.count) (drop v.tables.addrs v.file)
      (All-drop IsByte v.tables.addrs v.file view_bytes))
