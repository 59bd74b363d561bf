-- No newline is in a printed line, so a printed text is parted into its lines by its newlines.
-- Assumes nothing.
use Rattle.std.proofs.Common.{◌≡◌, ◌≢◌, ℕ, zero, suc, ◌+◌, ◌/◌, ◌%◌, ◌^◌, ◌<◌, ◌≤◌, Bool, true, false, not, ◌&&◌, ◌==◌}
use Rattle.std.proofs.Common.{◌⊎◌, inl, inr, List, [], ◌∷◌, ◌++◌, map, Option, Some, None, refl, sym, ap, ◌∙◌, arith}
use Rattle.std.proofs.Common.{append_assoc, slice_index, ne_eqb, if◌then◌else◌}
use Rattle.std.specs.Prelude.{decimal, codes, nat_le}
use Rattle.std.specs.Fmt.{digits}
use Rattle.std.specs.List.{flat_map, slice_split, AllByRecursion}
use Rattle.std.proofs.lemmas.Bool.{cases_eq, cases_lt, and_parts}
use Rattle.std.proofs.lemmas.Bool.Decides.{nat_tests}
use Rattle.hex.specs.Hex.{hex_digit_value, lower_digits, encode_lower, encode_with, IsBytes}
use Rattle.hex.proofs.HexLemmas.{IsDigits-lower_digits}
use Rattle.gsym_types.specs.declared.StrOffset.{StrOffset}
use Rattle.gsym_types.specs.declared.Text.{Text}
use Rattle.gsym_strtab.specs.Strings.{part_of}
use Rattle.gsym_parser.specs.declared.entries.FileInfo.{FileInfo}
use Rattle.gsym_parser.specs.View.{View}
use Rattle.gsym_parser.specs.Items.{ItemData, items_of, closed_of}
use Rattle.gsym_parser.specs.Entries.{EntryInfo, info_at}
use Rattle.gsym_parser.specs.Texts.{text_at, name_at}
use Rattle.gsym_form.specs.Words.{most_short}
use Rattle.gsym_form.specs.Printed.{text_byte, quoted, hexadecimal, text_behind, string_shown, part_lines, table_lines}
use Rattle.gsym_form.specs.Printed.{bytes_behind, open_line, info_lines, entry_lines_from}
use Rattle.gsym_output.specs.Lines.{ended}
use Rattle.gsym_form.specs.Printed as printed
use Rattle.gsym_form.specs.Said.{is_newline}
use Rattle.gsym_form.proofs.Numerals.{Digits, prints_decimal, prints_hexadecimal}
use Rattle.gsym_form.proofs.Quotes.{IsText}
use Rattle.gsym_form.proofs.PrintedLines.{Agrees}
use Rattle.gsym_form.proofs.PrintedParts.{AllTexts, is_zero, split_texts, FileFits, ItemFits, InfoFits}

abbrev pub is_clean : List ℕ → Bool
is_clean [] = true
is_clean (b ∷ bs) = not (b == 10) && is_clean bs

abbrev Clean : List ℕ → Type 0
Clean line = is_clean line ≡ true

clean_append : (a b : List ℕ) → Clean a → Clean b → Clean (a ++ b)
clean_append [] b h g = g
clean_append (x ∷ a) b h g =
    let p = and_parts (not (x == 10)) (is_clean a) h in rw (p.0) (clean_append a b p.1 g)

-- ---- words

clean_digits : (base : ℕ) (ds : List ℕ) → Digits base ds → Clean ds
clean_digits base [] d = refl
clean_digits base (b ∷ bs) d =
    let l : 32 < b = d.0.shown in
    let n : b ≢ 10 = omega arith in
    rw (ne_eqb b 10 n) (clean_digits base bs d.1)

clean_decimal : (n : ℕ) → n ≤ most_short → Clean (decimal n)
clean_decimal n l = clean_digits 10 (decimal n) (prints_decimal n (omega arith)).all

clean_hexadecimal : (n : ℕ) → n < 2 ^ 65 → Clean (hexadecimal n)
clean_hexadecimal n l = clean_digits 16 (digits 16 false n) (prints_hexadecimal n l).all

digit_clean : (c v : ℕ) → hex_digit_value c ≡ Some v → (c == 10) ≡ false
digit_clean c v h = grind (arith, nat_tests)

clean_hex : (bs : List ℕ) → IsBytes bs → Clean (encode_lower bs)
unfolding encode_with
clean_hex [] h = refl
clean_hex (b ∷ bs) h =
    let l : b < 256 = h 0 in
    let hi = IsDigits-lower_digits (b / 16) (omega arith) in
    let lo = IsDigits-lower_digits (b % 16) (omega arith) in
    rw (
      digit_clean (slice_index lower_digits (b / 16)) (b / 16) hi,
      digit_clean (slice_index lower_digits (b % 16)) (b % 16) lo,
    )
    (clean_hex bs (λ i. h (suc i)))

single : (b : ℕ) → b < 256 → IsBytes (b ∷ [])
single b l zero = l
single b l (suc i) = omega arith

byte_numbered : (b : ℕ) → b ≢ 34 → b ≢ 92 → b < 256 → (nat_le 32 b && nat_le b 126) ≡ false → Clean (text_byte b)
byte_numbered b n m l e =
    rw (ne_eqb b 34 n, ne_eqb b 92 m, e) (clean_hex (b ∷ []) (single b l))

byte_shown : (b : ℕ) → b ≢ 34 → b ≢ 92 → 32 ≤ b → b ≤ 126 → Clean (text_byte b)
byte_shown b n m l k =
    let e : (nat_le 32 b && nat_le b 126) ≡ true = grind (arith, nat_tests) in
    let t : b ≢ 10 = omega arith in
    rw (ne_eqb b 34 n, ne_eqb b 92 m, e, ne_eqb b 10 t) refl

byte_other : (b : ℕ) → b ≢ 34 → b ≢ 92 → b < 256 → (b < 32) ⊎ (32 ≤ b) → (126 < b) ⊎ (b ≤ 126) → Clean (text_byte b)
byte_other b n m l (inl u) w = byte_numbered b n m l (grind (arith, nat_tests))
byte_other b n m l (inr u) (inl w) = byte_numbered b n m l (grind (arith, nat_tests))
byte_other b n m l (inr u) (inr w) = byte_shown b n m u w

clean_byte : (b : ℕ) → b < 256 → Clean (text_byte b)
clean_byte b l =
    elim (cases_eq b 34) [
      | inl e ↦ rw e refl
      | inr n ↦
          elim (cases_eq b 92) [
            | inl e ↦ rw e refl
            | inr m ↦ byte_other b n m l (cases_lt b 32) (cases_lt 126 b)
          ]
    ]

clean_text : (bs : List ℕ) → IsText bs → Clean (flat_map text_byte bs)
clean_text [] t = refl
clean_text (b ∷ bs) t =
    clean_append (text_byte b) (flat_map text_byte bs) (clean_byte b t.0.1) (clean_text bs t.1)

clean_quoted : (bs : List ℕ) → IsText bs → Clean (quoted bs)
clean_quoted bs t = clean_append (flat_map text_byte bs) (34 ∷ []) (clean_text bs t) refl

clean_behind : (s file : List ℕ) (offset : StrOffset) (t : Option Text) → Agrees s file offset t →
    Clean (text_behind file t)
clean_behind s file offset None g = refl
clean_behind s file offset (Some t) g = clean_quoted (part_of file t.place t.len) g.0

clean_shown : (s file : List ℕ) (offset : StrOffset) (t : Option Text) → offset.0 ≤ most_short →
    Agrees s file offset t → Clean (string_shown file offset t)
clean_shown s file offset t l g =
    clean_append (decimal offset.0) (text_behind file t) (clean_decimal offset.0 l) (clean_behind s file offset t g)

-- ---- lines

abbrev pub AllClean : List (List ℕ) → Type 0
AllClean [] = Unit {0}
AllClean (line ∷ lines) = Clean line × AllClean lines

pub all_clean : (a b : List (List ℕ)) → AllClean a → AllClean b → AllClean (a ++ b)
all_clean [] b h g = g
all_clean (line ∷ a) b h g = (h.0, all_clean a b h.1 g)

clean_parts : (parts : List (List ℕ)) → AllTexts parts → AllClean (part_lines parts)
unfolding part_lines
clean_parts [] t = tt
clean_parts ([] ∷ []) t = tt
clean_parts ((b ∷ bs) ∷ []) t = (clean_quoted (b ∷ bs) t.0, tt)
clean_parts ([] ∷ next ∷ parts) t = (clean_quoted [] t.0, clean_parts (next ∷ parts) t.1)
clean_parts ((b ∷ bs) ∷ next ∷ parts) t = (clean_quoted (b ∷ bs) t.0, clean_parts (next ∷ parts) t.1)

pub clean_table : (table : List ℕ) → AllByRecursion (λ b. b < 256) table → AllClean (table_lines table)
unfolding table_lines
clean_table [] a = (refl, tt)
clean_table (b ∷ bs) a = clean_parts (slice_split is_zero (b ∷ bs)) (split_texts (b ∷ bs) a)

pub clean_files : (s : List ℕ) (v : View) (rows : List FileInfo) → AllByRecursion (FileFits s v) rows →
    AllClean (map (printed.file_line v) rows)
clean_files s v [] a = tt
clean_files s v (f ∷ rows) a = (
  clean_append (string_shown v.file f.directory (text_at v f.directory))
      (string_shown v.file f.filename (text_at v f.filename))
      (clean_shown s v.file f.directory (text_at v f.directory) a.0.directory a.0.directory_text)
      (clean_shown s v.file f.filename (text_at v f.filename) a.0.filename a.0.filename_text),
  clean_files s v rows a.1,
)

clean_bytes : (bs : List ℕ) → IsBytes bs → Clean (bytes_behind bs)
clean_bytes [] h = refl
clean_bytes (b ∷ bs) h = clean_hex (b ∷ bs) h

clean_items : (items : List ItemData) → AllByRecursion ItemFits items → AllClean (map printed.item_line items)
clean_items [] a = tt
clean_items (item ∷ items) a = (
  clean_append (decimal item.kind) (bytes_behind item.bytes) (clean_decimal item.kind a.0.kind)
      (clean_bytes item.bytes a.0.bytes),
  clean_items items a.1,
)

clean_open : (b : Bool) → AllClean (if b then [] else codes "  # the list doesn't end in type 0" ∷ [])
clean_open true = tt
clean_open false = (refl, tt)

module _ (s : List ℕ) (v : View) where
  clean_entry : (addr : ℕ) (info : EntryInfo) → addr < 2 ^ 65 → InfoFits s v info →
      Clean (printed.entry_line v addr info)
  clean_entry addr info l h =
      let name : StrOffset = record { 0 = info.name } in
      let start = hexadecimal addr ++ codes " " in
      clean_append (start ++ decimal info.size) (string_shown v.file name (name_at v name))
      (clean_append start (decimal info.size)
      (clean_append (hexadecimal addr) (codes " ") (clean_hexadecimal addr l) refl)
      (clean_decimal info.size h.size))
      (clean_shown s v.file name (name_at v name) h.name h.name_text)

  clean_info : (addr : ℕ) (o : Option EntryInfo) → addr < 2 ^ 65 →
      ((info : EntryInfo) → o ≡ Some info → InfoFits s v info) → AllClean (info_lines v addr o)
  clean_info addr None l h = (clean_append (hexadecimal addr) (codes " ?5") (clean_hexadecimal addr l) refl, tt)
  clean_info addr (Some info) l h =
      let f = h info refl in (
        clean_entry addr info l f,
        all_clean (map printed.item_line (items_of info.bytes)) (open_line info.bytes)
            (clean_items (items_of info.bytes) f.items) (clean_open (closed_of info.bytes)),
      )

  module _ (h : (i : ℕ) (info : EntryInfo) → info_at v i ≡ Some info → InfoFits s v info) where
    pub clean_entries : (i : ℕ) (table : List ℕ) → AllByRecursion (λ e. v.tables.base.0 + e < 2 ^ 65) table →
        AllClean (entry_lines_from v i table)
    unfolding entry_lines_from
    clean_entries i [] a = tt
    clean_entries i (e ∷ table) a =
        all_clean (info_lines v (v.tables.base.0 + e) (info_at v i)) (entry_lines_from v (i + 1) table)
        (clean_info (v.tables.base.0 + e) (info_at v i) a.0 (h i)) (clean_entries (i + 1) table a.1)

-- ---- parted by newlines

split_line : (line rest : List ℕ) → Clean line →
    slice_split is_newline (line ++ 10 ∷ rest) ≡ line ∷ slice_split is_newline rest
split_line [] rest h = refl
split_line (b ∷ bs) rest h =
    let p = and_parts (not (b == 10)) (is_clean bs) h in
    let n = not_true (b == 10) p.0 in
    rw (n, split_line bs rest p.1) refl
  where
    not_true : (x : Bool) → not x ≡ true → x ≡ false
    not_true true e = sym e
    not_true false e = refl

pub split_lines : (lines : List (List ℕ)) → AllClean lines →
    slice_split is_newline (flat_map ended lines) ≡ lines ++ [] ∷ []
split_lines [] a = refl
split_lines (line ∷ lines) a =
    ap (slice_split is_newline) (append_assoc line (10 ∷ []) (flat_map ended lines))
    ∙ split_line line (flat_map ended lines) a.0
    ∙ ap (λ (x : List (List ℕ)). line ∷ x) (split_lines lines a.1)
