-- The lines of a file's text, one more, and past the last.
-- Assumes nothing.
use Rattle.std.proofs.Common.{◌≡◌, ℕ, zero, suc, ◌+◌, ◌≤◌, ◌==◌, false, List, [], ◌∷◌, ◌++◌, length, map, drop, codes}
use Rattle.std.proofs.Common.{Option, Some, refl, sym, ap, ◌∙◌, arith, drop-cons, add-one, drop_of_length-le, le-leb}
use Rattle.std.proofs.Common.{count_by}
use Rattle.std.proofs.lemmas.Grind.{flat_map-append}
use Rattle.std.specs.List.{slice_split, slice_get}
use Rattle.std.proofs.lemmas.List.Splits.{length-slice_split}
use Rattle.std.proofs.lemmas.Option.{slice_get_within, get_or_from_slice_get}
use Rattle.gsym_output.specs.Lines.{ended, text_of}
use Rattle.gsym_strtab.specs.Strings.{part_of}
use Rattle.gsym_parser.specs.declared.entries.FileInfo.{FileInfo}
use Rattle.gsym_parser.specs.View.{View}
use Rattle.gsym_parser.specs.Within.{Within}
use Rattle.gsym_parser.specs.Items.{ItemData, closed_of}
use Rattle.gsym_parser.specs.Entries.{EntryInfo, info_at, file_at}
use Rattle.gsym_parser.specs.Search.{entries_of}
use Rattle.gsym_parser.proofs.Table.{length-table, len-le}
use Rattle.gsym_resolver.specs.SharedTables.{shared_tables, files_in}
use Rattle.gsym_resolver.proofs.Shared.{file_in_tables}
use Rattle.gsym_form.specs.Printed.{string_line, part_lines, table_lines, file_line, item_line, item_lines, open_line}
use Rattle.gsym_form.specs.Printed.{entry_line, info_lines, entry_lines_from, entry_lines, dump_of}

text_both : (xs ys : List (List ℕ)) → text_of (xs ++ ys) ≡ text_of xs ++ text_of ys
text_both xs ys = flat_map-append ended xs ys

-- what is left of a list from an index on
pub drop_there : {X : Type 0} (xs : List X) (i : ℕ) (x : X) → slice_get xs i ≡ Some x → drop i xs ≡ x ∷ drop (i + 1) xs
drop_there xs i x e =
    drop-cons xs i x (slice_get_within xs i x e) ∙ ap (λ y. y ∷ drop (suc i) xs) (get_or_from_slice_get xs i x x e)
    ∙ ap (λ k. x ∷ drop k xs) (sym (add-one i))

-- ---- the string table

part_two : (text part : List ℕ) (parts : List (List ℕ))
    → text_of (part_lines (text ∷ part ∷ parts)) ≡ ended (string_line text) ++ text_of (part_lines (part ∷ parts))
unfolding part_lines
part_two [] part parts = refl
part_two (b ∷ bs) part parts = refl

part_more : (text bytes : List ℕ)
    → text_of (part_lines (text ∷ slice_split (λ c. c == 0) bytes))
    ≡ ended (string_line text) ++ text_of (part_lines (slice_split (λ c. c == 0) bytes))
part_more text bytes = by (slice_split (λ c. c == 0) bytes) (length-slice_split (λ c. c == 0) bytes)
  where
    by : (parts : List (List ℕ)) → length parts ≡ count_by (λ c. c == 0) bytes + 1
        → text_of (part_lines (text ∷ parts)) ≡ ended (string_line text) ++ text_of (part_lines parts)
    by [] e = absurd (omega (arith, e))
    by (part ∷ parts) e = part_two text part parts

pub part_step : (rest text behind : List ℕ)
    → slice_split (λ c. c == 0) rest ≡ text ∷ slice_split (λ c. c == 0) behind
    → text_of (part_lines (slice_split (λ c. c == 0) rest))
    ≡ ended (string_line text) ++ text_of (part_lines (slice_split (λ c. c == 0) behind))
part_step rest text behind e = ap (λ parts. text_of (part_lines parts)) e ∙ part_more text behind

files_count : (n : ℕ) (bytes : List ℕ) → length (files_in n bytes) ≡ n
unfolding files_in
files_count zero bytes = refl
files_count (suc n) bytes = ap suc (files_count n (drop 8 bytes))

module _ (v : View) (w : Within v.file v.tables) where
  pub strings_part : part_of v.file v.tables.strings.place v.tables.strings.size ≡ (shared_tables v).strings
  unfolding part_of shared_tables
  strings_part = rw (le-leb (v.tables.strings.place + v.tables.strings.size) (length v.file) w.strings_end) refl

  -- ---- files

  pub files_step : (i : ℕ) (file : FileInfo) → file_at v (record { 0 = i }) ≡ Some file
      → text_of (map (file_line v) (drop i (shared_tables v).files))
      ≡ ended (file_line v file) ++ text_of (map (file_line v) (drop (i + 1) (shared_tables v).files))
  files_step i file e =
      ap (λ left. text_of (map (file_line v) left))
      (drop_there (shared_tables v).files i file (sym (file_in_tables v w (record { 0 = i })) ∙ e))

pub files_end : (v : View) (i : ℕ) → v.tables.file_count ≤ i
    → text_of (map (file_line v) (drop i (shared_tables v).files)) ≡ []
unfolding shared_tables
files_end v i l =
    ap (λ left. text_of (map (file_line v) left))
    (drop_of_length-le (shared_tables v).files
    (omega (arith, l, files_count v.tables.file_count (drop v.tables.files v.file))))

-- ---- items

pub items_more : (bytes : List ℕ) (left rest : List ItemData) (item : ItemData) → left ≡ item ∷ rest
    → text_of (map item_line left ++ open_line bytes)
    ≡ ended (item_line item) ++ text_of (map item_line rest ++ open_line bytes)
items_more bytes left rest item e = ap (λ items. text_of (map item_line items ++ open_line bytes)) e

pub items_open : (bytes : List ℕ) (left : List ItemData) → left ≡ [] → closed_of bytes ≡ false
    → text_of (map item_line left ++ open_line bytes) ≡ codes "  # the list doesn't end in type 0\n"
items_open bytes left e h = rw (e, h) refl

-- ---- entries

pub info_text : (v : View) (addr : ℕ) (read : Option EntryInfo) (info : EntryInfo) → Some info ≡ read
    → text_of (info_lines v addr read) ≡ ended (entry_line v addr info) ++ text_of (item_lines info.bytes)
info_text v addr read info e = sym (ap (λ r. text_of (info_lines v addr r)) e)

module _ (v : View) (i : ℕ) where
  pub entries_step : (e : ℕ) → slice_get (entries_of v) i ≡ Some e
      → text_of (entry_lines_from v i (drop i (entries_of v)))
      ≡ text_of (info_lines v (v.tables.base.0 + e) (info_at v i))
      ++ text_of (entry_lines_from v (i + 1) (drop (i + 1) (entries_of v)))
  unfolding entry_lines_from
  entries_step e p =
      ap (λ es. text_of (entry_lines_from v i es)) (drop_there (entries_of v) i e p)
      ∙ text_both (info_lines v (v.tables.base.0 + e) (info_at v i))
      (entry_lines_from v (i + 1) (drop (i + 1) (entries_of v)))

  pub entries_past : length (entries_of v) ≤ i → text_of (entry_lines_from v i (drop i (entries_of v))) ≡ []
  unfolding entry_lines_from
  entries_past l = ap (λ es. text_of (entry_lines_from v i es)) (drop_of_length-le (entries_of v) l)

  pub entries_end : v.tables.count ≤ i → text_of (entry_lines_from v i (drop i (entries_of v))) ≡ []
  entries_end l = entries_past (omega (arith, length-table v, len-le v.tables.offset_size v.tables.count))

-- ---- all lines

pub dump_text : (v : View)
    → dump_of v
    ≡ (((codes "gsym 1\n" ++ text_of (table_lines (shared_tables v).strings))
    ++ text_of (map (file_line v) (shared_tables v).files))
    ++ text_of (entry_lines v))
    ++ codes "end\n"
dump_text v =
    let strings = table_lines (shared_tables v).strings in
    let files = map (file_line v) (shared_tables v).files in
    ap (λ t. codes "gsym 1\n" ++ t)
    (text_both ((strings ++ files) ++ entry_lines v) (codes "end" ∷ [])
    ∙ ap (λ t. t ++ codes "end\n")
    (text_both (strings ++ files) (entry_lines v) ∙ ap (λ t. t ++ text_of (entry_lines v)) (text_both strings files)))
