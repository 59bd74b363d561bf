-- The lines of each part of a file are read one after another: the string table, the files, and the entries with their
-- items.
-- Assumes nothing.
use Rattle.std.proofs.Common.{◌≡◌, ℕ, ◌+◌, ◌^◌, ◌<◌, ◌≤◌, Bool, true, false, ◌==◌, inl, inr, List, [], ◌∷◌, ◌++◌}
use Rattle.std.proofs.Common.{length, map, Option, Some, None, Ok, Err, ⊎_elim, refl, sym, ap, subst, ◌∙◌, arith}
use Rattle.std.proofs.Common.{append_assoc, length-append, if◌then◌else◌, eq-eqb, ne_eqb}
use Rattle.std.specs.Prelude.{codes, is_some}
use Rattle.std.specs.List.{slice_split, onto_first, join_with_byte, AllByRecursion}
use Rattle.std.proofs.lemmas.Bool.{cases_eq, cases_lt, and_parts}
use Rattle.std.proofs.lemmas.List.{append-nil}
use Rattle.std.proofs.lemmas.List.Splits.{join_with_byte-slice_split, length-slice_split, slice_split-cons_yes}
use Rattle.std.proofs.lemmas.List.Splits.{slice_split-cons_no}
use Rattle.hex.specs.Hex.{IsBytes}
use Rattle.gsym_parser.specs.declared.entries.FileInfo.{FileInfo}
use Rattle.gsym_parser.specs.View.{View}
use Rattle.gsym_parser.specs.Items.{ItemData, items_of, closed_of}
use Rattle.gsym_parser.specs.Entries.{EntryInfo, info_at}
use Rattle.gsym_parser.specs.Texts.{text_at, name_at}
use Rattle.gsym_form.specs.declared.wrong.Wrong.{Wrong}
use Rattle.gsym_form.specs.declared.wrong.Wrong.TheVariants.{Number}
use Rattle.gsym_form.specs.Words.{most_short, most_long}
use Rattle.gsym_form.specs.Printed.{part_lines, table_lines, open_line, item_lines, info_lines, entry_lines_from}
use Rattle.gsym_form.specs.Printed.{all_read_from}
use Rattle.gsym_form.specs.Printed as printed
use Rattle.gsym_form.specs.Said.{SaidItem, SaidEntry, within, Reading, with_text, line_said, lines_said}
use Rattle.gsym_form.specs.Parsed.{item_of, entry_of}
use Rattle.gsym_form.specs.Again.{SaysEntry, SaysEntries}
use Rattle.gsym_form.proofs.Quotes.{IsText}
use Rattle.gsym_form.proofs.PrintedLines.{reading, string_said, bytes_said, Agrees, file_said, entry_said, item_said}
use Rattle.gsym_form.proofs.PrintedLines.{comment_said, entry_wrong, unread_wrong}

pub step_said : (n : ℕ) (r after : Reading) (line : List ℕ) (more : List (List ℕ)) → line_said n r line ≡ Ok after →
    lines_said n r (line ∷ more) ≡ lines_said (n + 1) after more
unfolding lines_said
step_said n r after line more h = rw h refl

wrong_said : (n : ℕ) (r after : Reading) (line : List ℕ) (more : List (List ℕ)) (w : Wrong) →
    line_said n r line ≡ Err w → lines_said n r (line ∷ more) ≡ Ok after → ⊥
unfolding lines_said
wrong_said n r after line more w h q =
    let e : lines_said n r (line ∷ more) ≡ Err (n, w) = rw h refl in cc

-- ---- the string table

abbrev pub AllTexts : List (List ℕ) → Type 0
AllTexts [] = Unit {0}
AllTexts (part ∷ parts) = IsText part × AllTexts parts

-- whether a line of strings was read, once the lines of these parts are
abbrev pub started : Bool → List (List ℕ) → Bool
started hs [] = hs
started hs ([] ∷ []) = hs
started hs ((b ∷ bs) ∷ []) = true
started hs (part ∷ next ∷ parts) = true

started_true : (parts : List (List ℕ)) → started true parts ≡ true
started_true [] = refl
started_true ([] ∷ []) = refl
started_true ((b ∷ bs) ∷ []) = refl
started_true ([] ∷ next ∷ parts) = refl
started_true ((b ∷ bs) ∷ next ∷ parts) = refl

started_more : (hs : Bool) (part next : List ℕ) (parts : List (List ℕ)) → started hs (part ∷ next ∷ parts) ≡ true
started_more hs [] next parts = refl
started_more hs (b ∷ bs) next parts = refl

lines_more : (part next : List ℕ) (parts : List (List ℕ)) →
    part_lines (part ∷ next ∷ parts) ≡ printed.string_line part ∷ part_lines (next ∷ parts)
unfolding part_lines
lines_more [] next parts = refl
lines_more (b ∷ bs) next parts = refl

record PartsRead (more : List (List ℕ)) (n : ℕ) (s : List ℕ) (ts : List ℕ → Option ℕ) (hs : Bool)
    (parts : List (List ℕ)) : Type 0 where
  line : ℕ
  texts : List ℕ → Option ℕ
  is : lines_said n (reading s [] [] [] ts within hs false) (part_lines parts ++ more)
      ≡ lines_said line (reading (s ++ join_with_byte 0 parts) [] [] [] texts within (started hs parts) false) more

joined_more : (s part : List ℕ) (rest : List ℕ) → (s ++ (part ++ 0 ∷ [])) ++ rest ≡ s ++ (part ++ 0 ∷ rest)
joined_more s part rest =
    append_assoc s (part ++ 0 ∷ []) rest ∙ ap (λ (d : List ℕ). s ++ d) (append_assoc part (0 ∷ []) rest)

module _ (more : List (List ℕ)) where
  parts_read : (n : ℕ) (s : List ℕ) (ts : List ℕ → Option ℕ) (hs : Bool) (parts : List (List ℕ)) → AllTexts parts →
      length (s ++ join_with_byte 0 parts) ≤ most_short → PartsRead more n s ts hs parts
  unfolding part_lines
  parts_read n s ts hs [] t l =
      record {
        line = n;
        texts = ts;
        is = ap (λ (x : List ℕ). lines_said n (reading x [] [] [] ts within hs false) more) (sym (append-nil s));
      }
  parts_read n s ts hs ([] ∷ []) t l =
      record {
        line = n;
        texts = ts;
        is = ap (λ (x : List ℕ). lines_said n (reading x [] [] [] ts within hs false) more) (sym (append-nil s));
      }
  parts_read n s ts hs ((b ∷ bs) ∷ []) t l =
      record {
        line = n + 1;
        texts = ts;
        is = step_said n _ _ (printed.bytes_line (b ∷ bs)) more (bytes_said n s ts hs (b ∷ bs) t.0);
      }
  parts_read n s ts hs (part ∷ next ∷ parts) t l =
      let j : List ℕ = join_with_byte 0 (next ∷ parts) in
      let e = joined_more s part j in
      let k : length s ≤ most_short = omega (arith, length-append s (part ++ 0 ∷ j), l) in
      let m : length ((s ++ (part ++ 0 ∷ [])) ++ j) ≤ most_short = rw e l in
      let ih = parts_read (n + 1) (s ++ (part ++ 0 ∷ [])) (with_text ts part (length s)) true (next ∷ parts) t.1 m in
      record {
        line = ih.line;
        texts = ih.texts;
        is =
            ap (λ (ls : List (List ℕ)). lines_said n (reading s [] [] [] ts within hs false) (ls ++ more))
            (lines_more part next parts)
            ∙ step_said n _ _ (printed.string_line part) (part_lines (next ∷ parts) ++ more)
            (string_said n s ts hs part t.0 k)
            ∙ ih.is
            ∙ ap (λ (x : List ℕ). lines_said ih.line
            (reading x [] [] [] ih.texts within (started true (next ∷ parts)) false) more) e
            ∙ ap (λ (x : Bool). lines_said ih.line
            (reading (s ++ (part ++ 0 ∷ j)) [] [] [] ih.texts within x false) more)
            (started_true (next ∷ parts) ∙ sym (started_more hs part next parts));
      }

onto_texts : (b : ℕ) (parts : List (List ℕ)) → 0 < b → b < 256 → AllTexts parts → AllTexts (onto_first b parts)
onto_texts b [] p l t = (((p, l), tt), tt)
onto_texts b (part ∷ parts) p l t = (((p, l), t.0), t.1)

abbrev pub is_zero : ℕ → Bool
is_zero c = c == 0

pub split_texts : (bs : List ℕ) → AllByRecursion (λ b. b < 256) bs → AllTexts (slice_split is_zero bs)
split_texts [] a = (tt, tt)
split_texts (b ∷ bs) a =
    elim (cases_eq b 0) [
      | inl e ↦
          subst AllTexts (sym (slice_split-cons_yes is_zero b bs (eq-eqb b 0 e))) (tt, split_texts bs a.1)
      | inr n ↦
          subst AllTexts (sym (slice_split-cons_no is_zero b bs (ne_eqb b 0 n)))
          (onto_texts b (slice_split is_zero bs) (omega arith) a.0 (split_texts bs a.1))
    ]

started_there : (part : List ℕ) (parts : List (List ℕ)) → 0 < length parts → started false (part ∷ parts) ≡ true
started_there part [] l = absurd (omega arith)
started_there part (next ∷ parts) l = started_more false part next parts

started_onto : (b : ℕ) (parts : List (List ℕ)) → started false (onto_first b parts) ≡ true
started_onto b [] = refl
started_onto b (part ∷ []) = refl
started_onto b (part ∷ next ∷ parts) = refl

started_split : (b : ℕ) (bs : List ℕ) → started false (slice_split is_zero (b ∷ bs)) ≡ true
started_split b bs =
    elim (cases_eq b 0) [
      | inl e ↦
          ap (started false) (slice_split-cons_yes is_zero b bs (eq-eqb b 0 e))
          ∙ started_there [] (slice_split is_zero bs) (omega (arith, length-slice_split is_zero bs))
      | inr n ↦
          ap (started false) (slice_split-cons_no is_zero b bs (ne_eqb b 0 n))
          ∙ started_onto b (slice_split is_zero bs)
    ]

pub record TableRead (more : List (List ℕ)) (n : ℕ) (table : List ℕ) : Type 0 where
  pub line : ℕ
  pub texts : List ℕ → Option ℕ
  pub is : lines_said n (reading [] [] [] [] (λ t. None) within false false) (table_lines table ++ more)
      ≡ lines_said line (reading table [] [] [] texts within true false) more

pub table_read : (more : List (List ℕ)) (n : ℕ) (table : List ℕ) → AllByRecursion (λ b. b < 256) table →
    length table ≤ most_short → TableRead more n table
unfolding table_lines
table_read more n [] a l =
    record {
      line = n + 1;
      texts = λ t. None;
      is = step_said n _ _ (printed.bytes_line []) more (bytes_said n [] (λ t. None) false [] tt);
    }
table_read more n (b ∷ bs) a l =
    let parts = slice_split is_zero (b ∷ bs) in
    let j : join_with_byte 0 parts ≡ b ∷ bs = join_with_byte-slice_split 0 (b ∷ bs) in
    let m : length (join_with_byte 0 parts) ≤ most_short = rw j l in
    let r = parts_read more n [] (λ t. None) false parts (split_texts (b ∷ bs) a) m in
    record {
      line = r.line;
      texts = r.texts;
      is =
          r.is
          ∙ ap (λ (x : List ℕ). lines_said r.line
          (reading x [] [] [] r.texts within (started false parts) false) more) j
          ∙ ap (λ (x : Bool). lines_said r.line (reading (b ∷ bs) [] [] [] r.texts within x false) more)
          (started_split b bs);
    }

-- ---- files

pub record FileFits (s : List ℕ) (v : View) (f : FileInfo) : Type 0 where
  pub directory : f.directory.0 ≤ most_short
  pub filename : f.filename.0 ≤ most_short
  pub directory_text : Agrees s v.file f.directory (text_at v f.directory)
  pub filename_text : Agrees s v.file f.filename (text_at v f.filename)

pub record FilesRead (more : List (List ℕ)) (s : List ℕ) (v : View) (n : ℕ) (fs : List FileInfo) (fl : List ℕ)
    (ts : List ℕ → Option ℕ) (hm : Bool) (rows : List FileInfo) : Type 0 where
  pub line : ℕ
  pub lines : List ℕ
  pub has_more : Bool
  pub is : lines_said n (reading s fs fl [] ts within true hm) (map (printed.file_line v) rows ++ more)
      ≡ lines_said line (reading s (fs ++ rows) lines [] ts within true has_more) more

pub files_read : (more : List (List ℕ)) (s : List ℕ) (v : View) (n : ℕ) (fs : List FileInfo) (fl : List ℕ)
    (ts : List ℕ → Option ℕ) (hm : Bool) (rows : List FileInfo) → AllByRecursion (FileFits s v) rows →
    FilesRead more s v n fs fl ts hm rows
files_read more s v n fs fl ts hm [] a =
    record {
      line = n;
      lines = fl;
      has_more = hm;
      is = ap (λ (x : List FileInfo). lines_said n (reading s x fl [] ts within true hm) more) (sym (append-nil fs));
    }
files_read more s v n fs fl ts hm (f ∷ rows) a =
    let r = files_read more s v (n + 1) (fs ++ f ∷ []) (fl ++ n ∷ []) ts true rows a.1 in
    let h = a.0 in
    record {
      line = r.line;
      lines = r.lines;
      has_more = r.has_more;
      is =
          step_said n _ _ (printed.file_line v f) (map (printed.file_line v) rows ++ more)
          (file_said n s fs fl ts hm v f h.directory h.filename h.directory_text h.filename_text)
          ∙ r.is
          ∙ ap (λ (x : List FileInfo). lines_said r.line (reading s x r.lines [] ts within true r.has_more) more)
          (append_assoc fs (f ∷ []) rows);
    }

-- ---- items

pub record ItemFits (item : ItemData) : Type 0 where
  pub kind : item.kind ≤ most_short
  pub bytes : IsBytes item.bytes

abbrev pub with_items : SaidEntry → List SaidItem → SaidEntry
with_items e items = record { addr = e.addr; size = e.size; name = e.name; items = e.items ++ items; line = e.line }

module _ (more : List (List ℕ)) (s : List ℕ) (fs : List FileInfo) (fl : List ℕ) (es : List SaidEntry)
    (ts : List ℕ → Option ℕ) (hm : Bool) where
  abbrev at_entry : SaidEntry → Reading
  at_entry e = reading s fs fl (es ++ e ∷ []) ts within true hm

  record ItemsRead (n : ℕ) (e : SaidEntry) (items : List ItemData) : Type 0 where
    line : ℕ
    said : List SaidItem
    are : map item_of said ≡ items
    is : lines_said n (at_entry e) (map printed.item_line items ++ more)
        ≡ lines_said line (at_entry (with_items e said)) more

  items_read : (n : ℕ) (e : SaidEntry) (items : List ItemData) → AllByRecursion ItemFits items → ItemsRead n e items
  items_read n e [] a =
      record {
        line = n;
        said = [];
        are = refl;
        is =
            ap (λ (x : List SaidItem). lines_said n
            (at_entry (record { addr = e.addr; size = e.size; name = e.name; items = x; line = e.line })) more)
            (sym (append-nil e.items));
      }
  items_read n e (item ∷ items) a =
      let this : SaidItem = record { kind = item.kind; bytes = item.bytes; line = n } in
      let r = items_read (n + 1) (with_items e (this ∷ [])) items a.1 in
      record {
        line = r.line;
        said = this ∷ r.said;
        are = ap (λ (x : List ItemData). item ∷ x) r.are;
        is =
            step_said n _ _ (printed.item_line item) (map printed.item_line items ++ more)
            (item_said n s fs fl es ts hm e item a.0.kind a.0.bytes)
            ∙ r.is
            ∙ ap (λ (x : List SaidItem). lines_said r.line
            (at_entry (record { addr = e.addr; size = e.size; name = e.name; items = x; line = e.line })) more)
            (append_assoc e.items (this ∷ []) r.said);
      }

open_read : (more : List (List ℕ)) (n : ℕ) (r : Reading) (b : Bool) → (line : ℕ)
    × (lines_said n r ((if b then [] else codes "  # the list doesn't end in type 0" ∷ []) ++ more)
    ≡ lines_said line r more)
open_read more n r true = (n, refl)
open_read more n r false =
    (n + 1, step_said n r r (codes "  # the list doesn't end in type 0") more (comment_said n r))

-- ---- entries

pub record InfoFits (s : List ℕ) (v : View) (info : EntryInfo) : Type 0 where
  pub size : info.size ≤ most_short
  pub name : info.name ≤ most_short
  pub items : AllByRecursion ItemFits (items_of info.bytes)
  pub name_text : Agrees s v.file (record { 0 = info.name }) (name_at v (record { 0 = info.name }))

module _ (s : List ℕ) (v : View) (fs : List FileInfo) (fl : List ℕ) (ts : List ℕ → Option ℕ) where
  abbrev said_entries : List SaidEntry → Bool → Reading
  said_entries es hm = reading s fs fl es ts within true hm

  record EntryRead (more : List (List ℕ)) (n : ℕ) (es : List SaidEntry) (hm : Bool) (i e : ℕ) : Type 0 where
    line : ℕ
    said : SaidEntry
    says : SaysEntry v i e (entry_of said)
    is : lines_said n (said_entries es hm) (info_lines v (v.tables.base.0 + e) (info_at v i) ++ more)
        ≡ lines_said line (said_entries (es ++ said ∷ []) true) more

  entry_read : (more : List (List ℕ)) (n : ℕ) (es : List SaidEntry) (hm : Bool) (i e : ℕ) (info : EntryInfo) →
      info_at v i ≡ Some info → InfoFits s v info → v.tables.base.0 + e ≤ most_long → EntryRead more n es hm i e
  entry_read more n es hm i e info q h a =
      let addr = v.tables.base.0 + e in
      let first : SaidEntry = record {
        addr = record { 0 = addr };
        size = info.size;
        name = record { 0 = info.name };
        items = [];
        line = n;
      } in
      let last = open_line info.bytes ++ more in
      let r = items_read last s fs fl es ts true (n + 1) first (items_of info.bytes) h.items in
      let o = open_read more r.line (said_entries (es ++ with_items first r.said ∷ []) true) (closed_of info.bytes) in
      record {
        line = o.0;
        said = with_items first r.said;
        says = record { addr = refl; bytes = info.bytes; info = q; items = r.are };
        is =
            ap (λ (x : Option EntryInfo). lines_said n (said_entries es hm) (info_lines v addr x ++ more)) q
            ∙ step_said n _ _ (printed.entry_line v addr info) (item_lines info.bytes ++ more)
            (entry_said n s fs fl es ts hm v addr info a h.size h.name h.name_text)
            ∙ ap (lines_said (n + 1) (said_entries (es ++ first ∷ []) true))
            (append_assoc (map printed.item_line (items_of info.bytes)) (open_line info.bytes) more)
            ∙ r.is
            ∙ o.1;
      }

  pub record EntriesRead (more : List (List ℕ)) (n : ℕ) (es : List SaidEntry) (hm : Bool) (i : ℕ) (table : List ℕ)
      : Type 0 where
    pub line : ℕ
    pub added : List SaidEntry
    pub has_more : Bool
    pub says : SaysEntries v i table (map entry_of added)
    pub is : lines_said n (said_entries es hm) (entry_lines_from v i table ++ more)
        ≡ lines_said line (said_entries (es ++ added) has_more) more

  there : (o : Option EntryInfo) → is_some o ≡ true → (info : EntryInfo) × (o ≡ Some info)
  there (Some info) h = (info, refl)
  there None h = absurd cc

  -- those of the first entry, and then the others'
  entry_first : (more : List (List ℕ)) (n : ℕ) (es : List SaidEntry) (hm : Bool) (i e : ℕ) (table : List ℕ) →
      lines_said n (said_entries es hm) (entry_lines_from v i (e ∷ table) ++ more)
      ≡ lines_said n (said_entries es hm)
      (info_lines v (v.tables.base.0 + e) (info_at v i) ++ (entry_lines_from v (i + 1) table ++ more))
  unfolding entry_lines_from
  entry_first more n es hm i e table =
      ap (lines_said n (said_entries es hm))
      (append_assoc (info_lines v (v.tables.base.0 + e) (info_at v i)) (entry_lines_from v (i + 1) table) more)

  entries_more : (more : List (List ℕ)) (n : ℕ) (es : List SaidEntry) (hm : Bool) (i e : ℕ) (table : List ℕ)
      (one : EntryRead (entry_lines_from v (i + 1) table ++ more) n es hm i e) →
      EntriesRead more one.line (es ++ one.said ∷ []) true (i + 1) table → EntriesRead more n es hm i (e ∷ table)
  entries_more more n es hm i e table one rest =
      record {
        line = rest.line;
        added = one.said ∷ rest.added;
        has_more = rest.has_more;
        says = (one.says, rest.says);
        is =
            entry_first more n es hm i e table
            ∙ one.is
            ∙ rest.is
            ∙ ap (λ (x : List SaidEntry). lines_said rest.line (said_entries x rest.has_more) more)
            (append_assoc es (one.said ∷ []) rest.added);
      }

  module _ (more : List (List ℕ)) (h : (i : ℕ) (info : EntryInfo) → info_at v i ≡ Some info → InfoFits s v info) where
    pub entries_read : (n : ℕ) (es : List SaidEntry) (hm : Bool) (i : ℕ) (table : List ℕ) →
        AllByRecursion (λ e. v.tables.base.0 + e ≤ most_long) table → all_read_from v i table ≡ true →
        EntriesRead more n es hm i table
    unfolding all_read_from entry_lines_from
    entries_read n es hm i [] a r =
        record {
          line = n;
          added = [];
          has_more = hm;
          says = tt;
          is = ap (λ (x : List SaidEntry). lines_said n (said_entries x hm) more) (sym (append-nil es));
        }
    entries_read n es hm i (e ∷ table) a r =
        let p = and_parts (is_some (info_at v i)) (all_read_from v (i + 1) table) r in
        let info = there (info_at v i) p.0 in
        let on = entry_lines_from v (i + 1) table ++ more in
        let one = entry_read on n es hm i e info.0 info.1 (h i info.0 info.1) a.0 in
        entries_more more n es hm i e table one
        (entries_read one.line (es ++ one.said ∷ []) true (i + 1) table a.1 p.1)

    -- where they all are said, the information of each reads, and its address is at most 2^64-1
    first_fits : (on : List (List ℕ)) (n : ℕ) (es : List SaidEntry) (hm : Bool) (addr : ℕ) (o : Option EntryInfo)
        (r : Reading) → addr < 2 ^ 65 → lines_said n (said_entries es hm) (info_lines v addr o ++ on) ≡ Ok r →
        (info : EntryInfo) × (o ≡ Some info) × (addr ≤ most_long)
    first_fits on n es hm addr None r l q =
        let w = unread_wrong n s fs fl es ts hm addr l in
        absurd (wrong_said n (said_entries es hm) r _ on w.0 w.1 q)
    first_fits on n es hm addr (Some info) r l q =
        ⊎_elim
        (λ (g : most_long < addr).
        let w = entry_wrong n s fs fl es ts hm v addr info g l in
        absurd (wrong_said n (said_entries es hm) r _ (item_lines info.bytes ++ on) Number w q))
        (λ (g : addr ≤ most_long). (info, refl, g))
        (cases_lt most_long addr)

    after_first : (n : ℕ) (es : List SaidEntry) (hm : Bool) (i e : ℕ) (table : List ℕ) (r : Reading)
        (one : EntryRead (entry_lines_from v (i + 1) table ++ more) n es hm i e) →
        lines_said n (said_entries es hm) (entry_lines_from v i (e ∷ table) ++ more) ≡ Ok r →
        lines_said one.line (said_entries (es ++ one.said ∷ []) true) (entry_lines_from v (i + 1) table ++ more) ≡ Ok r
    after_first n es hm i e table r one q = sym one.is ∙ sym (entry_first more n es hm i e table) ∙ q

    pub entries_fit : (n : ℕ) (es : List SaidEntry) (hm : Bool) (i : ℕ) (table : List ℕ) (r : Reading) →
        AllByRecursion (λ e. v.tables.base.0 + e < 2 ^ 65) table →
        lines_said n (said_entries es hm) (entry_lines_from v i table ++ more) ≡ Ok r →
        AllByRecursion (λ e. v.tables.base.0 + e ≤ most_long) table × (all_read_from v i table ≡ true)
    unfolding all_read_from
    entries_fit n es hm i [] r a q = (tt, refl)
    entries_fit n es hm i (e ∷ table) r a q =
        let addr = v.tables.base.0 + e in
        let on = entry_lines_from v (i + 1) table ++ more in
        let f = first_fits on n es hm addr (info_at v i) r a.0 (sym (entry_first more n es hm i e table) ∙ q) in
        let one = entry_read on n es hm i e f.0 f.1 (h i f.0 f.1) f.2 in
        let rest = entries_fit one.line (es ++ one.said ∷ []) true (i + 1) table r a.1
        (after_first n es hm i e table r one q) in
        ((f.2, rest.0), rw (f.1) rest.1)
