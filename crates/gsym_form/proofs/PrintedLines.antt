-- Each printed line is read as what was printed, whatever was said before it.
-- Assumes nothing.
use Rattle.std.proofs.Common.{◌≡◌, ℕ, ◌^◌, ◌<◌, ◌≤◌, Bool, true, false, List, [], ◌∷◌, ◌++◌, length, Option, Some}
use Rattle.std.proofs.Common.{None, Ok, Err, refl, sym, ap, ◌∙◌, arith, append_assoc, le-leb, ne_eqb, ⊎_elim}
use Rattle.std.specs.Prelude.{decimal, codes}
use Rattle.std.specs.Char.{digit_value}
use Rattle.std.specs.Cmp.Lexicographic.{pointwise}
use Rattle.std.proofs.Math.Dec.{eqb}
use Rattle.std.proofs.lemmas.Bool.{cases_lt}
use Rattle.std.proofs.lemmas.List.{append-nil}
use Rattle.hex.specs.Hex.{IsBytes}
use Rattle.gsym_types.specs.declared.StrOffset.{StrOffset}
use Rattle.gsym_types.specs.declared.Text.{Text}
use Rattle.gsym_strtab.specs.Strings.{part_of}
use Rattle.gsym_parser.specs.declared.entries.FileInfo.{FileInfo}
use Rattle.gsym_parser.specs.View.{View}
use Rattle.gsym_parser.specs.Items.{ItemData}
use Rattle.gsym_parser.specs.Entries.{EntryInfo}
use Rattle.gsym_parser.specs.Texts.{text_at, name_at}
use Rattle.gsym_form.specs.declared.wrong.Wrong.{Wrong}
use Rattle.gsym_form.specs.declared.wrong.Wrong.TheVariants.{Number, UnreadEntry}
use Rattle.gsym_form.specs.Words.{next_word, is_empty, is_over, is_text, word, number, is_apart, over, most_short}
use Rattle.gsym_form.specs.Words.{most_long}
use Rattle.gsym_form.specs.Printed.{hexadecimal, bytes_behind, quoted, text_behind, string_shown}
use Rattle.gsym_form.specs.Printed as printed
use Rattle.gsym_form.specs.Said.{SaidItem, SaidEntry, Stage, before, within, behind, Reading, put_text, is_string_at}
use Rattle.gsym_form.specs.Said.{with_text, same_text, offset_string, string, early, read_string, read_bytes}
use Rattle.gsym_form.specs.Said.{with_table}
use Rattle.gsym_form.specs.Said.{read_file, is_unread, read_entry, with_item, has_entry, read_item, read_start}
use Rattle.gsym_form.specs.Said.{read_end, is_indented, read_words, line_said}
use Rattle.gsym_form.proofs.Numerals.{Digits, prints_decimal}
use Rattle.gsym_form.proofs.Quotes.{IsText}
use Rattle.gsym_form.proofs.Fronts.{over_blank, text_blank, word_blank, over_word, text_word, word_front, decimal_word}
use Rattle.gsym_form.proofs.Fronts.{decimal_front, hexadecimal_front, hexadecimal_above, is_text_front, text_front}
use Rattle.gsym_form.proofs.Fronts.{text_end, hex_behind}

-- what was said so far, by its parts
abbrev pub reading : List ℕ → List FileInfo → List ℕ → List SaidEntry → (List ℕ → Option ℕ) → Stage →
    (has_strings has_more : Bool) → Reading
reading strings files lines entries texts stage has_strings has_more = record {
  said = record { strings = strings; files = files; file_lines = lines; entries = entries };
  texts = texts;
  stage = stage;
  has_strings = has_strings;
  has_more = has_more;
}

-- ---- the string table

module _ (n : ℕ) (s : List ℕ) (ts : List ℕ → Option ℕ) (hs : Bool) (bs : List ℕ) (t : IsText bs) where
  pub string_said : length s ≤ most_short →
      line_said n (reading s [] [] [] ts within hs false) (printed.string_line bs)
      ≡ Ok (reading (s ++ (bs ++ 0 ∷ [])) [] [] [] (with_text ts bs (length s)) within true false)
  unfolding line_said read_words read_string early over put_text is_over is_text next_word word
  string_said l = rw (text_end bs t, le-leb _ _ l) refl

  pub bytes_said : line_said n (reading s [] [] [] ts within hs false) (printed.bytes_line bs)
      ≡ Ok (reading (s ++ bs) [] [] [] ts within true false)
  unfolding line_said read_words read_bytes early over is_over is_text next_word word
  bytes_said = rw (text_end bs t) refl

-- ---- a string of a file or an entry

-- the text that is printed behind an offset stands there
abbrev pub Agrees : (strings file : List ℕ) → StrOffset → Option Text → Type 0
Agrees strings file offset None = Unit {0}
Agrees strings file offset (Some t) =
    IsText (part_of file t.place t.len) × (is_string_at strings offset.0 (part_of file t.place t.len) ≡ true)

module _ (file : List ℕ) (offset : StrOffset) (l : offset.0 ≤ most_short) where
  of_64 : offset.0 < 2 ^ 64
  of_64 = omega arith

  pub shown_no_text : (t : Option Text) → is_text (string_shown file offset t) ≡ false
  shown_no_text t =
      text_blank (decimal offset.0 ++ text_behind file t)
      ∙ text_word (decimal offset.0) (text_behind file t) (decimal_word offset.0 of_64)

  module _ (r : Reading) where
    module _ (rest : List ℕ) (a : is_apart rest ≡ true) (x : is_text rest ≡ false) where
      none_split : string_shown file offset None ++ rest ≡ 32 ∷ (decimal offset.0 ++ rest)
      none_split = ap (λ (d : List ℕ). 32 ∷ (d ++ rest)) (append-nil (decimal offset.0))

      some_split : (t : Text) → string_shown file offset (Some t) ++ rest
          ≡ 32 ∷ (decimal offset.0 ++ (32 ∷ (quoted (part_of file t.place t.len) ++ rest)))
      some_split t =
          ap (λ (d : List ℕ). 32 ∷ d)
          (append_assoc (decimal offset.0) (32 ∷ quoted (part_of file t.place t.len)) rest)

      pub string_back : (t : Option Text) → Agrees r.said.strings file offset t →
          string r (string_shown file offset t ++ rest) ≡ Ok ((offset, r), rest)
      unfolding string offset_string same_text
      string_back None g =
          rw (
            none_split,
            text_blank (decimal offset.0 ++ rest),
            text_word (decimal offset.0) rest (decimal_word offset.0 of_64),
            decimal_front most_short offset.0 rest l of_64 a,
            x,
          )
          refl
      string_back (Some t) g =
          let bytes = part_of file t.place t.len in
          let on = 32 ∷ (quoted bytes ++ rest) in
          rw (
            some_split t,
            text_blank (decimal offset.0 ++ on),
            text_word (decimal offset.0) on (decimal_word offset.0 of_64),
            decimal_front most_short offset.0 on l of_64 refl,
            is_text_front bytes rest,
            text_front bytes rest g.0 a,
            g.1,
          )
          refl

    no_text_left : is_text [] ≡ false
    unfolding is_text next_word
    no_text_left = refl

    pub string_end : (t : Option Text) → Agrees r.said.strings file offset t →
        string r (string_shown file offset t) ≡ Ok ((offset, r), [])
    string_end t g =
        ap (string r) (sym (append-nil (string_shown file offset t))) ∙ string_back [] refl no_text_left t g

-- ---- files

module _ (n : ℕ) (s : List ℕ) (fs : List FileInfo) (fl : List ℕ) (ts : List ℕ → Option ℕ) (hm : Bool)
    (v : View) (f : FileInfo) where
  pub file_said : f.directory.0 ≤ most_short → f.filename.0 ≤ most_short →
      Agrees s v.file f.directory (text_at v f.directory) → Agrees s v.file f.filename (text_at v f.filename) →
      line_said n (reading s fs fl [] ts within true hm) (printed.file_line v f)
      ≡ Ok (reading s (fs ++ f ∷ []) (fl ++ n ∷ []) [] ts within true true)
  unfolding line_said read_words read_file is_over is_text next_word word with_table over
  file_said d l g h =
      let second = string_shown v.file f.filename (text_at v f.filename) in
      let r = reading s fs fl [] ts within true true in
      rw (
        string_back v.file f.directory d r second refl
            (shown_no_text v.file f.filename l (text_at v f.filename)) (text_at v f.directory) g,
        string_end v.file f.filename l r (text_at v f.filename) h,
      )
      refl

-- ---- entries

no_keyword : (c : ℕ) (cs ds : List ℕ) → 10 ≤ digit_value c → Digits 10 ds → is_empty ds ≡ false →
    pointwise eqb (c ∷ cs) ds ≡ false
no_keyword c cs [] h d e = absurd cc
no_keyword c cs (b ∷ bs) h d e =
    let l : digit_value b < 10 = d.0.below in
    rw (ne_eqb c b (λ (q : c ≡ b). omega (arith, ap digit_value q, h, l))) refl

pub no_digits : (c : ℕ) (cs : List ℕ) (n : ℕ) → 10 ≤ digit_value c → n < 2 ^ 64 →
    pointwise eqb (c ∷ cs) (decimal n) ≡ false
no_digits c cs n h l =
    let p = prints_decimal n l in no_keyword c cs (decimal n) h p.all p.some

module _ (n : ℕ) (s : List ℕ) (fs : List FileInfo) (fl : List ℕ) (es : List SaidEntry) (ts : List ℕ → Option ℕ)
    (hm : Bool) (v : View) (addr : ℕ) (info : EntryInfo) where
  abbrev shown : List ℕ
  shown = string_shown v.file (record { 0 = info.name }) (name_at v (record { 0 = info.name }))

  blank_split : (a b c : List ℕ) → ((a ++ 32 ∷ []) ++ b) ++ c ≡ a ++ (32 ∷ (b ++ c))
  blank_split a b c = append_assoc (a ++ 32 ∷ []) b c ∙ append_assoc a (32 ∷ []) (b ++ c)

  abbrev split_line : List ℕ
  split_line = codes "entry" ++ (32 ∷ (hexadecimal addr ++ (32 ∷ (decimal info.size ++ shown))))

  entry_split : printed.entry_line v addr info
      ≡ split_line
  entry_split = ap (λ (d : List ℕ). codes "entry " ++ d) (blank_split (hexadecimal addr) (decimal info.size) shown)

  not_unread : info.size < 2 ^ 64 → is_unread (32 ∷ (decimal info.size ++ shown)) ≡ false
  unfolding is_unread
  not_unread l =
      rw (
        word_blank (decimal info.size ++ shown),
        word_front (decimal info.size) shown (decimal_word info.size l) refl,
      )
      (no_digits 63 (codes "5") info.size (omega arith) l)

  split_said : addr ≤ most_long → info.size ≤ most_short → info.name ≤ most_short →
      Agrees s v.file (record { 0 = info.name }) (name_at v (record { 0 = info.name })) →
      line_said n (reading s fs fl es ts within true hm) split_line
      ≡ Ok (reading s fs fl
      (es ++ record {
        addr = record { 0 = addr };
        size = info.size;
        name = record { 0 = info.name };
        items = [];
        line = n;
      } ∷ []) ts within true true)
  unfolding line_said read_words read_entry is_over is_text next_word word with_table over
  split_said a z m g =
      let r = reading s fs fl es ts within true true in
      let name : StrOffset = record { 0 = info.name } in
      let l : info.size < 2 ^ 64 = omega arith in
      rw (
        hexadecimal_front most_long addr (32 ∷ (decimal info.size ++ shown)) a (omega arith) refl,
        not_unread l,
        decimal_front most_short info.size shown z l refl,
        string_end v.file name m r (name_at v name) g,
      )
      refl

  pub entry_said : addr ≤ most_long → info.size ≤ most_short → info.name ≤ most_short →
      Agrees s v.file (record { 0 = info.name }) (name_at v (record { 0 = info.name })) →
      line_said n (reading s fs fl es ts within true hm) (printed.entry_line v addr info)
      ≡ Ok (reading s fs fl
      (es ++ record {
        addr = record { 0 = addr };
        size = info.size;
        name = record { 0 = info.name };
        items = [];
        line = n;
      } ∷ []) ts within true true)
  entry_said a z m g = ap (line_said n (reading s fs fl es ts within true hm)) entry_split ∙ split_said a z m g

  -- an address above the most is no number
  entry_above : most_long < addr → addr < 2 ^ 65 →
      line_said n (reading s fs fl es ts within true hm) split_line ≡ Err Number
  unfolding line_said read_words read_entry is_over is_text next_word word with_table over
  entry_above l h = rw (hexadecimal_above most_long addr (32 ∷ (decimal info.size ++ shown)) l h refl) refl

  pub entry_wrong : most_long < addr → addr < 2 ^ 65 →
      line_said n (reading s fs fl es ts within true hm) (printed.entry_line v addr info) ≡ Err Number
  entry_wrong l h = ap (line_said n (reading s fs fl es ts within true hm)) entry_split ∙ entry_above l h

-- and an entry whose information didn't read is none, whatever its address
module _ (n : ℕ) (s : List ℕ) (fs : List FileInfo) (fl : List ℕ) (es : List SaidEntry) (ts : List ℕ → Option ℕ)
    (hm : Bool) (addr : ℕ) where
  abbrev unread_line : List ℕ
  unread_line = codes "entry" ++ (32 ∷ (hexadecimal addr ++ codes " ?5"))

  unread_above : most_long < addr → addr < 2 ^ 65 →
      line_said n (reading s fs fl es ts within true hm) unread_line ≡ Err Number
  unfolding line_said read_words read_entry is_over is_text next_word word with_table over
  unread_above l h = rw (hexadecimal_above most_long addr (codes " ?5") l h refl) refl

  unread_below : addr ≤ most_long →
      line_said n (reading s fs fl es ts within true hm) unread_line ≡ Err UnreadEntry
  unfolding line_said read_words read_entry is_unread is_over is_text next_word word with_table over
  unread_below l = rw (hexadecimal_front most_long addr (codes " ?5") l (omega arith) refl) refl

  pub unread_wrong : addr < 2 ^ 65 →
      (w : Wrong) × (line_said n (reading s fs fl es ts within true hm) unread_line ≡ Err w)
  unread_wrong h =
      ⊎_elim
      (λ (l : most_long < addr). (Number, unread_above l h))
      (λ (l : addr ≤ most_long). (UnreadEntry, unread_below l))
      (cases_lt most_long addr)

-- ---- items

over_nothing : over [] ≡ Ok tt
unfolding over is_over next_word
over_nothing = refl

number_blank : (most : ℕ) (bs : List ℕ) → number most (32 ∷ bs) ≡ number most bs
unfolding number
number_blank most bs = rw (word_blank bs) refl

behind_apart : (bs : List ℕ) → is_apart (bytes_behind bs) ≡ true
behind_apart [] = refl
behind_apart (b ∷ bs) = refl

with_item_last : (item : SaidItem) (es : List SaidEntry) (e : SaidEntry) → with_item item (es ++ e ∷ [])
    ≡ es ++ record { addr = e.addr; size = e.size; name = e.name; items = e.items ++ item ∷ []; line = e.line } ∷ []
unfolding with_item
with_item_last item [] e = refl
with_item_last item (x ∷ []) e = refl
with_item_last item (x ∷ y ∷ es) e = ap (λ l. x ∷ l) (with_item_last item (y ∷ es) e)

has_entry_last : (es : List SaidEntry) (e : SaidEntry) → has_entry (es ++ e ∷ []) ≡ true
has_entry_last [] e = refl
has_entry_last (x ∷ es) e = refl

module _ (n : ℕ) (s : List ℕ) (fs : List FileInfo) (fl : List ℕ) (es : List SaidEntry) (ts : List ℕ → Option ℕ)
    (hm : Bool) (e : SaidEntry) where
  pub item_said : (item : ItemData) → item.kind ≤ most_short → IsBytes item.bytes →
      line_said n (reading s fs fl (es ++ e ∷ []) ts within true hm) (printed.item_line item)
      ≡ Ok (reading s fs fl
      (es ++ record {
        addr = e.addr;
        size = e.size;
        name = e.name;
        items = e.items ++ record { kind = item.kind; bytes = item.bytes; line = n } ∷ [];
        line = e.line;
      } ∷ []) ts within true hm)
  unfolding line_said read_words read_item is_indented
  item_said item k b =
      let l : item.kind < 2 ^ 64 = omega arith in
      let d = decimal item.kind in
      let rest = bytes_behind item.bytes in
      let w = decimal_word item.kind l in
      let a = behind_apart item.bytes in
      let no = λ (c : ℕ) (cs : List ℕ) (h : 10 ≤ digit_value c). no_digits c cs item.kind h l in
      rw (
        over_blank (32 ∷ (d ++ rest)),
        over_blank (d ++ rest),
        over_word d rest w,
        word_blank (32 ∷ (d ++ rest)),
        word_blank (d ++ rest),
        word_front d rest w a,
        no 115 (codes "tring") (omega arith),
        no 98 (codes "ytes") (omega arith),
        no 102 (codes "ile") (omega arith),
        no 101 (codes "ntry") (omega arith),
        no 101 (codes "nd") (omega arith),
        has_entry_last es e,
        number_blank most_short (32 ∷ (d ++ rest)),
        decimal_front most_short item.kind rest k l a,
        hex_behind item.bytes b,
        over_nothing,
        with_item_last (record { kind = item.kind; bytes = item.bytes; line = n }) es e,
      )
      refl

pub comment_said : (n : ℕ) (r : Reading) → line_said n r (codes "  # the list doesn't end in type 0") ≡ Ok r
unfolding line_said is_over next_word
comment_said n r = refl

pub start_said : (n : ℕ) → line_said n (reading [] [] [] [] (λ t. None) before false false) (codes "gsym 1")
    ≡ Ok (reading [] [] [] [] (λ t. None) within false false)
unfolding line_said read_start over is_over is_text next_word word
start_said n = refl

pub nothing_more : (n : ℕ) (r : Reading) → line_said n r [] ≡ Ok r
unfolding line_said is_over next_word
nothing_more n r = refl

pub end_said : (n : ℕ) (s : List ℕ) (fs : List FileInfo) (fl : List ℕ) (es : List SaidEntry) (ts : List ℕ → Option ℕ)
    (hs hm : Bool) → line_said n (reading s fs fl es ts within hs hm) (codes "end")
    ≡ Ok (reading s fs fl es ts behind hs hm)
unfolding line_said read_words read_end over is_over is_text next_word word
end_said n s fs fl es ts hs hm = refl
