-- Laws of the strings that read, for whoever calls: a string lies inside the file with a zero byte after it and none in
-- it, a name is a string that is UTF-8, and the answer is that of the table's own bytes.
-- Assumes nothing.
use Rattle.std.proofs.Common.{ℕ, ◌+◌, ◌≤◌, ◌<◌, true, List, [], ◌≡◌, ◌≢◌, All, refl, ap, sym, ◌∙◌, ⊎_elim, ◌==◌, length}
use Rattle.std.proofs.Common.{get_or, take, drop, drop_of_length-le, length-drop, length-take-le, get_or-take}
use Rattle.std.proofs.Common.{get_or-drop, ext_get_or, arith, lt-ltb, le-ltb, le-leb, eqb-true, Option, Some, None}
use borrow.Author.Tests.{lt-leb, eqb-false}
use Rattle.gsym_reads.proofs.Maybe.{bind_some, need_some}
use Rattle.std.proofs.lemmas.List.Quantifiers.{position-Some}
use Rattle.std.proofs.lemmas.List.Sums.{fails_before_first}
use Rattle.std.specs.List.{position_or_len}
use Rattle.gsym_types.specs.declared.StrOffset.{StrOffset}
use Rattle.gsym_types.specs.declared.Text.{Text}
use Rattle.gsym_strtab.specs.Utf8.{utf8}
use Rattle.gsym_strtab.specs.Strings.{part_of, before_zero, text_in, name_in, placed, in_table, bytes_from}
use Rattle.gsym_strtab.specs.Strings.{EndsBeforeZero}
use Rattle.gsym_strtab.specs.Strings.{text_at, name_at}
use Rattle.gsym_strtab.specs.declared.StrTable.{StrTable}
use Rattle.std.proofs.lemmas.Bool.{cases_lt}
use Rattle.gsym_strtab.proofs.Passing.{text-begin}

never : {A : Type 0} → ◌≡◌ {A = ℕ} 0 1 → A
never z = absurd (omega arith)

pub before_zero-is : (bs : List ℕ) (n : ℕ) → before_zero bs ≡ Some n → EndsBeforeZero bs n
unfolding before_zero
before_zero-is bs n e =
    let p = position-Some (λ b. b == 0) bs n 0 e in
    record {
      inside = p.0;
      zero_after = eqb-true _ _ p.1;
      none_before = λ k d l z. before k d (omega (arith, l, length-take-le n bs (omega (arith, p.0)))) z;
    }
  where
    before : (k d : ℕ) → k < n → get_or (take n bs) k d ≡ 0 → ⊥
    before k d l z =
        let p = position-Some (λ b. b == 0) bs n d e in
        eqb-false _ _ (p.2 k l) (sym (get_or-take n bs k d l) ∙ z)

-- ------------------------------------------------------------------------------------------------
-- in the table's own bytes
module _ (s : List ℕ) (at n : ℕ) where
  pub text_in-is : text_in s at ≡ Some n → (at + n < length s) × EndsBeforeZero (drop at s) n
  unfolding text_in
  text_in-is e =
      ⊎_elim
      (λ (l : at < length s).
      let e' : before_zero (drop at s) ≡ Some n = simp (lt-ltb _ _ l) at e in
      let z = before_zero-is (drop at s) n e' in
      (omega (arith, z.inside, length-drop at s), z))
      (λ (l : length s ≤ at).
      let e' : None ≡ Some n = simp (le-ltb _ _ l) at e in
      let z : ◌≡◌ {A = ℕ} 0 1 = cc in never z)
      (cases_lt at (length s))

  pub name-in-is : name_in s at ≡ Some n → (text_in s at ≡ Some n) × (utf8 (take n (drop at s)) ≡ true)
  unfolding name_in
  name-in-is e =
      let i = bind_some (text_in s at) _ n e in
      let j = need_some (utf8 (take i.0 (drop at s))) (Some i.0) n i.2 in
      let q : Some i.0 ≡ Some n = j.1 in
      let k : i.0 ≡ n = cc in
      (i.1 ∙ ap Some k, ap (λ m. utf8 (take m (drop at s))) (sym k) ∙ j.0)

  pub name_in-utf8 : text_in s at ≡ Some n → utf8 (take n (drop at s)) ≡ true → name_in s at ≡ Some n
  unfolding name_in
  name_in-utf8 e u = rw (e, u)

-- a reader of the table's bytes whose strings lie inside them
abbrev pub Inside : (List ℕ → ℕ → Option ℕ) → Type 0
Inside read = (s : List ℕ) (at n : ℕ) → read s at ≡ Some n → at + n < length s

pub text_in-inside : Inside text_in
text_in-inside s at n e = (text_in-is s at n e).0

pub name-in-inside : Inside name_in
name-in-inside s at n e = (text_in-is s at n (name-in-is s at n e).0).0

-- ------------------------------------------------------------------------------------------------
-- in the file

-- what an answer says: the table is a part of the file, and its bytes have that string at the offset
pub record Found (read : List ℕ → ℕ → Option ℕ) (file : List ℕ) (table : StrTable) (offset : StrOffset) (t : Text)
    : Type 0 where
  pub fits : table.place + table.size ≤ length file
  pub counted : t.place ≡ table.place + offset.0
  pub spans : read (take table.size (drop table.place file)) offset.0 ≡ Some t.len

placed-is : (at : ℕ) (l : Option ℕ) (t : Text) → placed at l ≡ Some t → (t.place ≡ at) × (l ≡ Some t.len)
placed-is at (Some n) t e =
    let q : t ≡ (record { place = at; len = n }) = cc in
    (ap (λ x. x.place) q, ap (λ x. Some x.len) (sym q))
placed-is at None t e = let z : ◌≡◌ {A = ℕ} 0 1 = cc in never z

module _ (read : List ℕ → ℕ → Option ℕ) (file : List ℕ) (table : StrTable) (offset : StrOffset) where
  in-table-is : (t : Text) → in_table read file table offset ≡ Some t → Found read file table offset t
  in-table-is t e =
      ⊎_elim
      (λ (l : length file < table.place + table.size).
      let e' : None ≡ Some t = simp (lt-leb _ _ l) at e in
      let z : ◌≡◌ {A = ℕ} 0 1 = cc in never z)
      (λ (l : table.place + table.size ≤ length file).
      let bytes : List ℕ = take table.size (drop table.place file) in
      let p = placed-is (table.place + offset.0) (read bytes offset.0) t (simp (le-leb _ _ l) at e) in
      record { fits = l; counted = p.0; spans = p.1 })
      (cases_lt (length file) (table.place + table.size))

-- a part of the table is a part of the file
module _ (file : List ℕ) (place size at len : ℕ) (f : place + size ≤ length file) (g : at + len ≤ size) where
  table-length : length (take size (drop place file)) ≡ size
  table-length = length-take-le size (drop place file) (omega (arith, length-drop place file))

  here-length : length (take len (drop (place + at) file)) ≡ len
  here-length = length-take-le len (drop (place + at) file) (omega (arith, length-drop (place + at) file))

  there-length : length (take len (drop at (take size (drop place file)))) ≡ len
  there-length =
      length-take-le len (drop at (take size (drop place file)))
      (omega (arith, length-drop at (take size (drop place file)), table-length))

  same_byte : (k : ℕ) → k < len →
      get_or (take len (drop (place + at) file)) k 0 ≡ get_or (take len (drop at (take size (drop place file)))) k 0
  same_byte k l =
      let e : place + at + k ≡ place + (at + k) = omega arith in
      get_or-take len (drop (place + at) file) k 0 l ∙ get_or-drop (place + at) file k 0 ∙ ap (λ j. get_or file j 0) e
      ∙ sym (get_or-take len (drop at (take size (drop place file))) k 0 l
      ∙ get_or-drop at (take size (drop place file)) k 0
      ∙ get_or-take size (drop place file) (at + k) 0 (omega arith) ∙ get_or-drop place file (at + k) 0)

  part-in-table : part_of file (place + at) len ≡ take len (drop at (take size (drop place file)))
  unfolding part_of
  part-in-table =
      let l : place + at + len ≤ length file = omega arith in
      rw (le-leb _ _ l)
      (ext_get_or 0 (take len (drop (place + at) file)) (take len (drop at (take size (drop place file))))
      (here-length ∙ sym there-length) (λ k h. same_byte k (omega (arith, here-length))))

-- where the table is a part of the file, the answer is that of its own bytes, and else there is none
module _ (file : List ℕ) (table : StrTable) (offset : StrOffset) where
  pub text_in-table : table.place + table.size ≤ length file →
      text_at file table offset
      ≡ placed (table.place + offset.0) (text_in (take table.size (drop table.place file)) offset.0)
  unfolding text_at
  text_in-table l = rw (le-leb _ _ l)

  pub name-in-table : table.place + table.size ≤ length file →
      name_at file table offset
      ≡ placed (table.place + offset.0) (name_in (take table.size (drop table.place file)) offset.0)
  unfolding name_at
  name-in-table l = rw (le-leb _ _ l)

  pub text-no-table : length file < table.place + table.size → text_at file table offset ≡ None
  unfolding text_at
  text-no-table l = rw (lt-leb _ _ l)

  pub name-no-table : length file < table.place + table.size → name_at file table offset ≡ None
  unfolding name_at
  name-no-table l = rw (lt-leb _ _ l)

module _ (file : List ℕ) (table : StrTable) (offset : StrOffset) (t : Text) where
  pub text-found : text_at file table offset ≡ Some t → Found text_in file table offset t
  unfolding text_at
  text-found e = in-table-is text_in file table offset t e

  pub name-found : name_at file table offset ≡ Some t → Found name_in file table offset t
  unfolding name_at
  name-found e = in-table-is name_in file table offset t e

  room : (read : List ℕ → ℕ → Option ℕ) → Inside read → Found read file table offset t → offset.0 + t.len < table.size
  room read i h =
      omega (
        arith,
        i (take table.size (drop table.place file)) offset.0 t.len h.spans,
        table-length file table.place table.size 0 0 h.fits (omega arith),
      )

  -- a string lies inside the file, and the byte after it too
  pub text-within : text_at file table offset ≡ Some t → t.place + t.len < length file
  text-within e =
      let h = text-found e in
      omega (arith, room text_in text_in-inside h, h.fits, h.counted)

  -- a name is a string
  pub name-is-text : name_at file table offset ≡ Some t → text_at file table offset ≡ Some t
  unfolding text_at
  name-is-text e =
      let h = name-found e in
      let n = name-in-is (take table.size (drop table.place file)) offset.0 t.len h.spans in
      rw (le-leb _ _ h.fits, n.0, ← h.counted)

  pub name-within : name_at file table offset ≡ Some t → t.place + t.len < length file
  name-within e = text-within (name-is-text e)

  -- the bytes that `text` hands back: those of the table
  part-is : (read : List ℕ → ℕ → Option ℕ) → Inside read → Found read file table offset t →
      part_of file t.place t.len ≡ take t.len (drop offset.0 (take table.size (drop table.place file)))
  part-is read i h =
      rw h.counted
      (part-in-table file table.place table.size offset.0 t.len h.fits (omega (arith, room read i h)))

  pub text-part-length : text_at file table offset ≡ Some t → length (part_of file t.place t.len) ≡ t.len
  unfolding part_of
  text-part-length e =
      let l : t.place + t.len ≤ length file = omega (arith, text-within e) in
      rw (le-leb _ _ l) (length-take-le t.len (drop t.place file) (omega (arith, length-drop t.place file)))

  -- no zero byte in it
  pub text-no-zero : text_at file table offset ≡ Some t → All (λ b. b ≢ 0) (part_of file t.place t.len)
  text-no-zero e =
      let h = text-found e in
      let d = (text_in-is (take table.size (drop table.place file)) offset.0 t.len h.spans).1 in
      rw (part-is text_in text_in-inside h) d.none_before

  pub name-is-utf8 : name_at file table offset ≡ Some t → utf8 (part_of file t.place t.len) ≡ true
  name-is-utf8 e =
      let h = name-found e in
      ap utf8 (part-is name_in name-in-inside h)
      ∙ (name-in-is (take table.size (drop table.place file)) offset.0 t.len h.spans).1

  -- a string that is UTF-8 is a name
  pub name-of-text : text_at file table offset ≡ Some t → utf8 (part_of file t.place t.len) ≡ true →
      name_at file table offset ≡ Some t
  unfolding name_at
  name-of-text e u =
      let h = text-found e in
      let s : List ℕ = take table.size (drop table.place file) in
      let v : utf8 (take t.len (drop offset.0 s)) ≡ true = sym (ap utf8 (part-is text_in text_in-inside h)) ∙ u in
      rw (le-leb _ _ h.fits, name_in-utf8 s offset.0 t.len h.spans v, ← h.counted)

-- ------------------------------------------------------------------------------------------------
-- what an answer is held to

-- where no zero byte is, nothing stands before one
nothing-before : (bs : List ℕ) → before_zero bs ≡ None → All (λ b. b ≢ 0) bs
unfolding before_zero
nothing-before bs e k d l z =
    let n = position_or_len (λ b. b == 0) bs in
    ⊎_elim
    (λ (h : n < length bs). absurd (cc (lt-ltb _ _ h)))
    (λ (h : length bs ≤ n). eqb-false _ _ (fails_before_first (λ b. b == 0) bs k d (omega arith)) z)
    (cases_lt n (length bs))

module _ (file : List ℕ) (table : StrTable) (offset : StrOffset) where
  part-fits :
      table.place + table.size ≤ length file →
      part_of file table.place table.size ≡ take table.size (drop table.place file)
  unfolding part_of
  part-fits l = rw (le-leb _ _ l)

  no-part : length file < table.place + table.size → part_of file table.place table.size ≡ []
  unfolding part_of
  no-part l = rw (lt-leb _ _ l)

  pub text_at-found : (t : Text) → text_at file table offset ≡ Some t →
      (t.place ≡ table.place + offset.0) × EndsBeforeZero (bytes_from file table offset) t.len
  text_at-found t e =
      let h = text-found file table offset t e in
      let d = (text_in-is (take table.size (drop table.place file)) offset.0 t.len h.spans).1 in
      (h.counted, rw (part-fits h.fits) d)

  pub text_at-none : text_at file table offset ≡ None → All (λ b. b ≢ 0) (bytes_from file table offset)
  unfolding text_at
  text_at-none e =
      ⊎_elim
      (λ (m : length file < table.place + table.size).
      let l : length {A = ℕ} [] ≤ offset.0 = omega arith in
      let z : drop {A = ℕ} offset.0 [] ≡ [] = drop_of_length-le [] l in
      rw (no-part m, z) (λ k d h. absurd (omega arith)))
      (λ (l : table.place + table.size ≤ length file).
      let s : List ℕ = take table.size (drop table.place file) in
      rw (part-fits l)
      (nothing-before (drop offset.0 s)
      (sym (text-begin s offset.0) ∙ none-placed (text_in s offset.0) (simp (le-leb _ _ l) at e))))
      (cases_lt (length file) (table.place + table.size))
    where
      none-placed : (r : Option ℕ) → placed (table.place + offset.0) r ≡ None → r ≡ None
      none-placed (Some n) e = absurd (cc)
      none-placed None e = refl

  pub some-zero : (t : Text) → text_at file table offset ≡ Some t → All (λ b. b ≢ 0) (bytes_from file table offset) → ⊥
  some-zero t e a = let d = (text_at-found t e).1 in a t.len 0 d.inside d.zero_after

-- ------------------------------------------------------------------------------------------------
-- a string that ends before a zero byte is the one that is read: it ends in one place

one_end : (bs : List ℕ) (n m : ℕ) → EndsBeforeZero bs n → EndsBeforeZero bs m → n < m → ⊥
one_end bs n m N M l =
    M.none_before n 0 (omega (arith, l, length-take-le m bs (omega (arith, M.inside))))
    (get_or-take m bs n 0 l ∙ N.zero_after)

pub same_end : (bs : List ℕ) (n m : ℕ) → EndsBeforeZero bs n → EndsBeforeZero bs m → n ≡ m
same_end bs n m N M =
    ⊎_elim
    (λ (l : n < m). absurd (one_end bs n m N M l))
    (λ (h : m ≤ n). ⊎_elim (λ (l : m < n). absurd (one_end bs m n M N l)) (λ (k : n ≤ m). omega arith) (cases_lt m n))
    (cases_lt n m)

pub text_in-ends : (s : List ℕ) (at n : ℕ) → EndsBeforeZero (drop at s) n → text_in s at ≡ Some n
text_in-ends s at n N = go (text_in s at) refl
  where
    go : (x : Option ℕ) → text_in s at ≡ x → text_in s at ≡ Some n
    go (Some m) e = e ∙ ap Some (same_end (drop at s) m n (text_in-is s at m e).1 N)
    go None e = absurd (nothing-before (drop at s) (sym (text-begin s at) ∙ e) n 0 N.inside N.zero_after)
