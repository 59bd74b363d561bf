-- The parts of a form's lists, where bytes, items and entries are added.
-- Assumes nothing.
use Rattle.std.proofs.Common.{◌≡◌, ℕ, suc, zero, ◌+◌, ◌-◌, ◌≤◌, ◌<◌, Bool, true, false, ◌&&◌, List, [], ◌∷◌, ◌++◌}
use Rattle.std.proofs.Common.{length, take, drop, refl, ap, sym, subst, ◌∙◌, arith, Option, Some, None, map}
use Rattle.std.proofs.Common.{length-append, length-drop}
use Rattle.std.proofs.lemmas.List.{take-append-le, drop-append-le, map-append, length-map}
use Rattle.std.proofs.lemmas.Bool.{le-leb, leb-true}
use Rattle.std.proofs.Math.Seq.{drop-append_seam}
use Rattle.std.specs.Prelude.{nat_le, if◌then◌else◌, slice_get, slice_set, slice_index_or, Ok}
use Rattle.gsym_form.specs.declared.form.FormEntry.{FormEntry}
use Rattle.gsym_form.specs.declared.form.FormItem.{FormItem}
use Rattle.gsym_form.specs.Form.{part_of}
use Rattle.gsym_form.specs.Kept.{AreWithin, EndAt, ArePlaced}
use Rattle.gsym_form.specs.Words.{number, most_short, hex, over}
use Rattle.gsym_form.specs.Parsed.{item_said, entry_said}
use Rattle.gsym_form.specs.Said.{SaidItem, SaidEntry, with_item, has_entry, read_item, with_entries, Reading}

pub all_of : {A : Type 0} (n : ℕ) (xs : List A) → length xs ≤ n → take n xs ≡ xs
all_of zero [] h = refl
all_of zero (x ∷ xs) h = absurd (omega arith)
all_of (suc n) [] h = refl
all_of (suc n) (x ∷ xs) h = ap (λ ys. x ∷ ys) (all_of n xs (omega arith))

module _ {A : Type 0} where
  part_within :
      (first end : ℕ) (xs : List A) → first ≤ end → end ≤ length xs →
      part_of first end xs ≡ take (end - first) (drop first xs)
  unfolding part_of
  part_within first end xs a b = rw (le-leb first end a, le-leb end (length xs) b) refl

  more_by :
      (first end : ℕ) (xs more : List A) (b : Bool) → nat_le first end ≡ b → end ≤ length xs →
      (if b && nat_le end (length (xs ++ more)) then take (end - first) (drop first (xs ++ more)) else [])
      ≡ (if b && nat_le end (length xs) then take (end - first) (drop first xs) else [])
  more_by first end xs more false e h = refl
  more_by first end xs more true e h =
      let l : first ≤ end = leb-true first end e in
      rw (
        le-leb end (length (xs ++ more)) (omega (arith, length-append xs more)),
        le-leb end (length xs) h,
        drop-append-le first xs more (omega arith),
        take-append-le (end - first) (drop first xs) more (omega (arith, length-drop first xs)),
      )
      refl

  part_more :
      (first end : ℕ) (xs more : List A) → end ≤ length xs →
      part_of first end (xs ++ more) ≡ part_of first end xs
  unfolding part_of
  part_more first end xs more h = more_by first end xs more (nat_le first end) refl h

  part_behind : (xs more : List A) → part_of (length xs) (length (xs ++ more)) (xs ++ more) ≡ more
  part_behind xs more =
      part_within (length xs) (length (xs ++ more)) (xs ++ more) (omega (arith, length-append xs more)) (omega arith)
      ∙ rw (drop-append_seam xs more) (all_of _ more (omega (arith, length-append xs more)))

  none_by : (n : ℕ) (xs : List A) (b : Bool) → (if b then take (n - n) (drop n xs) else []) ≡ []
  none_by n xs false = refl
  none_by n xs true = let e : n - n ≡ 0 = omega arith in rw e refl

  part_none : (n : ℕ) (xs : List A) → part_of n n xs ≡ []
  unfolding part_of
  part_none n xs = none_by n xs (nat_le n n && nat_le n (length xs))

  part_add :
      (first n : ℕ) (xs : List A) (x : A) → first ≤ n → n ≡ length xs →
      part_of first (n + 1) (xs ++ x ∷ []) ≡ part_of first n xs ++ x ∷ []
  part_add first n xs x h e =
      part_within first (n + 1) (xs ++ x ∷ []) (omega arith) (omega (arith, length-append xs (x ∷ [])))
      ∙ rw (
        part_within first n xs h (omega arith),
        drop-append-le first xs (x ∷ []) (omega arith),
        all_of (n + 1 - first) (drop first xs ++ x ∷ [])
            (omega (arith, length-drop first xs, length-append (drop first xs) (x ∷ []))),
        all_of (n - first) (drop first xs) (omega (arith, length-drop first xs)),
      )
      refl

-- ---- items

module _ (bytes more : List ℕ) where
  items_more :
      (items : List FormItem) → AreWithin (length bytes) items →
      map (item_said (bytes ++ more)) items ≡ map (item_said bytes) items
  items_more [] h = refl
  items_more (item ∷ items) h = rw (part_more item.first item.end bytes more h.0, items_more items h.1) refl

  within_more :
      (n : ℕ) (items : List FormItem) (item : FormItem) → AreWithin (length bytes) items → length bytes ≤ n →
      item.end ≤ n → AreWithin n (items ++ item ∷ [])
  within_more n [] item h l e = (e, tt)
  within_more n (a ∷ items) item h l e = (omega (arith, h.0), within_more n items item h.1 l e)

-- ---- an entry more

pub ended_add :
    (es : List FormEntry) (e : FormEntry) (n : ℕ) → EndAt n es → e.first ≡ n → e.end ≡ n → EndAt n (es ++ e ∷ [])
ended_add [] e n h f l = (omega arith, l)
ended_add (a ∷ []) e n h f l = (omega (arith, h.1), (omega arith, l))
ended_add (a ∷ b ∷ es) e n h f l = (h.0, ended_add (b ∷ es) e n h.1 f l)

pub entries_add :
    (items : List SaidItem) (es : List FormEntry) (e : FormEntry) → e.first ≡ e.end →
    map (entry_said items) (es ++ e ∷ []) ≡ map (entry_said items) es
    ++ record { addr = e.addr; size = e.size; name = e.name; items = []; line = e.line } ∷ []
entries_add items es e h = map-append (entry_said items) es (e ∷ []) ∙ rw (h, part_none e.end items) refl

pub ruleset entry_more = (ended_add, entries_add)

-- ---- an item more

-- an entry, its items up to another end
abbrev up_to : FormEntry → ℕ → FormEntry
up_to e n = record { addr = e.addr; size = e.size; name = e.name; first = e.first; end = n; line = e.line }

module _ (items : List SaidItem) (x : SaidItem) (e : FormEntry) (n : ℕ) where
  last_more :
      (es : List FormEntry) (i : ℕ) → i + 1 ≡ length es → slice_get es i ≡ Some e → EndAt (length items) es →
      n ≡ length items + 1 →
      map (entry_said (items ++ x ∷ [])) (slice_set es i (up_to e n)) ≡ with_item x (map (entry_said items) es)
  unfolding with_item
  last_more [] i l g h s = absurd (omega arith)
  last_more (a ∷ []) zero l g h s =
      let same : a ≡ e = cc in
      rw (← same, s, h.1, part_add a.first (length items) items x (omega (arith, h.0, h.1)) refl) refl
  last_more (a ∷ []) (suc i) l g h s = absurd (omega arith)
  last_more (a ∷ b ∷ es) zero l g h s = absurd (omega arith)
  last_more (a ∷ b ∷ es) (suc i) l g h s =
      rw (part_more a.first a.end items (x ∷ []) h.0, last_more (b ∷ es) i (omega arith) g h.1 s) refl

ended_more :
    (e : FormEntry) (n : ℕ) (es : List FormEntry) (i m : ℕ) → i + 1 ≡ length es → slice_get es i ≡ Some e →
    EndAt m es → n ≡ m + 1 →
    EndAt n (slice_set es i (up_to e n))
ended_more e n [] i m l g h s = absurd (omega arith)
ended_more e n (a ∷ []) zero m l g h s =
    let same : a ≡ e = cc in (rw (← same) (omega (arith, h.0, h.1)), refl)
ended_more e n (a ∷ []) (suc i) m l g h s = absurd (omega arith)
ended_more e n (a ∷ b ∷ es) zero m l g h s = absurd (omega arith)
ended_more e n (a ∷ b ∷ es) (suc zero) m l g h s =
    (omega (arith, h.0), ended_more e n (b ∷ es) zero m (omega arith) g h.1 s)
ended_more e n (a ∷ b ∷ es) (suc (suc i)) m l g h s =
    (omega (arith, h.0), ended_more e n (b ∷ es) (suc i) m (omega arith) g h.1 s)

-- ---- an item, with its bytes

pub got :
    (es : List FormEntry) (i : ℕ) (e : FormEntry) → i < length es → e ≡ slice_index_or es i e →
    slice_get es i ≡ Some e
got [] i e l h = absurd (omega arith)
got (a ∷ es) zero e l h = ap (λ x. Some x) (sym h)
got (a ∷ es) (suc i) e l h = got es i e (omega arith) h

pub has_some :
    (f : FormEntry → SaidEntry) (es : List FormEntry) → 0 < length es → has_entry (map f es) ≡ true
has_some f [] l = absurd (omega arith)
has_some f (e ∷ es) l = refl

filled : (es : List FormEntry) (e : FormEntry) (n : ℕ) → n ≡ length es → slice_get es (n - 1) ≡ Some e → n - 1 + 1 ≡ n
filled [] e n l g =
    let z : ◌≡◌ {A = Option FormEntry} None (Some e) = g in absurd cc
filled (a ∷ es) e n l g = omega arith

module _
    (bytes more new : List ℕ) (items newer : List FormItem) (item : FormItem) (es : List FormEntry) (e : FormEntry)
    (len at : ℕ) (placed : ArePlaced bytes items es) (grown : new ≡ bytes ++ more) (added : newer ≡ items ++ item ∷ [])
    (first : item.first ≡ length bytes) (end : item.end ≡ length new) (count : len ≡ length es)
    (last : slice_get es (len - 1) ≡ Some e) (last_end : at ≡ length newer) where
  abbrev olds : List SaidItem
  olds = map (item_said bytes) items

  abbrev said : SaidItem
  said = record { kind = item.kind; bytes = more; line = item.line }

  abbrev after : List FormEntry
  after = slice_set es (len - 1) (up_to e at)

  items_add : map (item_said new) newer ≡ olds ++ said ∷ []
  items_add =
      rw (
        added,
        map-append (item_said new) items (item ∷ []),
        first,
        end,
        grown,
        items_more bytes more items placed.within,
        part_behind bytes more,
      )
      refl

  one_more : at ≡ length items + 1
  one_more = omega (arith, length-append items (item ∷ []), ap length added)

  place : len - 1 + 1 ≡ length es
  place = filled es e len count last ∙ count

  -- the last entry has it
  pub item_add : with_item said (map (entry_said olds) es) ≡ map (entry_said (map (item_said new) newer)) after
  item_add =
      let ended : EndAt (length olds) es = rw (length-map items (item_said bytes)) placed.ended in
      let above : at ≡ length olds + 1 = omega (arith, one_more, length-map items (item_said bytes)) in
      rw items_add (sym (last_more olds said e at es (len - 1) place last ended above))

  pub item_placed : ArePlaced new newer after
  item_placed = record {
    within = rw added
        (within_more bytes more (length new) items item placed.within
        (omega (arith, ap length grown, length-append bytes more)) (omega arith));
    ended = subst
        (λ k. EndAt k after)
        last_end
        (ended_more e at es (len - 1) (length items) place last placed.ended one_more);
  }

-- a line of an item
module _ (n : ℕ) (r : Reading) (line more last : List ℕ) (kind : ℕ) (bytes : List ℕ) where
  pub item_line_said :
      has_entry r.said.entries ≡ true → number most_short line ≡ Ok (kind, more) → hex more ≡ Ok (bytes, last) →
      over last ≡ Ok tt →
      read_item n r line
      ≡ Ok (with_entries r (with_item (record { kind = kind; bytes = bytes; line = n }) r.said.entries))
  unfolding read_item
  item_line_said h a b c = rw (h, a, b, c) refl
