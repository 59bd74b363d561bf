-- What a check makes of a file: no fault exactly where it is good, and else its first fault, and no other.
-- Assumes nothing.
use Rattle.std.proofs.Common.{◌≡◌, ◌↔◌, ◌⊎◌, inl, inr, ⊎_elim, ℕ, zero, suc, ◌+◌, ◌<◌, ◌≤◌, true, Ok, Err}
use Rattle.std.proofs.Common.{Result, None, List, [], ◌∷◌, length, drop, drop-cons, length-drop, get_or, refl}
use Rattle.std.proofs.Common.{sym, ap, subst, ◌∙◌, arith, add-one}
use Rattle.std.specs.Prelude.{IsOk, IfErr}
use Rattle.std.specs.List.Sorted.{IsNonDecreasing}
use Rattle.std.proofs.lemmas.List.{get_or_default}
use Rattle.std.proofs.lemmas.List.Sorted.{IsNonDecreasingBy-from_all_adjacent}
use Rattle.gsym_reads.specs.Steps.{◌>>=◌, ◌>>◌, need, told}
use Rattle.gsym_reads.proofs.Steps.{by_test}
use Rattle.gsym_types.specs.declared.Refusal.{Refusal}
use Rattle.gsym_parser.specs.View.{View}
use Rattle.gsym_parser.specs.Header.{opened_of}
use Rattle.gsym_parser.specs.Search.{is_width, entries_of}
use Rattle.gsym_parser.proofs.Table.{table-full}
use Rattle.gsym_parser.proofs.Unopened.{opened_refused}
use Rattle.gsym_resolver.specs.SharedTables.{shared_tables}
use Rattle.gsym_verify.specs.Content.{contents_from}
use Rattle.gsym_verify.specs.Check.{entries_checked, content_checked, check_of}
use Rattle.gsym_verify.specs.Good.{GoodEntry, Good}
use Rattle.gsym_verify.specs.Faults.{NotBelow, EntryFault, IsFirstFault, unopened, offset_size, in_entry}
use Rattle.gsym_verify.specs.declared.finding.Fault.{Fault}
use Rattle.gsym_verify.specs.declared.finding.Finding.{Finding}
use Rattle.gsym_verify.specs.declared.finding.Finding.TheVariants.{Tables, OffsetSize, Entry}
use Rattle.gsym_verify.proofs.Data.{before_of, at_entry, EntrySettled, entry_settles, entry_good_is, entry_faulty}

this-or-later : (i j : ℕ) → i ≤ j → (i ≡ j) ⊎ (suc i ≤ j)
this-or-later zero zero l = inl refl
this-or-later zero (suc j) l = inr (omega arith)
this-or-later (suc i) zero l = absurd (omega (arith, l))
this-or-later (suc i) (suc j) l =
    ⊎_elim
    (λ (e : i ≡ j). inl (ap suc e))
    (λ (m : suc i ≤ j). inr (omega (arith, m)))
    (this-or-later i j (omega (arith, l)))

-- ---- the entries

module _ (v : View) where
  strings : List ℕ
  strings = (shared_tables v).strings

  -- an entry that has no fault
  abbrev Fine : ℕ → Type 0
  Fine j = NotBelow v j × GoodEntry v j

  -- from an index on, the first entry with a fault
  record FaultFrom (i : ℕ) (x : Finding) : Type 0 where
    index : ℕ
    fault : Fault
    is : x ≡ Entry index fault
    from : i ≤ index
    below : index < length (entries_of v)
    each : (j : ℕ) → i ≤ j → j < index → Fine j
    faulty : EntryFault v index fault

  abbrev EntriesSettled : ℕ → Result (Unit {0}) Finding → Type 0
  EntriesSettled i (Ok u) = (j : ℕ) → i ≤ j → j < length (entries_of v) → Fine j
  EntriesSettled i (Err x) = FaultFrom i x

  -- the entry at the front of those from an index on
  front :
      (i e : ℕ) (es : List ℕ) → drop i (entries_of v) ≡ e ∷ es →
      (i < length (entries_of v)) × (get_or (entries_of v) i 0 ≡ e) × (drop (suc i) (entries_of v) ≡ es)
  front i e es p =
      let n : length (drop i (entries_of v)) ≡ suc (length es) = ap length p in
      let l : i < length (entries_of v) = omega (arith, n, length-drop i (entries_of v)) in
      let q : get_or (entries_of v) i 0 ∷ drop (suc i) (entries_of v) ≡ e ∷ es =
      sym (drop-cons (entries_of v) i 0 l) ∙ p in
      (l, cc, cc)

  past : (i : ℕ) → drop i (entries_of v) ≡ [] → length (entries_of v) ≤ i
  past i p =
      let n : length (drop i (entries_of v)) ≡ 0 = ap length p in
      omega (arith, n, length-drop i (entries_of v))

  entries_settle :
      (es : List ℕ) (i : ℕ) → drop i (entries_of v) ≡ es →
      EntriesSettled i (entries_checked (shared_tables v).strings (before_of v i) i (contents_from v i es))
  unfolding entries_checked contents_from
  entries_settle [] i p = λ j l m. absurd (omega (arith, past i p, l, m))
  entries_settle (e ∷ es) i p =
      let f = front i e es p in
      rw (← f.1, add-one i)
      (go f.0 (at_entry v i) (entry_settles v i)
      (entries_checked (shared_tables v).strings (before_of v (suc i)) (suc i) (contents_from v (suc i) es))
      (entries_settle es (suc i) f.2))
    where
      later : Fine i → (y : Result (Unit {0}) Finding) → EntriesSettled (suc i) y → EntriesSettled i y
      later g (Ok u) t = λ j l m.
          ⊎_elim
          (λ (e : i ≡ j). subst Fine e g)
          (λ (k : suc i ≤ j). t j k m)
          (this-or-later i j l)
      later g (Err x) t = record {
        index = t.index;
        fault = t.fault;
        is = t.is;
        from = omega (arith, t.from);
        below = t.below;
        each = λ j l m.
            ⊎_elim
            (λ (e : i ≡ j). subst Fine e g)
            (λ (k : suc i ≤ j). t.each j k m)
            (this-or-later i j l);
        faulty = t.faulty;
      }

      go :
          i < length (entries_of v) → (x : Result (Unit {0}) Fault) → EntrySettled v i x →
          (y : Result (Unit {0}) Finding) → EntriesSettled (suc i) y → EntriesSettled i (told (Entry i) x >> y)
      go l (Ok u) s y t = later s y t
      go l (Err f) s y t = record {
        index = i;
        fault = f;
        is = refl;
        from = omega arith;
        below = l;
        each = λ j a b. absurd (omega (arith, a, b));
        faulty = s;
      }

  entries_good :
      (es : List ℕ) (i : ℕ) → drop i (entries_of v) ≡ es →
      ((j : ℕ) → j < length (entries_of v) → Fine j) →
      entries_checked (shared_tables v).strings (before_of v i) i (contents_from v i es) ≡ Ok tt
  unfolding entries_checked contents_from
  entries_good [] i p g = refl
  entries_good (e ∷ es) i p g =
      let f = front i e es p in
      let h = g i f.0 in
      rw (← f.1, add-one i)
      (rw (entry_good_is v i h.0 h.1) (entries_good es (suc i) f.2 g))

  entries_faulty :
      (es : List ℕ) (i : ℕ) → drop i (entries_of v) ≡ es →
      (index : ℕ) (fault : Fault) → i ≤ index → index < length (entries_of v) →
      ((j : ℕ) → j < index → Fine j) → EntryFault v index fault →
      entries_checked (shared_tables v).strings (before_of v i) i (contents_from v i es) ≡ Err (Entry index fault)
  unfolding entries_checked contents_from
  entries_faulty [] i p index fault l m g f = absurd (omega (arith, past i p, l, m))
  entries_faulty (e ∷ es) i p index fault l m g f =
      let q = front i e es p in
      rw (← q.1, add-one i)
      (⊎_elim
      (λ (z : i ≡ index).
      let k : EntryFault v i fault = subst (λ (n : ℕ). EntryFault v n fault) (sym z) f in
      rw (entry_faulty v i fault k) (ap (λ (n : ℕ). Err (Entry n fault)) z))
      (λ (k : suc i ≤ index).
      let h = g i (omega (arith, k)) in
      rw (entry_good_is v i h.0 h.1) (entries_faulty es (suc i) q.2 index fault k m g f))
      (this-or-later i index l))

  -- that no entry is below the one before it is that the table never falls
  below_none : ((j : ℕ) → j < length (entries_of v) → NotBelow v j) → IsNonDecreasing (entries_of v)
  below_none r =
      IsNonDecreasingBy-from_all_adjacent (λ x. x) (entries_of v) (λ k d l.
      rw (get_or_default (entries_of v) k d 0 (omega arith), get_or_default (entries_of v) (k + 1) d 0 l)
      (r (k + 1) l k (add-one k)))

  below_each : IsNonDecreasing (entries_of v) → (i : ℕ) → i < length (entries_of v) → NotBelow v i
  below_each up i l j z = up j i 0 (omega (arith, z)) l

-- ---- a file

module _ (file : List ℕ) where
  abbrev CheckSettled : Result (Unit {0}) Finding → Type 0
  CheckSettled (Ok u) = Good file
  CheckSettled (Err x) = IsFirstFault file x

  settles : CheckSettled (check_of file)
  unfolding check_of content_checked
  settles = open_cases (opened_of file) refl
    where
      entries :
          (v : View) → opened_of file ≡ Ok v → is_width v.tables.offset_size ≡ true →
          (x : Result (Unit {0}) Finding) → EntriesSettled v 0 x → CheckSettled x
      entries v e w (Ok u) s =
          let n : (j : ℕ) → j < length (entries_of v) → NotBelow v j × GoodEntry v j = λ j l. s j (omega arith) l in
          record {
            view = v;
            opens = e;
            width = w;
            never_falls = below_none v (λ j l. (n j l).0);
            entries = λ i l. (n i (omega (arith, l, table-full v w))).1;
          }
      entries v e w (Err x) s =
          subst (IsFirstFault file) (sym s.is)
          (in_entry v e w (omega (arith, s.below, table-full v w)) (λ j l. s.each j (omega arith) l) s.faulty)

      open_cases :
          (x : Result View Refusal) → opened_of file ≡ x →
          CheckSettled (told Tables x >>= λ v. need (is_width v.tables.offset_size) OffsetSize
          >> entries_checked (shared_tables v).strings None 0 (contents_from v 0 (entries_of v)))
      open_cases (Err r) e = unopened ((opened_refused file r).0 e)
      open_cases (Ok v) e =
          by_test CheckSettled (is_width v.tables.offset_size) OffsetSize _ (offset_size v e)
          (λ w. entries v e w _ (entries_settle v (entries_of v) 0 refl))

  good-passes : Good file → check_of file ≡ Ok tt
  unfolding check_of content_checked
  good-passes G =
      let n = table-full G.view G.width in
      rw (G.opens, G.width)
      (entries_good G.view (entries_of G.view) 0 refl
      (λ j l. (below_each G.view G.never_falls j l, G.entries j (omega (arith, l, n)))))

  pub only_fault : (x : Finding) → IsFirstFault file x → check_of file ≡ Err x
  unfolding check_of content_checked
  only_fault x (unopened {r} u) = rw ((opened_refused file r).1 u) refl
  only_fault x (offset_size v e w) = rw (e, w) refl
  only_fault x (in_entry {i} {f} v e w l g s) =
      rw (e, w)
      (entries_faulty v (entries_of v) 0 refl i f (omega arith) (omega (arith, l, table-full v w)) g s)

  pub passes : IsOk (check_of file) ↔ Good file
  passes = (λ h. go (check_of file) h settles, λ G. rw (good-passes G) refl)
    where
      go : (x : Result (Unit {0}) Finding) → IsOk x → CheckSettled x → Good file
      go (Ok u) h s = s
      go (Err x) h s = absurd cc

  pub finds_first : (x : Finding) → check_of file ≡ Err x → IsFirstFault file x
  finds_first x e = subst CheckSettled e settles

  -- ---- as a function tells it

  module _ (r : Result (Unit {0}) Finding) (E : r ≡ check_of file) where
    pub check_passes : IsOk r ↔ Good file
    check_passes = rw E passes

    pub check_first : IfErr r (λ x. IsFirstFault file x)
    check_first = go r E
      where
        go : (x : Result (Unit {0}) Finding) → x ≡ check_of file → IfErr x (λ y. IsFirstFault file y)
        go (Ok u) e = tt
        go (Err x) e = finds_first x (sym e)

    pub check_only : (x : Finding) → IsFirstFault file x → r ≡ Err x
    check_only x f = E ∙ only_fault x f
