-- What the search answers: on every table an entry that is allowed, and unknown exactly where there is none to choose;
-- on a table that never falls the first of the greatest that aren't above, and no other index is allowed.
-- Assumes nothing.
use Rattle.std.proofs.Common.{Option, Some, None, ◌≡◌, ℕ, zero, suc, ◌+◌, ◌-◌, ◌/◌, ◌<◌, ◌≤◌, ◌⊎◌, List, length, get_or}
use Rattle.std.proofs.Common.{Bool, true, false, eqb, eqb-true, refl, sym}
use Rattle.std.proofs.Common.{ap, ◌∙◌, subst, inl, inr, ⊎_elim, arith, le-leb}
use borrow.Author.Tests.{eqb-false}
use Rattle.std.specs.List.Sorted.{IsNonDecreasing}
use Rattle.std.proofs.lemmas.Bool.{cases_lt, lt-leb}
use Rattle.gsym_parser.specs.Search.{halving, halved_from, run_start, find_in, Run, Allowed, FirstOfGreatest}
use Rattle.gsym_parser.proofs.Halving.{find-empty, find-above, find_at}
use Rattle.gsym_parser.proofs.Runs.{Starts, run-starts}

-- entry i is the last, or the next one is above
abbrev Ends : List ℕ → ℕ → ℕ → Type 0
Ends table wanted i = (i + 1 ≡ length table) ⊎ (wanted < get_or table (i + 1) 0)

-- what halving comes to: an entry that isn't above, and is the last or has a next one that is above
record Halved (table : List ℕ) (wanted i : ℕ) : Type 0 where
  inside : i < length table
  not_above : get_or table i 0 ≤ wanted
  last : Ends table wanted i

-- what may be answered: an entry that is allowed, where the first isn't above; else unknown
abbrev pub Right : List ℕ → ℕ → Option ℕ → Type 0
Right table wanted (Some i) = (get_or table 0 0 ≤ wanted) × Allowed table wanted i
Right table wanted None = (length table ≡ 0) ⊎ (wanted < get_or table 0 0)

module _ (table : List ℕ) (wanted : ℕ) where
  -- the entries in question end where the table ends, or where an entry is above, or with one that is
  abbrev Ended : ℕ → Type 0
  Ended end = (end ≡ length table) ⊎ ((wanted < get_or table end 0) ⊎ (wanted < get_or table (end - 1) 0))

  at-end : (lo len : ℕ) → 1 ≤ len → len ≤ 1 → lo + len ≤ length table → get_or table lo 0 ≤ wanted → Ended (lo + len)
      → Halved table wanted lo
  at-end lo len p q f n b =
      let e : lo + len ≡ lo + 1 = omega arith in
      record { inside = omega arith; not_above = n; last = ends (subst Ended e b) }
    where
      ends : Ended (lo + 1) → Ends table wanted lo
      ends (inl g) = inl g
      ends (inr (inl g)) = inr g
      ends (inr (inr g)) =
          let e : lo + 1 - 1 ≡ lo = omega arith in
          let h : wanted < get_or table lo 0 = subst (λ x. wanted < get_or table x 0) e g in absurd (omega arith)

  -- an entry in the middle that is above ends the entries in question, or is the last of them
  cut : (lo len : ℕ) → wanted < get_or table (lo + len / 2) 0 → Ended (lo + (len - len / 2))
  cut lo len g =
      ⊎_elim
      (λ (l : len / 2 < len - len / 2).
      let e : lo + len / 2 ≡ lo + (len - len / 2) - 1 = omega arith in
      inr (inr (subst (λ x. wanted < get_or table x 0) e g)))
      (λ (l : len - len / 2 ≤ len / 2).
      let e : lo + len / 2 ≡ lo + (len - len / 2) = omega arith in
      inr (inl (subst (λ x. wanted < get_or table x 0) e g)))
      (cases_lt (len / 2) (len - len / 2))

  halving-halved :
      (k lo len : ℕ) → 1 ≤ len → len ≤ k → lo + len ≤ length table → get_or table lo 0 ≤ wanted → Ended (lo + len)
      → Halved table wanted (halving k table wanted lo len)
  unfolding halving
  halving-halved zero lo len p q f n b = absurd (omega arith)
  halving-halved (suc k) lo len p q f n b =
      ⊎_elim
      (λ (l : 1 < len).
      rw (lt-leb _ _ l)
      (⊎_elim
      (λ (g : wanted < get_or table (lo + len / 2) 0).
      rw (lt-leb _ _ g)
      (halving-halved k lo (len - len / 2) (omega arith) (omega arith) (omega arith) n (cut lo len g)))
      (λ (g : get_or table (lo + len / 2) 0 ≤ wanted).
      let e : lo + len ≡ lo + len / 2 + (len - len / 2) = omega arith in
      rw (le-leb _ _ g)
      (halving-halved k (lo + len / 2) (len - len / 2) (omega arith) (omega arith) (omega arith) g (subst Ended e b)))
      (cases_lt wanted (get_or table (lo + len / 2) 0))))
      (λ (l : len ≤ 1). rw (le-leb _ _ l) (at-end lo len p l f n b))
      (cases_lt 1 len)

  all-halved :
      0 < length table → get_or table 0 0 ≤ wanted → Halved table wanted (halved_from table wanted 0 (length table))
  unfolding halved_from
  all-halved p l =
      halving-halved (length table) 0 (length table) (omega arith) (omega arith) (omega arith) l (inl (omega arith))

  -- the start of the run that ends with it is allowed
  halved-allowed : (k i : ℕ) → Halved table wanted k → Starts table k i → Allowed table wanted i
  halved-allowed k i h s = record {
    inside = omega (arith, h.inside, s.not_after);
    not_above = omega (arith, h.not_above, equal);
    starts_run = s.starts_run;
    next_above = after h.last;
  }
    where
      equal : get_or table i 0 ≡ get_or table k 0
      equal = s.same i (omega arith) s.not_after

      after :
          Ends table wanted k → (j : ℕ) → i < j → j < length table → Run table i j →
          (get_or table j 0 ≡ get_or table i 0 → ⊥) → wanted < get_or table j 0
      after l j p q r d =
          ⊎_elim
          (λ (g : k < j). beyond l (cases_lt (k + 1) j) g)
          (λ (g : j ≤ k). absurd (d (s.same j (omega arith) g ∙ sym equal)))
          (cases_lt k j)
        where
          beyond : Ends table wanted k → (k + 1 < j) ⊎ (j ≤ k + 1) → k < j → wanted < get_or table j 0
          beyond (inl e) t g = absurd (omega arith)
          beyond (inr m) (inl t) g =
              absurd (omega (arith, r (k + 1) (omega (arith, s.not_after)) t, equal, h.not_above))
          beyond (inr m) (inr t) g =
              let e : k + 1 ≡ j = omega arith in subst (λ x. wanted < get_or table x 0) e m

  all-allowed :
      0 < length table → get_or table 0 0 ≤ wanted →
      Allowed table wanted (run_start table (halved_from table wanted 0 (length table)))
  all-allowed p l = halved-allowed _ _ (all-halved p l) (run-starts table (halved_from table wanted 0 (length table)))

  -- on every table
  pub find-right : Right table wanted (find_in table wanted)
  find-right =
      ⊎_elim
      (λ (p : 0 < length table).
      let n : length table ≡ 0 → ⊥ = λ e. omega arith in
      ⊎_elim
      (λ (l : wanted < get_or table 0 0). subst (Right table wanted) (find-above table wanted n l) (inr l))
      (λ (l : get_or table 0 0 ≤ wanted).
      subst (Right table wanted)
      (find_at table wanted (run_start table (halved_from table wanted 0 (length table))) n l refl)
      (l, all-allowed p l))
      (cases_lt wanted (get_or table 0 0)))
      (λ (p : length table ≤ 0).
      let e : length table ≡ 0 = omega arith in subst (Right table wanted) (find-empty table wanted e) (inl e))
      (cases_lt 0 (length table))

  pub found-allowed : (i : ℕ) → find_in table wanted ≡ Some i → Allowed table wanted i
  found-allowed i e = (subst (Right table wanted) e find-right).1

  pub unknown-why : find_in table wanted ≡ None → (length table ≡ 0) ⊎ (wanted < get_or table 0 0)
  unknown-why e = subst (Right table wanted) e find-right

  -- from an allowed entry on the entries are equal, or one that is above comes before
  record Higher (i j : ℕ) : Type 0 where
    place : ℕ
    after : i < place
    up_to_it : place ≤ j
    above : wanted < get_or table place 0

  module _ (i : ℕ) (h : Allowed table wanted i) where
    apart-next :
        (d : ℕ) → i + suc d < length table → Run table i (i + d + 1) → (b : Bool) →
        eqb (get_or table (i + suc d) 0) (get_or table i 0) ≡ b →
        Run table i (i + suc d + 1) ⊎ Higher i (i + suc d)
    apart-next d l r true q =
        inl
        (λ k p t.
        ⊎_elim
        (λ (g : k < i + d + 1). r k p g)
        (λ (g : i + d + 1 ≤ k).
        let z : k ≡ i + suc d = omega arith in ap (λ x. get_or table x 0) z ∙ eqb-true _ _ q)
        (cases_lt k (i + d + 1)))
    apart-next d l r false q =
        inr
        (record {
          place = i + suc d;
          after = omega arith;
          up_to_it = omega arith;
          above = h.next_above (i + suc d) (omega arith) l (λ k p t. r k p (omega arith)) (eqb-false _ _ q);
        })

    apart : (d : ℕ) → i + d < length table → Run table i (i + d + 1) ⊎ Higher i (i + d)
    apart zero l = inl (λ k p q. let z : k ≡ i = omega arith in ap (λ x. get_or table x 0) z)
    apart (suc d) l = go (apart d (omega arith))
      where
        go : Run table i (i + d + 1) ⊎ Higher i (i + d) → Run table i (i + suc d + 1) ⊎ Higher i (i + suc d)
        go (inl r) = apart-next d l r (eqb (get_or table (i + suc d) 0) (get_or table i 0)) refl
        go (inr w) =
            inr
            (record { place = w.place; after = w.after; up_to_it = omega (arith, w.up_to_it); above = w.above })

  first-unique : (i j : ℕ) → FirstOfGreatest table wanted i → FirstOfGreatest table wanted j → i ≡ j
  first-unique i j g h = by (cases_lt i j) (cases_lt j i)
    where
      by : (i < j) ⊎ (j ≤ i) → (j < i) ⊎ (i ≤ j) → i ≡ j
      by (inl l) b = absurd (omega (arith, h.less_before i l, g.greatest j h.inside h.not_above))
      by (inr l) (inl m) = absurd (omega (arith, g.less_before j m, h.greatest i g.inside g.not_above))
      by (inr l) (inr m) = omega arith

  -- on a table that never falls
  module _ (up : IsNonDecreasing table) where
    -- what is allowed is the first of the greatest that aren't above
    pub allowed-first : (i : ℕ) → Allowed table wanted i → FirstOfGreatest table wanted i
    allowed-first i h = record {
      inside = h.inside;
      not_above = h.not_above;
      greatest = λ j l n.
          ⊎_elim
          (λ (g : i < j). beyond j g l n (apart i h (j - i) (omega arith)))
          (λ (g : j ≤ i). up j i 0 g h.inside)
          (cases_lt i j);
      less_before = λ j g. before j (i - 1) (omega arith) (omega arith);
    }
      where
        beyond :
            (j : ℕ) → i < j → j < length table → get_or table j 0 ≤ wanted →
            Run table i (i + (j - i) + 1) ⊎ Higher i (i + (j - i)) → get_or table j 0 ≤ get_or table i 0
        beyond j g l n (inl r) = omega (arith, r j (omega arith) (omega arith))
        beyond j g l n (inr w) = absurd (omega (arith, up w.place j 0 (omega (arith, w.up_to_it)) l, w.above))

        before : (j k : ℕ) → j ≤ k → i ≡ suc k → get_or table j 0 < get_or table i 0
        before j k p e =
            let d : get_or table k 0 ≡ get_or table i 0 → ⊥ = h.starts_run k e in
            omega (arith, d, up j k 0 p (omega (arith, h.inside)), up k i 0 (omega arith) h.inside)

    -- an index that is allowed is the one that is answered, so no other is
    pub allowed-found : (i : ℕ) → Allowed table wanted i → find_in table wanted ≡ Some i
    allowed-found i h = go (find_in table wanted) find-right
      where
        go : (f : Option ℕ) → Right table wanted f → f ≡ Some i
        go (Some j) r = ap Some (first-unique j i (allowed-first j r.1) (allowed-first i h))
        go None (inl e) = absurd (omega (arith, h.inside))
        go None (inr g) = absurd (omega (arith, up 0 i 0 (omega arith) h.inside, h.not_above))
