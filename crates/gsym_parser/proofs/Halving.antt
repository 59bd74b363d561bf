-- The halving search one turn at a time, with nothing said of how many turns there are; and each way out of the code.
-- Assumes nothing.
use Rattle.std.proofs.Common.{Some, None, ◌≡◌, ℕ, zero, suc, ◌+◌, ◌-◌, ◌/◌, ◌<◌, ◌≤◌, leb, List, length, get_or, refl}
use Rattle.std.proofs.Common.{Bool, true, false, sym, ◌∙◌, ap, ⊎_elim}
use Rattle.std.proofs.Common.{arith, le-ltb, lt-ltb, eq-eqb, ne_eqb, le-leb, if◌then◌else◌, cond}
use Rattle.std.proofs.lemmas.Bool.{cases_lt, lt-leb}
use Rattle.gsym_parser.specs.Search.{halving, halved_from, run_start, find_in}

-- the index after a turn
abbrev pub moved : List ℕ → ℕ → ℕ → ℕ → ℕ
moved table wanted lo half = if leb (get_or table (lo + half) 0) wanted then lo + half else lo

module _ (table : List ℕ) (wanted : ℕ) where
  -- any number of turns that is not below the length gives the same
  enough : (k j lo len : ℕ) → len ≤ k → len ≤ j → halving k table wanted lo len ≡ halving j table wanted lo len
  unfolding halving
  enough zero zero lo len p q = refl
  enough zero (suc j) lo len p q = let s : len ≤ 1 = omega arith in rw (le-leb _ _ s)
  enough (suc k) zero lo len p q = let s : len ≤ 1 = omega arith in rw (le-leb _ _ s)
  enough (suc k) (suc j) lo len p q =
      ⊎_elim
      (λ (l : 1 < len). let half : ℕ = len / 2 in
      ap (cond (leb len 1) lo) (enough k j (moved table wanted lo half) (len - half) (omega arith) (omega arith)))
      (λ (l : len ≤ 1). rw (le-leb _ _ l))
      (cases_lt 1 len)

  pub halved-from-end : (lo len : ℕ) → len ≤ 1 → halved_from table wanted lo len ≡ lo
  unfolding halved_from halving
  halved-from-end lo zero h = refl
  halved-from-end lo (suc len) h = rw (le-leb _ _ h)

  turn-among : (lo len : ℕ) → 1 < len
      → halved_from table wanted lo len ≡ halved_from table wanted (moved table wanted lo (len / 2)) (len - len / 2)
  unfolding halved_from halving
  turn-among lo zero h = absurd (omega arith)
  turn-among lo (suc len) h =
      rw (lt-leb _ _ h)
      (enough len (suc len - suc len / 2) (moved table wanted lo (suc len / 2)) (suc len - suc len / 2) (omega arith)
      (omega arith))

  -- where no more than one entry is left a turn changes nothing
  stays_at : (lo half : ℕ) (b : Bool) → half ≡ 0 → (if b then lo + half else lo) ≡ lo
  stays_at lo half true z = omega arith
  stays_at lo half false z = refl

  pub halved-from-turn : (lo len : ℕ)
      → halved_from table wanted lo len ≡ halved_from table wanted (moved table wanted lo (len / 2)) (len - len / 2)
  halved-from-turn lo len =
      ⊎_elim
      (λ (l : 1 < len). turn-among lo len l)
      (λ (l : len ≤ 1).
      halved-from-end lo len l
      ∙ sym
      (halved-from-end (moved table wanted lo (len / 2)) (len - len / 2) (omega arith)
      ∙ stays_at lo (len / 2) (leb (get_or table (lo + len / 2) 0) wanted) (omega arith)))
      (cases_lt 1 len)

  -- the ways out
  pub find-empty : length table ≡ 0 → None ≡ find_in table wanted
  unfolding find_in
  find-empty h = rw (eq-eqb _ _ h)

  pub find-above : (length table ≡ 0 → ⊥) → wanted < get_or table 0 0 → None ≡ find_in table wanted
  unfolding find_in
  find-above n h = rw (ne_eqb _ _ n, lt-ltb _ _ h)

  pub find_at : (i : ℕ) → (length table ≡ 0 → ⊥) → get_or table 0 0 ≤ wanted
      → run_start table (halved_from table wanted 0 (length table)) ≡ i → Some i ≡ find_in table wanted
  unfolding find_in
  find_at i n h e = rw (ne_eqb _ _ n, le-ltb _ _ h, e)
