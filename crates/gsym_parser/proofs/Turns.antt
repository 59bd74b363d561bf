-- The search on the table in place: each turn of the code is a turn of the search on the list, each step to the front
-- one on the list, and each way out its case.
-- Assumes nothing.
use Rattle.std.proofs.Common.{Some, None, ◌≡◌, ℕ, suc, ◌+◌, ◌-◌, ◌*◌, ◌/◌, ◌<◌, ◌≤◌, List, get_or, drop, sym, refl, ap}
use Rattle.std.proofs.Common.{◌∙◌, arith, le-leb}
use Rattle.std.proofs.lemmas.Bool.{lt-leb}
use Rattle.gsym_parser.specs.Search.{entry_number, halved_from, run_start, find_in, entries, with_entry}
use Rattle.gsym_parser.proofs.Table.{length-entries, entry-is}
use Rattle.gsym_parser.proofs.Halving.{halved-from-end, halved-from-turn, find-empty, find-above, find_at}
use Rattle.gsym_parser.proofs.Runs.{run_start-zero, run_start-same, run_start-stop, run_start-entry, run_start-local}

module _ (size n : ℕ) (bytes : List ℕ) (wanted : ℕ) where
  -- the entries in question lie in the table, the choice among them is that among all, and the entry kept is that at lo
  pub record Sofar (lo kept len : ℕ) : Type 0 where
    pub some : 1 ≤ len
    pub inside : lo + len ≤ n
    pub same : halved_from (entries size n bytes) wanted 0 n ≡ halved_from (entries size n bytes) wanted lo len
    pub kept-is : kept ≡ get_or (entries size n bytes) lo 0

  first-is :
      (e : ℕ) → (n ≡ 0 → ⊥) → e ≡ entry_number size (drop (0 * size) bytes) → e ≡ get_or (entries size n bytes) 0 0
  first-is e h r = r ∙ sym (entry-is size n 0 bytes (omega arith))

  pub begins : (n ≡ 0 → ⊥) → (e : ℕ) → e ≡ entry_number size (drop (0 * size) bytes) → Sofar 0 e n
  begins h e r = record { some = omega arith; inside = omega arith; same = refl; kept-is = first-is e h r }

  -- a turn: to the entry in the middle, unless it is above
  module _ (lo kept len e : ℕ) (r : e ≡ entry_number size (drop ((lo + len / 2) * size) bytes))
      (s : Sofar lo kept len) where
    is : e ≡ get_or (entries size n bytes) (lo + len / 2) 0
    is = r ∙ sym (entry-is size n (lo + len / 2) bytes (omega (arith, s.some, s.inside)))

    pub turn-up : (to now : ℕ) → e ≤ wanted → to ≡ lo + len / 2 → now ≡ e → Sofar to now (len - len / 2)
    turn-up to now l p q =
        let m : get_or (entries size n bytes) (lo + len / 2) 0 ≤ wanted = omega (arith, is) in
        record {
          some = omega (arith, s.some);
          inside = omega (arith, s.inside);
          same = s.same ∙ halved-from-turn (entries size n bytes) wanted lo len ∙ rw (le-leb _ _ m, p);
          kept-is = q ∙ is ∙ ap (λ i. get_or (entries size n bytes) i 0) (sym p);
        }

    pub turn-stay : (to now : ℕ) → wanted < e → to ≡ lo → now ≡ kept → Sofar to now (len - len / 2)
    turn-stay to now l p q =
        let m : wanted < get_or (entries size n bytes) (lo + len / 2) 0 = omega (arith, is) in
        record {
          some = omega (arith, s.some);
          inside = omega (arith, s.inside);
          same = s.same ∙ halved-from-turn (entries size n bytes) wanted lo len ∙ rw (lt-leb _ _ m, p);
          kept-is = q ∙ s.kept-is ∙ ap (λ i. get_or (entries size n bytes) i 0) (sym p);
        }

  -- no entries, or the first above
  pub none : n ≡ 0 → None ≡ with_entry (entries size n bytes) (find_in (entries size n bytes) wanted)
  none h =
      ap (with_entry (entries size n bytes))
      (find-empty (entries size n bytes) wanted (length-entries size n bytes ∙ h))

  pub starts-above : (e : ℕ) → (n ≡ 0 → ⊥) → e ≡ entry_number size (drop (0 * size) bytes) → wanted < e
      → None ≡ with_entry (entries size n bytes) (find_in (entries size n bytes) wanted)
  starts-above e h r l =
      ap (with_entry (entries size n bytes))
      (find-above (entries size n bytes) wanted (λ z. h (sym (length-entries size n bytes) ∙ z))
      (omega (arith, first-is e h r)))

  -- halving ends
  pub comes_to : (lo kept len : ℕ) → len ≤ 1 → Sofar lo kept len → lo ≡ halved_from (entries size n bytes) wanted 0 n
  comes_to lo kept len m s = sym (s.same ∙ halved-from-end (entries size n bytes) wanted lo len m)

  pub comes_inside : (lo kept len : ℕ) → Sofar lo kept len → lo < n
  comes_inside lo kept len s = omega (arith, s.some, s.inside)

  pub kept_here : (lo kept len : ℕ) → Sofar lo kept len → kept ≡ entry_number size (drop (lo * size) bytes)
  kept_here lo kept len s = s.kept-is ∙ entry-is size n lo bytes (comes_inside lo kept len s)

  -- the run's start depends on the entries up to its end alone
  run_in : (k : ℕ) → k < n → run_start (entries size n bytes) k ≡ run_start (entries size (k + 1) bytes) k
  run_in k h =
      run_start-local (entries size n bytes) (entries size (k + 1) bytes) k
      (λ j l. entry-is size n j bytes (omega arith) ∙ sym (entry-is size (k + 1) j bytes (omega arith)))

  -- what halving comes to, and where its run starts
  pub ended :
      (e last entry start : ℕ) → (n ≡ 0 → ⊥) → e ≡ entry_number size (drop (0 * size) bytes) → e ≤ wanted
      → last ≡ halved_from (entries size n bytes) wanted 0 n → last < n
      → entry ≡ entry_number size (drop (last * size) bytes)
      → start ≡ run_start (entries size (last + 1) bytes) last
      → Some (start, entry) ≡ with_entry (entries size n bytes) (find_in (entries size n bytes) wanted)
  ended e last entry start h r l q m k d =
      let first : run_start (entries size n bytes) last ≡ start = run_in last m ∙ sym d in
      ap (λ x. Some (start, x))
      (k ∙ sym (entry-is size n last bytes m) ∙ sym (run_start-entry (entries size n bytes) last)
      ∙ ap (λ i. get_or (entries size n bytes) i 0) first)
      ∙ ap (with_entry (entries size n bytes))
      (find_at (entries size n bytes) wanted start (λ z. h (sym (length-entries size n bytes) ∙ z))
      (omega (arith, first-is e h r))
      (ap (run_start (entries size n bytes))
      (ap (halved_from (entries size n bytes) wanted 0) (length-entries size n bytes) ∙ sym q)
      ∙ first))

-- the steps to the front: the start from the run's end is that from here, and the entry here is the run's
module _ (size : ℕ) (bytes : List ℕ) (last entry : ℕ) where
  abbrev table : List ℕ
  table = entries size (last + 1) bytes

  pub record Scanned (i : ℕ) : Type 0 where
    pub inside : i ≤ last
    pub same : run_start table last ≡ run_start table i
    pub equal : entry ≡ entry_number size (drop (i * size) bytes)

  pub scan_begins : entry ≡ entry_number size (drop (last * size) bytes) → Scanned last
  scan_begins r = record { inside = omega arith; same = refl; equal = r }

  module _ (i before : ℕ) (h : 0 < i) (r : before ≡ entry_number size (drop ((i - 1) * size) bytes)) (s : Scanned i)
    where
      here : i ≡ suc (i - 1)
      here = omega arith

      before_is : before ≡ get_or table (i - 1) 0
      before_is = r ∙ sym (entry-is size (last + 1) (i - 1) bytes (omega (arith, s.inside)))

      entry_here : entry ≡ get_or table (suc (i - 1)) 0
      entry_here =
          s.equal ∙ sym (entry-is size (last + 1) i bytes (omega (arith, s.inside))) ∙ ap (λ x. get_or table x 0) here

      pub scan-on : before ≡ entry → Scanned (i - 1)
      scan-on e = record {
        inside = omega (arith, s.inside);
        same = s.same ∙ ap (run_start table) here ∙ run_start-same table (i - 1) (sym before_is ∙ e ∙ entry_here);
        equal = sym e ∙ r;
      }

      pub scan-stops : (before ≡ entry → ⊥) → i ≡ run_start table last
      scan-stops d =
          sym
          (s.same ∙ ap (run_start table) here
          ∙ run_start-stop table (i - 1) (λ z. d (before_is ∙ z ∙ sym entry_here)) ∙ sym here)

  pub scan-ends : (i : ℕ) → i ≤ 0 → Scanned i → i ≡ run_start table last
  scan-ends i h s =
      let z : i ≡ 0 = omega arith in z ∙ sym (s.same ∙ ap (run_start table) z ∙ run_start-zero table)
