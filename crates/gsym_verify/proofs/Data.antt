-- What a check makes of an entry: no fault exactly where it is good, and else its first fault.
-- Assumes nothing.
use Rattle.std.proofs.Common.{◌≡◌, ℕ, zero, suc, ◌+◌, ◌<◌, ◌≤◌, true, false, Ok, Err, Result, Option, Some}
use Rattle.std.proofs.Common.{None, refl, subst, leb, arith, le-leb, get_or}
use Rattle.std.proofs.lemmas.Bool.{leb-true, leb-false, lt-leb}
use Rattle.gsym_reads.proofs.Steps.{by_given, by_test}
use Rattle.gsym_types.specs.declared.Refusal.TheVariants as refused
use Rattle.gsym_inline.specs.Limits.{most_address}
use Rattle.gsym_parser.specs.View.{View}
use Rattle.gsym_parser.specs.Search.{entries_of}
use Rattle.gsym_resolver.specs.EntryData.{EntryData, data_at}
use Rattle.gsym_resolver.specs.SharedTables.{SharedTables, shared_tables, reads_name, HasName}
use Rattle.gsym_resolver.proofs.Strings.{name_read, name_unread}
use Rattle.gsym_verify.specs.Content.{entry_content}
use Rattle.gsym_verify.specs.Check.{is_not_below, list_checked, data_checked, entry_checked}
use Rattle.gsym_verify.specs.Good.{GoodData, GoodEntry, start_of}
use Rattle.gsym_verify.specs.Faults.{DataFault, sum_too_large, unnamed, in_list, NotBelow, EntryFault, falls, no_info}
use Rattle.gsym_verify.specs.Faults.{in_data}
use Rattle.gsym_verify.specs.declared.finding.Fault.{Fault}
use Rattle.gsym_verify.specs.declared.finding.Fault.TheVariants.{FallingTable, SumTooLarge, Refused}
use Rattle.gsym_verify.proofs.Items.{ListSettled, list_settles, list_good, list_faulty}

-- ---- what it says of its symbol

module _ (shared : SharedTables) (symbol : ℕ) (said : EntryData) where
  abbrev DataSettled : Result (Unit {0}) Fault → Type 0
  DataSettled (Ok u) = GoodData shared symbol said
  DataSettled (Err f) = DataFault shared symbol said f

  pub data_settles : DataSettled (data_checked shared.strings symbol said)
  unfolding data_checked reads_name
  data_settles =
      by_test DataSettled (leb (symbol + said.size) most_address) SumTooLarge _
      (λ n. sum_too_large (leb-false (symbol + said.size) most_address n))
      (λ s. by_test DataSettled (reads_name shared said.name) (Refused refused.UnreadName) _
      (λ n. unnamed (leb-true (symbol + said.size) most_address s) ((name_unread shared said.name).0 n))
      (λ n. go (leb-true (symbol + said.size) most_address s) ((name_read shared said.name).0 n)
      (list_checked (record { 0 = symbol }) said.items said.closed)
      (list_settles (record { 0 = symbol }) said.closed said.items)))
    where
      go :
          symbol + said.size ≤ most_address → HasName shared said.name → (x : Result (Unit {0}) Fault) →
          ListSettled (record { 0 = symbol }) said.closed said.items x → DataSettled x
      go s n (Ok u) l = record { sum = s; named = n; items = l.0; closed = l.1 }
      go s n (Err f) l = in_list s n l

  pub data_good_is : GoodData shared symbol said → data_checked shared.strings symbol said ≡ Ok tt
  unfolding data_checked reads_name
  data_good_is G =
      rw (le-leb (symbol + said.size) most_address G.sum, (name_read shared said.name).1 G.named)
      (list_good (record { 0 = symbol }) said.closed said.items G.items G.closed)

  pub data_faulty : (f : Fault) → DataFault shared symbol said f → data_checked shared.strings symbol said ≡ Err f
  unfolding data_checked reads_name
  data_faulty f (sum_too_large l) = rw (lt-leb (symbol + said.size) most_address l) refl
  data_faulty f (unnamed s n) =
      rw (le-leb (symbol + said.size) most_address s, (name_unread shared said.name).1 n) refl
  data_faulty f (in_list s n l) =
      rw (le-leb (symbol + said.size) most_address s, (name_read shared said.name).1 n)
      (list_faulty (record { 0 = symbol }) said.closed said.items f l)

-- ---- an entry

-- where the symbol of the entry before one starts, if there is one
abbrev pub before_of : View → ℕ → Option ℕ
before_of v zero = None
before_of v (suc j) = Some (start_of v j)

module _ (v : View) where
  not-below-if : (i : ℕ) → is_not_below (before_of v i) (start_of v i) ≡ true → NotBelow v i
  not-below-if zero e j z = absurd (omega (arith, z))
  not-below-if (suc k) e j z =
      let l = leb-true (start_of v k) (start_of v (suc k)) e in
      let q : k ≡ j = omega (arith, z) in
      subst (λ (m : ℕ). get_or (entries_of v) m 0 ≤ get_or (entries_of v) (suc k) 0) q (omega (arith, l))

  not-below-then : (i : ℕ) → NotBelow v i → is_not_below (before_of v i) (start_of v i) ≡ true
  not-below-then zero r = refl
  not-below-then (suc k) r = le-leb (start_of v k) (start_of v (suc k)) (omega (arith, r k refl))

  falls-if : (i : ℕ) → is_not_below (before_of v i) (start_of v i) ≡ false → EntryFault v i FallingTable
  falls-if zero e = absurd cc
  falls-if (suc k) e = falls k refl (omega (arith, leb-false (start_of v k) (start_of v (suc k)) e))

  falls-then :
      (i j : ℕ) → i ≡ suc j → get_or (entries_of v) i 0 < get_or (entries_of v) j 0 →
      is_not_below (before_of v i) (start_of v i) ≡ false
  falls-then zero j z l = absurd (omega (arith, z))
  falls-then (suc k) j z l =
      let q : j ≡ k = omega (arith, z) in
      let m : get_or (entries_of v) (suc k) 0 < get_or (entries_of v) k 0 =
      subst (λ (n : ℕ). get_or (entries_of v) (suc k) 0 < get_or (entries_of v) n 0) q l in
      lt-leb (start_of v k) (start_of v (suc k)) (omega (arith, m))

  module _ (i : ℕ) where
    -- the check of an entry, with the one before it
    abbrev pub at_entry : Result (Unit {0}) Fault
    at_entry =
        entry_checked (shared_tables v).strings (before_of v i) (entry_content v i (get_or (entries_of v) i 0))

    abbrev pub EntrySettled : Result (Unit {0}) Fault → Type 0
    EntrySettled (Ok u) = NotBelow v i × GoodEntry v i
    EntrySettled (Err f) = EntryFault v i f

    pub entry_settles : EntrySettled at_entry
    unfolding entry_checked
    entry_settles =
        by_test EntrySettled (is_not_below (before_of v i) (start_of v i)) FallingTable _ (falls-if i)
        (λ r. by_given EntrySettled (Refused refused.UnreadInfo) (data_at v i) _ (no_info (not-below-if i r))
        (λ said e. go (not-below-if i r) said e (data_checked (shared_tables v).strings (start_of v i) said)
        (data_settles (shared_tables v) (start_of v i) said)))
      where
        go :
            NotBelow v i → (said : EntryData) → data_at v i ≡ Some said → (x : Result (Unit {0}) Fault) →
            DataSettled (shared_tables v) (start_of v i) said x → EntrySettled x
        go r said e (Ok u) d = (r, record { said = said; reads = e; good = d })
        go r said e (Err f) d = in_data r said e d

    pub entry_good_is : NotBelow v i → GoodEntry v i → at_entry ≡ Ok tt
    unfolding entry_checked
    entry_good_is r G = rw (not-below-then i r, G.reads) (data_good_is (shared_tables v) (start_of v i) G.said G.good)

    pub entry_faulty : (f : Fault) → EntryFault v i f → at_entry ≡ Err f
    unfolding entry_checked
    entry_faulty f (falls j z l) = rw (falls-then i j z l) refl
    entry_faulty f (no_info r e) = rw (not-below-then i r, e) refl
    entry_faulty f (in_data r said e d) =
        rw (not-below-then i r, e) (data_faulty (shared_tables v) (start_of v i) said f d)
