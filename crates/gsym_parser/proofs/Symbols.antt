-- The entry that is chosen for an address in a file: what it is, its symbol's address, and where there is none.
-- Assumes nothing.
use Rattle.std.proofs.Common.{Some, None, ◌≡◌, ℕ, ◌+◌, ◌-◌, ◌^◌, ◌<◌, ◌≤◌, Bool, true, false, length, get_or, sym, refl}
use Rattle.std.proofs.Common.{◌∙◌, ⊎_elim, mod-eq_of_lt, arith, le-ltb, lt-ltb}
use Rattle.std.proofs.lemmas.Bool.{cases_lt}
use Rattle.gsym_types.specs.declared.Address.{Address}
use Rattle.gsym_parser.specs.View.{View}
use Rattle.gsym_parser.specs.Search.{is_width, entries_of, find_in, find_of, Allowed, Nowhere}
use Rattle.gsym_parser.specs.Search.{below_base, other_size, no_entries, first_above}
use Rattle.gsym_parser.specs.Entries.{symbol_at}
use Rattle.gsym_parser.proofs.Table.{length-table, len-le, table_none, table-full}
use Rattle.gsym_parser.proofs.Halving.{find-empty, find-above}
use Rattle.gsym_parser.proofs.Choice.{found-allowed, unknown-why}

module _ (v : View) (addr : Address) where
  -- above the base it is the search on the list of entries
  pub find-in-table : v.tables.base.0 ≤ addr.0 → find_of v addr ≡ find_in (entries_of v) (addr.0 - v.tables.base.0)
  unfolding find_of
  find-in-table h = rw (le-ltb _ _ h)

  pub find-below-base : addr.0 < v.tables.base.0 → find_of v addr ≡ None
  unfolding find_of
  find-below-base h = rw (lt-ltb _ _ h)

  -- the chosen entry
  module _ (i : ℕ) (e : find_of v addr ≡ Some i) where
    pub find-base : v.tables.base.0 ≤ addr.0
    find-base =
        ⊎_elim
        (λ (l : addr.0 < v.tables.base.0). let u = find-below-base l in absurd cc)
        (λ (l : v.tables.base.0 ≤ addr.0). l)
        (cases_lt addr.0 v.tables.base.0)

    pub find_of-allowed : Allowed (entries_of v) (addr.0 - v.tables.base.0) i
    find_of-allowed =
        found-allowed (entries_of v) (addr.0 - v.tables.base.0) i (sym (find-in-table find-base) ∙ e)

    pub find-below-count : i < v.tables.count
    find-below-count =
        omega (arith, find_of-allowed.inside, length-table v, len-le v.tables.offset_size v.tables.count)

    -- its symbol's address is the base plus the entry, and never exceeds the address
    pub symbol-is : addr.0 < 2 ^ 64 → (symbol_at v i).0 ≡ v.tables.base.0 + get_or (entries_of v) i 0
    unfolding symbol_at
    symbol-is h = mod-eq_of_lt (omega (arith, find-base, find_of-allowed.not_above))

    pub symbol-le : addr.0 < 2 ^ 64 → (symbol_at v i).0 ≤ addr.0
    symbol-le h = omega (arith, symbol-is h, find-base, find_of-allowed.not_above)

  -- unknown exactly in the cases of RULES
  no_table : length (entries_of v) ≡ 0 → Nowhere v addr
  no_table e = go (is_width v.tables.offset_size) refl
    where
      go : (b : Bool) → is_width v.tables.offset_size ≡ b → Nowhere v addr
      go true q = no_entries (sym (table-full v q) ∙ e)
      go false q = other_size q

  pub find-unknown : find_of v addr ≡ None → Nowhere v addr
  find-unknown e =
      ⊎_elim
      (λ (l : addr.0 < v.tables.base.0). below_base l)
      (λ (l : v.tables.base.0 ≤ addr.0).
      ⊎_elim
      (λ (z : length (entries_of v) ≡ 0). no_table z)
      (λ (g : addr.0 - v.tables.base.0 < get_or (entries_of v) 0 0). first_above g)
      (unknown-why (entries_of v) (addr.0 - v.tables.base.0) (sym (find-in-table l) ∙ e)))
      (cases_lt addr.0 v.tables.base.0)

  empty-unknown : length (entries_of v) ≡ 0 → find_of v addr ≡ None
  empty-unknown e =
      ⊎_elim
      (λ (l : addr.0 < v.tables.base.0). find-below-base l)
      (λ (l : v.tables.base.0 ≤ addr.0).
      find-in-table l ∙ sym (find-empty (entries_of v) (addr.0 - v.tables.base.0) e))
      (cases_lt addr.0 v.tables.base.0)

  pub unknown-find : Nowhere v addr → find_of v addr ≡ None
  unknown-find (below_base h) = find-below-base h
  unknown-find (other_size h) = empty-unknown (table_none v h)
  unknown-find (no_entries h) =
      empty-unknown (omega (arith, length-table v, len-le v.tables.offset_size v.tables.count))
  unknown-find (first_above h) =
      ⊎_elim
      (λ (l : addr.0 < v.tables.base.0). find-below-base l)
      (λ (l : v.tables.base.0 ≤ addr.0).
      ⊎_elim
      (λ (p : 0 < length (entries_of v)).
      find-in-table l ∙ sym (find-above (entries_of v) (addr.0 - v.tables.base.0) (λ z. omega arith) h))
      (λ (p : length (entries_of v) ≤ 0). empty-unknown (omega arith))
      (cases_lt 0 (length (entries_of v))))
      (cases_lt addr.0 v.tables.base.0)
