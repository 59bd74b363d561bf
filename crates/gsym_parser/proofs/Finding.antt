-- What `find_addr` ensures, of the index that the search gives and the entry beside it.
-- Assumes nothing.
use Rattle.std.proofs.Common.{Option, Some, None, ◌≡◌, ◌∙◌, ℕ, ◌+◌, ◌-◌, ◌^◌, ◌<◌, ◌≤◌, get_or, sym, refl, ap}
use Rattle.std.proofs.Common.{arith}
use Rattle.std.specs.List.Sorted.{IsNonDecreasing}
use Rattle.gsym_types.specs.declared.Address.{Address}
use Rattle.gsym_parser.specs.View.{View}
use Rattle.gsym_parser.specs.Search.{entries_of, find_of, with_entry, land_of, addresses_of, Allowed}
use Rattle.gsym_parser.specs.Search.{FirstOfGreatest, Nowhere}
use Rattle.gsym_parser.specs.Entries.{symbol_at}
use Rattle.gsym_parser.proofs.Choice.{allowed-first, allowed-found}
use Rattle.gsym_parser.proofs.Lands.{find-address}
use Rattle.gsym_parser.proofs.Symbols.{find-in-table, find-base, find_of-allowed, symbol-is, find-unknown, unknown-find}

module _ (v : View) (addr : Address) where
  pub found_only :
      IsNonDecreasing (entries_of v) → v.tables.base.0 ≤ addr.0 → (i : ℕ) →
      Allowed (entries_of v) (addr.0 - v.tables.base.0) i → find_of v addr ≡ Some i
  found_only up le i h =
      find-in-table v addr le ∙ allowed-found (entries_of v) (addr.0 - v.tables.base.0) up i h

  none-is : (o : Option ℕ) → None ≡ with_entry (entries_of v) o → o ≡ None
  none-is None e = refl
  none-is (Some i) e = absurd cc

  some-is :
      (o : Option ℕ) (i n : ℕ) → Some (i, n) ≡ with_entry (entries_of v) o →
      (o ≡ Some i) × (n ≡ get_or (entries_of v) i 0)
  some-is None i n e = absurd cc
  some-is (Some j) i n e =
      let b : ◌≡◌ {A = ℕ × ℕ} (i, n) (j, get_or (entries_of v) j 0) = cc in
      let p : i ≡ j = ap (λ x. x.0) b in
      let q : n ≡ get_or (entries_of v) j 0 = ap (λ x. x.1) b in
      (ap Some (sym p), q ∙ ap (λ k. get_or (entries_of v) k 0) (sym p))

  -- no entry
  module _ (e : None ≡ with_entry (entries_of v) (find_of v addr)) where
    pub search_none : None ≡ find_of v addr
    search_none = sym (none-is (find_of v addr) e)

    pub none_only :
        IsNonDecreasing (entries_of v) → v.tables.base.0 ≤ addr.0 → (i : ℕ) →
        Allowed (entries_of v) (addr.0 - v.tables.base.0) i → None ≡ Some i
    none_only up le i h = search_none ∙ found_only up le i h

    pub none_lands : IsNonDecreasing (entries_of v) → None ≡ land_of (addresses_of v) addr.0
    none_lands up = search_none ∙ find-address v addr up

    pub none_nowhere : Nowhere v addr
    none_nowhere = find-unknown v addr (sym search_none)

  -- an entry
  module _ (i n : ℕ) (e : Some (i, n) ≡ with_entry (entries_of v) (find_of v addr)) where
    pub search_some : Some i ≡ find_of v addr
    search_some = sym (some-is (find_of v addr) i n e).0

    pub search_allowed : Allowed (entries_of v) (addr.0 - v.tables.base.0) i
    search_allowed = find_of-allowed v addr i (sym search_some)

    pub some_only :
        IsNonDecreasing (entries_of v) → v.tables.base.0 ≤ addr.0 → (j : ℕ) →
        Allowed (entries_of v) (addr.0 - v.tables.base.0) j → Some i ≡ Some j
    some_only up le j h = search_some ∙ found_only up le j h

    pub some_lands : IsNonDecreasing (entries_of v) → Some i ≡ land_of (addresses_of v) addr.0
    some_lands up = search_some ∙ find-address v addr up

    pub some_nowhere : Nowhere v addr → ⊥
    some_nowhere h = let e = search_some ∙ unknown-find v addr h in absurd cc

    pub search_entry : n ≡ get_or (entries_of v) i 0
    search_entry = (some-is (find_of v addr) i n e).1

    pub search_below : v.tables.base.0 + n ≤ addr.0
    search_below =
        omega (
          arith,
          search_entry,
          find-base v addr i (sym search_some),
          search_allowed.not_above,
        )

    pub search_first : IsNonDecreasing (entries_of v) → FirstOfGreatest (entries_of v) (addr.0 - v.tables.base.0) i
    search_first up = allowed-first (entries_of v) (addr.0 - v.tables.base.0) up i search_allowed

    pub search_symbol : addr.0 < 2 ^ 64 → record { 0 = v.tables.base.0 + n } ≡ symbol_at v i
    search_symbol h =
        let q : v.tables.base.0 + n ≡ (symbol_at v i).0 =
        ap (λ m. v.tables.base.0 + m) search_entry ∙ sym (symbol-is v addr i (sym search_some) h) in
        ap (λ (a : ℕ). record { 0 = a }) q
