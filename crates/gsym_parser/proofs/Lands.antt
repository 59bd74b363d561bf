-- A table that never falls: the search comes to the first of the greatest entries that aren't above, counted along the
-- table, and so does the search for an address among the entries' addresses, whatever the base and the offset size.
-- Assumes nothing.
use Rattle.std.proofs.Common.{Option, Some, None, ◌≡◌, ℕ, zero, suc, ◌+◌, ◌-◌, ◌<◌, ◌≤◌, Bool, true, false}
use Rattle.std.proofs.Common.{List, [], ◌∷◌, map, length, get_or, sym, refl, ap, ◌∙◌, inl, inr, ⊎_elim, arith, le-ltb}
use Rattle.std.proofs.Common.{lt-ltb, le-leb, leb, ltb, if◌then◌else◌}
use lib.ListN.{length-map}
use Rattle.std.specs.Prelude.{option_map}
use Rattle.std.specs.List.Sorted.{IsNonDecreasing}
use Rattle.std.proofs.lemmas.Bool.{cases_lt, lt-leb}
use Rattle.gsym_types.specs.declared.Address.{Address}
use Rattle.gsym_parser.specs.View.{View}
use Rattle.gsym_parser.specs.Search.{find_in, entries_of, find_of, is_better, land_from, land_of, addresses_of}
use Rattle.gsym_parser.specs.Search.{FirstOfGreatest}
use Rattle.gsym_parser.proofs.Choice.{Right, find-right, allowed-first}

-- every entry is above
abbrev pub AllAbove : List ℕ → ℕ → Type 0
AllAbove table wanted = (j : ℕ) → j < length table → wanted < get_or table j 0

-- the best so far is less than an entry, if there is one
abbrev IsLess : Option (ℕ × ℕ) → ℕ → Type 0
IsLess None e = Unit {0}
IsLess (Some best) e = best.1 < e

is-better : (best : Option (ℕ × ℕ)) (e : ℕ) → IsLess best e → is_better best e ≡ true
is-better None e l = refl
is-better (Some best) e l = lt-ltb _ _ l

module _ (wanted : ℕ) where
  -- the best stays where each entry is above or no greater
  stays :
      (k : ℕ) (table : List ℕ) (i best : ℕ) →
      ((j : ℕ) → j < length table → get_or table j 0 ≤ wanted → get_or table j 0 ≤ best) →
      land_from k table wanted (Some (i, best)) ≡ Some (i, best)
  unfolding land_from
  stays k [] i best a = refl
  stays k (e ∷ es) i best a =
      let rest = stays (k + 1) es i best (λ j l. a (suc j) (omega arith)) in
      ⊎_elim
      (λ (m : wanted < e). rw (lt-leb _ _ m) rest)
      (λ (m : e ≤ wanted). rw (le-leb _ _ m, le-ltb _ _ (a 0 (omega arith) m)) rest)
      (cases_lt wanted e)

  -- the best so far is less than entry i, which isn't above; then it is the best in the end, if none is greater and all
  -- before it are less
  comes :
      (k : ℕ) (table : List ℕ) (best : Option (ℕ × ℕ)) (i : ℕ) → i < length table → get_or table i 0 ≤ wanted →
      IsLess best (get_or table i 0) →
      ((j : ℕ) → j < length table → get_or table j 0 ≤ wanted → get_or table j 0 ≤ get_or table i 0) →
      ((j : ℕ) → j < i → get_or table j 0 < get_or table i 0) →
      land_from k table wanted best ≡ Some (k + i, get_or table i 0)
  unfolding land_from
  comes k [] best i h n g a b = absurd (omega arith)
  comes k (e ∷ es) best zero h n g a b =
      let q : k ≡ k + 0 = omega arith in
      rw (le-leb _ _ n, is-better best e g)
      (stays (k + 1) es k e (λ j l. a (suc j) (omega arith)) ∙ ap (λ m. Some (m, e)) q)
  comes k (e ∷ es) best (suc i) h n g a b =
      let q : k + 1 + i ≡ k + suc i = omega arith in
      let rest : (x : Option (ℕ × ℕ)) → IsLess x (get_or es i 0) →
      land_from (k + 1) es wanted x ≡ Some (k + suc i, get_or es i 0) =
      λ x l.
      comes (k + 1) es x i (omega arith) n l (λ j m. a (suc j) (omega arith)) (λ j m. b (suc j) (omega arith))
      ∙ ap (λ m. Some (m, get_or es i 0)) q in
      ⊎_elim
      (λ (m : wanted < e). rw (lt-leb _ _ m) (rest best g))
      (λ (m : e ≤ wanted). rw (le-leb _ _ m) (by (is_better best e) rest))
      (cases_lt wanted e)
    where
      by :
          (t : Bool) →
          ((x : Option (ℕ × ℕ)) → IsLess x (get_or es i 0) →
          land_from (k + 1) es wanted x ≡ Some (k + suc i, get_or es i 0)) →
          land_from (k + 1) es wanted (if t then Some (k, e) else best) ≡ Some (k + suc i, get_or es i 0)
      by true rest = rest (Some (k, e)) (b 0 (omega arith))
      by false rest = rest best g

  none-stays : (k : ℕ) (table : List ℕ) → AllAbove table wanted → land_from k table wanted None ≡ None
  unfolding land_from
  none-stays k [] a = refl
  none-stays k (e ∷ es) a =
      rw (lt-leb _ _ (a 0 (omega arith))) (none-stays (k + 1) es (λ j l. a (suc j) (omega arith)))

  pub land-none : (table : List ℕ) → AllAbove table wanted → land_of table wanted ≡ None
  unfolding land_of
  land-none table a = ap (option_map (λ best. best.0)) (none-stays 0 table a)

  pub land-first : (table : List ℕ) (i : ℕ) → FirstOfGreatest table wanted i → land_of table wanted ≡ Some i
  unfolding land_of
  land-first table i h =
      let q : 0 + i ≡ i = omega arith in
      ap (option_map (λ best. best.0)) (comes 0 table None i h.inside h.not_above tt h.greatest h.less_before)
      ∙ ap Some q

module _ (table : List ℕ) (wanted : ℕ) (up : IsNonDecreasing table) where
  right-lands : (f : Option ℕ) → Right table wanted f → f ≡ land_of table wanted
  right-lands (Some i) r = sym (land-first wanted table i (allowed-first table wanted up i r.1))
  right-lands None (inl e) = sym (land-none wanted table (λ j l. absurd (omega arith)))
  right-lands None (inr g) = sym (land-none wanted table (λ j l. omega (arith, up 0 j 0 (omega arith) l)))

  -- the search comes to the first of the greatest entries that aren't above
  pub find_lands : find_in table wanted ≡ land_of table wanted
  find_lands = right-lands (find_in table wanted) (find-right table wanted)

-- of any table: the addresses and an address come to the entry that the entries and what is above the base come to
module _ (base : ℕ) where
  moved-le : (a b : ℕ) → leb (base + a) (base + b) ≡ leb a b
  moved-le a b =
      ⊎_elim
      (λ (l : b < a).
      let m : base + b < base + a = omega arith in lt-leb _ _ m ∙ sym (lt-leb _ _ l))
      (λ (l : a ≤ b).
      let m : base + a ≤ base + b = omega arith in le-leb _ _ m ∙ sym (le-leb _ _ l))
      (cases_lt b a)

  moved-lt : (a b : ℕ) → ltb (base + a) (base + b) ≡ ltb a b
  moved-lt a b =
      ⊎_elim
      (λ (l : a < b).
      let m : base + a < base + b = omega arith in lt-ltb _ _ m ∙ sym (lt-ltb _ _ l))
      (λ (l : b ≤ a).
      let m : base + b ≤ base + a = omega arith in le-ltb _ _ m ∙ sym (le-ltb _ _ l))
      (cases_lt a b)

  -- the best so far among the addresses
  abbrev moved : Option (ℕ × ℕ) → Option (ℕ × ℕ)
  moved None = None
  moved (Some best) = Some (best.0, base + best.1)

  moved-better : (best : Option (ℕ × ℕ)) (e : ℕ) → is_better (moved best) (base + e) ≡ is_better best e
  moved-better None e = refl
  moved-better (Some best) e = moved-lt best.1 e

  moved-place : (best : Option (ℕ × ℕ)) → option_map (λ b. b.0) (moved best) ≡ option_map (λ b. b.0) best
  moved-place None = refl
  moved-place (Some best) = refl

  module _ (w : ℕ) where
    moved-step :
        (k e : ℕ) (best : Option (ℕ × ℕ)) →
        (if leb (base + e) (base + w) then if is_better (moved best) (base + e) then Some (k, base + e) else moved best
        else moved best)
        ≡ moved (if leb e w then if is_better best e then Some (k, e) else best else best)
    moved-step k e best = rw (moved-le e w, moved-better best e) (go (leb e w) (is_better best e))
      where
        go :
            (t u : Bool) →
            (if t then if u then Some (k, base + e) else moved best else moved best)
            ≡ moved (if t then if u then Some (k, e) else best else best)
        go true true = refl
        go true false = refl
        go false u = refl

    moved-from :
        (k : ℕ) (es : List ℕ) (best : Option (ℕ × ℕ)) →
        land_from k (map (λ e. base + e) es) (base + w) (moved best) ≡ moved (land_from k es w best)
    unfolding land_from
    moved-from k [] best = refl
    moved-from k (e ∷ es) best =
        ap (land_from (k + 1) (map (λ e. base + e) es) (base + w)) (moved-step k e best)
        ∙ moved-from (k + 1) es (if leb e w then if is_better best e then Some (k, e) else best else best)

    moved-of : (table : List ℕ) → land_of (map (λ e. base + e) table) (base + w) ≡ land_of table w
    unfolding land_of
    moved-of table =
        ap (option_map (λ best. best.0)) (moved-from 0 table None) ∙ moved-place (land_from 0 table w None)

  pub land_moved :
      (table : List ℕ) (addr : ℕ) → base ≤ addr → land_of (map (λ e. base + e) table) addr ≡ land_of table (addr - base)
  land_moved table addr h =
      let q : addr ≡ base + (addr - base) = omega arith in
      ap (land_of (map (λ e. base + e) table)) q ∙ moved-of (addr - base) table

-- the same of addresses
module _ (base : ℕ) (table : List ℕ) (addr : ℕ) where
  abbrev addresses : List ℕ
  addresses = map (λ e. base + e) table

  moved-entry : (j : ℕ) (es : List ℕ) → j < length es → get_or (map (λ e. base + e) es) j 0 ≡ base + get_or es j 0
  moved-entry j [] l = absurd (omega arith)
  moved-entry zero (e ∷ es) l = refl
  moved-entry (suc j) (e ∷ es) l = moved-entry j es (omega arith)

  pub moved-none : ((j : ℕ) → j < length table → addr < base + get_or table j 0) → land_of addresses addr ≡ None
  moved-none a =
      land-none addr addresses
      (λ j l. let m : j < length table = rw length-map at l in omega (arith, moved-entry j table m, a j m))

  pub moved-first :
      (i : ℕ) → base ≤ addr → FirstOfGreatest table (addr - base) i → land_of addresses addr ≡ Some i
  moved-first i h f = land_moved base table addr h ∙ land-first (addr - base) table i f

module _ (v : View) (addr : Address) (up : IsNonDecreasing (entries_of v)) where
  pub find-address : find_of v addr ≡ land_of (addresses_of v) addr.0
  unfolding find_of addresses_of
  find-address =
      ⊎_elim
      (λ (l : addr.0 < v.tables.base.0).
      rw (lt-ltb _ _ l) (sym (moved-none v.tables.base.0 (entries_of v) addr.0 (λ j p. omega arith))))
      (λ (l : v.tables.base.0 ≤ addr.0).
      rw (le-ltb _ _ l)
      (find_lands (entries_of v) (addr.0 - v.tables.base.0) up
      ∙ sym (land_moved v.tables.base.0 (entries_of v) addr.0 l)))
      (cases_lt addr.0 v.tables.base.0)
