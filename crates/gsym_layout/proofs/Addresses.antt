-- The addresses of entries and their offsets: none is below the base, they rise, and the base plus each offset is the
-- address again.
-- Assumes nothing.
use Rattle.std.proofs.Common.{◌≡◌, ℕ, zero, suc, ◌+◌, ◌-◌, ◌≤◌, List, [], ◌∷◌, Some, map, length, get_or, refl, ap}
use Rattle.std.proofs.Common.{◌∙◌, arith}
use Rattle.std.specs.Prelude.{option_map}
use Rattle.std.specs.List.{All, slice_get}
use Rattle.std.specs.List.Sorted.{IsNonDecreasing, IsStrictlyIncreasing}
use Rattle.std.proofs.lemmas.List.{get_or_default, length-map}
use Rattle.std.proofs.lemmas.List.Elements.{All-head, All-tail}
use Rattle.std.proofs.lemmas.List.Sorted.{IsNonDecreasingBy-from_all_adjacent, IsNonDecreasingBy-from_default}
use Rattle.std.proofs.lemmas.Option.{slice_get-map, slice_get-get_or, slice_get_within, get_or_from_slice_get}
use Rattle.gsym_parser.specs.Search.{land_of}
use Rattle.gsym_parser.proofs.Lands.{land-first}
use Rattle.gsym_layout.specs.Given.{GivenEntry, addresses}
use Rattle.gsym_layout.specs.Layout.{base_of, offsets_of}

-- numbers that rise never fall
rising : (ns : List ℕ) → IsStrictlyIncreasing ns → IsNonDecreasing ns
rising ns up =
    IsNonDecreasingBy-from_all_adjacent (λ n. n) ns (λ k d l.
    rw (get_or_default ns k d 0 (omega arith), get_or_default ns (k + 1) d 0 l) (omega (arith, up k l)))

-- an entry's address among all
address_of : (es : List GivenEntry) (i : ℕ) (e : GivenEntry) → slice_get es i ≡ Some e →
    get_or (addresses es) i 0 ≡ e.addr.0
address_of es i e q =
    get_or_from_slice_get (addresses es) i e.addr.0 0
    (slice_get-map (λ (x : GivenEntry). x.addr.0) es i ∙ ap (option_map (λ (x : GivenEntry). x.addr.0)) q)

offset_of : (base : ℕ) (es : List GivenEntry) (i : ℕ) →
    get_or (map (λ (e : GivenEntry). e.addr.0 - base) es) i 0 ≡ get_or (addresses es) i 0 - base
offset_of base [] i = omega arith
offset_of base (e ∷ es) zero = refl
offset_of base (e ∷ es) (suc i) = offset_of base es i

moved_back : (base : ℕ) (es : List GivenEntry) → All (λ (e : GivenEntry). base ≤ e.addr.0) es →
    map (λ n. base + n) (map (λ (e : GivenEntry). e.addr.0 - base) es) ≡ addresses es
moved_back base [] a = refl
moved_back base (e ∷ es) a =
    let h = All-head (λ (e : GivenEntry). base ≤ e.addr.0) e es a in
    let q : base + (e.addr.0 - base) ≡ e.addr.0 = omega arith in
    rw (q, moved_back base es (All-tail (λ (e : GivenEntry). base ≤ e.addr.0) e es a))

base_first : (es : List GivenEntry) → base_of es ≡ get_or (addresses es) 0 0
unfolding base_of
base_first [] = refl
base_first (e ∷ es) = refl

module _ (es : List GivenEntry) (up : IsStrictlyIncreasing (addresses es)) where
  length_addresses : length (addresses es) ≡ length es
  length_addresses = length-map es (λ (e : GivenEntry). e.addr.0)

  pub base_below : (i : ℕ) (e : GivenEntry) → slice_get es i ≡ Some e → base_of es ≤ e.addr.0
  base_below i e q =
      omega (
        arith,
        base_first es,
        rising (addresses es) up 0 i 0 (omega arith) (omega (arith, slice_get_within es i e q, length_addresses)),
        address_of es i e q,
      )

  base_below_all : All (λ (e : GivenEntry). base_of es ≤ e.addr.0) es
  base_below_all k d l = base_below k (get_or es k d) (slice_get-get_or es k d l)

  pub offsets_up : IsNonDecreasing (offsets_of es)
  unfolding offsets_of
  offsets_up =
      let f = λ (e : GivenEntry). e.addr.0 - base_of es in
      IsNonDecreasingBy-from_default (λ n. n) (map f es) 0 (λ i j p l.
      omega (
        arith,
        offset_of (base_of es) es i,
        offset_of (base_of es) es j,
        rising (addresses es) up i j 0 p (omega (arith, length_addresses, length-map es f)),
      ))

  pub addresses_back : map (λ n. base_of es + n) (offsets_of es) ≡ addresses es
  unfolding offsets_of
  addresses_back = moved_back (base_of es) es base_below_all

  pub address_back : (i : ℕ) (e : GivenEntry) → slice_get es i ≡ Some e →
      base_of es + get_or (offsets_of es) i 0 ≡ e.addr.0
  unfolding offsets_of
  address_back i e q = omega (arith, offset_of (base_of es) es i, address_of es i e q, base_below i e q)

  -- an entry's own address lands on it
  pub own_lands : (i : ℕ) (e : GivenEntry) → slice_get es i ≡ Some e → land_of (addresses es) e.addr.0 ≡ Some i
  own_lands i e q =
      let a = address_of es i e q in
      let l = slice_get_within es i e q in
      land-first e.addr.0 (addresses es) i (record {
        inside = omega (arith, length_addresses);
        not_above = omega arith;
        greatest = λ j m n. omega arith;
        less_before = λ j m.
            omega (
              arith,
              up j (omega (arith, length_addresses)),
              rising (addresses es) up (j + 1) i 0 (omega arith) (omega (arith, length_addresses)),
            );
      })
