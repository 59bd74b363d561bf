-- What is found of addresses that are to rise: that they do, or the lowest that is not above the one before it.
-- Assumes nothing.
use Rattle.std.proofs.Common.{◌≡◌, ℕ, zero, suc, ◌+◌, ◌<◌, ◌≤◌, List, [], ◌∷◌, length, take, refl}
use Rattle.std.proofs.Common.{ap, subst, ◌∙◌, Some, None, Result, Ok, Err, arith}
use Rattle.std.specs.List.{slice_index}
use Rattle.std.specs.List.Sorted.{IsStrictlyIncreasing}
use Rattle.std.proofs.lemmas.Bool.{ltb-true, ltb-false, lt-ltb, le-ltb}
use Rattle.std.specs.Prelude.{nat_lt}
use Rattle.gsym_reads.proofs.Steps.{by_test}
use Rattle.gsym_layout.specs.Given.{GivenEntry, addresses}
use Rattle.gsym_writer.specs.Refused.{LowestNotAbove}
use Rattle.gsym_writer.specs.Writing.{rising}
use Rattle.gsym_writer.specs.declared.error.WriteError.{WriteError}
use Rattle.gsym_writer.specs.declared.error.WriteError.TheVariants.{NotRising}

-- ---- lists that rise

rises_one : (a : ℕ) → IsStrictlyIncreasing (a ∷ [])
rises_one a k l = absurd (omega arith)

rises_cons : (a b : ℕ) (ns : List ℕ) → a < b → IsStrictlyIncreasing (b ∷ ns) → IsStrictlyIncreasing (a ∷ b ∷ ns)
rises_cons a b ns l r zero m = l
rises_cons a b ns l r (suc k) m =
    let n : suc k + 1 ≡ suc (k + 1) = omega arith in
    rw n (r k (omega arith))

rises_first : (a b : ℕ) (ns : List ℕ) → IsStrictlyIncreasing (a ∷ b ∷ ns) → a < b
rises_first a b ns r = r 0 (omega arith)

rises_rest : (a b : ℕ) (ns : List ℕ) → IsStrictlyIncreasing (a ∷ b ∷ ns) → IsStrictlyIncreasing (b ∷ ns)
rises_rest a b ns r k l =
    let n : suc k + 1 ≡ suc (k + 1) = omega arith in
    let h : slice_index (a ∷ b ∷ ns) (suc k) < slice_index (a ∷ b ∷ ns) (suc k + 1) = r (suc k) (omega arith) in
    rw n at h

-- ---- behind an address

-- the lowest that is not above, counted from the one behind that address
record LowestFrom (b i : ℕ) (es : List GivenEntry) (e : WriteError) : Type 0 where
  index : ℕ
  is : e ≡ NotRising (i + index)
  inside : index < length es
  rises : IsStrictlyIncreasing (b ∷ take index (addresses es))
  not_above : slice_index (b ∷ addresses es) (suc index) ≤ slice_index (b ∷ addresses es) index

abbrev SettledFrom : ℕ → ℕ → List GivenEntry → Result (Unit {0}) WriteError → Type 0
SettledFrom b i es (Ok u) = IsStrictlyIncreasing (b ∷ addresses es)
SettledFrom b i es (Err e) = LowestFrom b i es e

settles_from : (es : List GivenEntry) (b i : ℕ) → SettledFrom b i es (rising (Some b) i es)
unfolding rising
settles_from [] b i = rises_one b
settles_from (e ∷ es) b i =
    by_test (SettledFrom b i (e ∷ es)) (nat_lt b e.addr.0) (NotRising i) _
    (λ f. record {
      index = 0;
      is = ap NotRising (omega arith);
      inside = omega arith;
      rises = rises_one b;
      not_above = ltb-false b e.addr.0 f;
    })
    (λ t. go (ltb-true b e.addr.0 t) (rising (Some e.addr.0) (i + 1) es) (settles_from es e.addr.0 (i + 1)))
  where
    go : b < e.addr.0 → (x : Result (Unit {0}) WriteError) → SettledFrom e.addr.0 (i + 1) es x →
        SettledFrom b i (e ∷ es) x
    go l (Ok u) s = rises_cons b e.addr.0 (addresses es) l s
    go l (Err x) s = record {
      index = suc s.index;
      is = s.is ∙ ap NotRising (omega arith);
      inside = omega (arith, s.inside);
      rises = rises_cons b e.addr.0 (take s.index (addresses es)) l s.rises;
      not_above = s.not_above;
    }

rises_ok : (es : List GivenEntry) (b i : ℕ) → IsStrictlyIncreasing (b ∷ addresses es) → rising (Some b) i es ≡ Ok tt
unfolding rising
rises_ok [] b i r = refl
rises_ok (e ∷ es) b i r =
    let l : b < e.addr.0 = rises_first b e.addr.0 (addresses es) r in
    rw (lt-ltb b e.addr.0 l) (rises_ok es e.addr.0 (i + 1) (rises_rest b e.addr.0 (addresses es) r))

lowest_err :
    (es : List GivenEntry) (b i j : ℕ) → j < length es → IsStrictlyIncreasing (b ∷ take j (addresses es)) →
    slice_index (b ∷ addresses es) (suc j) ≤ slice_index (b ∷ addresses es) j →
    rising (Some b) i es ≡ Err (NotRising (i + j))
unfolding rising
lowest_err [] b i j l r n = absurd (omega arith)
lowest_err (e ∷ es) b i zero l r n =
    let z : i ≡ i + 0 = omega arith in
    rw (le-ltb b e.addr.0 n) (ap (λ k. Err (NotRising k)) z)
lowest_err (e ∷ es) b i (suc j) l r n =
    let m : b < e.addr.0 = rises_first b e.addr.0 (take j (addresses es)) r in
    let z : i + 1 + j ≡ i + suc j = omega arith in
    rw (lt-ltb b e.addr.0 m)
    (lowest_err es e.addr.0 (i + 1) j (omega (arith, l)) (rises_rest b e.addr.0 (take j (addresses es)) r) n
    ∙ ap (λ k. Err (NotRising k)) z)

-- ---- of all

pub record FirstNotAbove (es : List GivenEntry) (e : WriteError) : Type 0 where
  pub index : ℕ
  pub is : e ≡ NotRising index
  pub lowest : LowestNotAbove es index

abbrev pub RiseSettled : List GivenEntry → Result (Unit {0}) WriteError → Type 0
RiseSettled es (Ok u) = IsStrictlyIncreasing (addresses es)
RiseSettled es (Err e) = FirstNotAbove es e

pub rise_settles : (es : List GivenEntry) → RiseSettled es (rising None 0 es)
unfolding rising
rise_settles [] = λ k l. absurd (omega arith)
rise_settles (e ∷ es) = go (rising (Some e.addr.0) 1 es) (settles_from es e.addr.0 1)
  where
    go : (x : Result (Unit {0}) WriteError) → SettledFrom e.addr.0 1 es x → RiseSettled (e ∷ es) x
    go (Ok u) s = s
    go (Err x) s = record {
      index = suc s.index;
      is = s.is ∙ ap NotRising (omega arith);
      lowest = record {
        before = s.index;
        next = refl;
        inside = omega (arith, s.inside);
        rises_before = s.rises;
        not_above = s.not_above;
      };
    }

pub rise_ok : (es : List GivenEntry) → IsStrictlyIncreasing (addresses es) → rising None 0 es ≡ Ok tt
unfolding rising
rise_ok [] r = refl
rise_ok (e ∷ es) r = rises_ok es e.addr.0 1 r

pub rise_err : (es : List GivenEntry) (i : ℕ) → LowestNotAbove es i → rising None 0 es ≡ Err (NotRising i)
unfolding rising
rise_err [] i L = absurd (omega (arith, L.inside))
rise_err (e ∷ es) zero L = absurd (omega (arith, L.next))
rise_err (e ∷ es) (suc i) L =
    let q : L.before ≡ i = omega (arith, L.next) in
    let n : slice_index (addresses (e ∷ es)) (suc i) ≤ slice_index (addresses (e ∷ es)) i =
    subst (λ (k : ℕ). slice_index (addresses (e ∷ es)) (suc i) ≤ slice_index (addresses (e ∷ es)) k) q L.not_above in
    lowest_err es e.addr.0 1 i (omega (arith, L.inside)) L.rises_before n ∙ ap (λ k. Err (NotRising k)) (omega arith)
