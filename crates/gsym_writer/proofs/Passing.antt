-- What is found of things that are to pass: that all do, or the lowest that doesn't.
-- Assumes nothing.
use Rattle.std.proofs.Common.{◌≡◌, ◌↔◌, ℕ, zero, suc, ◌+◌, true, false, Bool, List, [], ◌∷◌, take, refl, ap, ◌∙◌}
use Rattle.std.proofs.Common.{Result, Ok, Err, arith, subst, sym}
use Rattle.std.specs.List.{All, list_all}
use Rattle.std.proofs.lemmas.Bool.{and_parts, and_from}
use Rattle.std.proofs.lemmas.List.Elements.{All-nil, All-cons, All-head, All-tail}
use Rattle.gsym_reads.proofs.Steps.{by_test}
use Rattle.gsym_writer.specs.Refused.{Lowest}
use Rattle.gsym_writer.specs.Writing.{all_pass}
use Rattle.gsym_writer.specs.declared.error.WriteError.{WriteError}

module _ {A : Type 0} (passes : A → Bool) (P : A → Type 0) (test : (x : A) → (passes x ≡ true) ↔ P x) where
  unpassed : (x : A) → passes x ≡ false → P x → ⊥
  unpassed x f p = let t = (test x).1 p in absurd cc

  not_passed : (x : A) → (b : Bool) → passes x ≡ b → (P x → ⊥) → b ≡ false
  not_passed x true e n = absurd (n ((test x).0 e))
  not_passed x false e n = refl

  -- the same of all
  pub all_test : (xs : List A) → (list_all passes xs ≡ true) ↔ All P xs
  all_test [] = (λ e. All-nil P, λ a. refl)
  all_test (x ∷ xs) = (
    λ e. let p = and_parts (passes x) (list_all passes xs) e in
        All-cons P x xs ((test x).0 p.0) ((all_test xs).0 p.1),
    λ a. and_from (passes x) (list_all passes xs) ((test x).1 (All-head P x xs a))
        ((all_test xs).1 (All-tail P x xs a)),
  )

  module _ (error : ℕ → WriteError) where
    record LowestFrom (i : ℕ) (xs : List A) (e : WriteError) : Type 0 where
      index : ℕ
      is : e ≡ error (i + index)
      lowest : Lowest P xs index

    abbrev SettledFrom : ℕ → List A → Result (Unit {0}) WriteError → Type 0
    SettledFrom i xs (Ok u) = All P xs
    SettledFrom i xs (Err e) = LowestFrom i xs e

    settles_from : (xs : List A) (i : ℕ) → SettledFrom i xs (all_pass passes error i xs)
    unfolding all_pass
    settles_from [] i = All-nil P
    settles_from (x ∷ xs) i =
        by_test (SettledFrom i (x ∷ xs)) (passes x) (error i) _
        (λ f. record {
          index = 0;
          is = ap error (omega arith);
          lowest = record { this = x; there = refl; each_before = All-nil P; fails = unpassed x f };
        })
        (λ t. go ((test x).0 t) (all_pass passes error (i + 1) xs) (settles_from xs (i + 1)))
      where
        go : P x → (r : Result (Unit {0}) WriteError) → SettledFrom (i + 1) xs r → SettledFrom i (x ∷ xs) r
        go p (Ok u) s = All-cons P x xs p s
        go p (Err e) s = record {
          index = suc s.index;
          is = s.is ∙ ap error (omega arith);
          lowest = record {
            this = s.lowest.this;
            there = s.lowest.there;
            each_before = All-cons P x (take s.index xs) p s.lowest.each_before;
            fails = s.lowest.fails;
          };
        }

    pub all_ok : (xs : List A) (i : ℕ) → All P xs → all_pass passes error i xs ≡ Ok tt
    unfolding all_pass
    all_ok [] i a = refl
    all_ok (x ∷ xs) i a = rw ((test x).1 (All-head P x xs a)) (all_ok xs (i + 1) (All-tail P x xs a))

    err_from : (xs : List A) (i j : ℕ) → Lowest P xs j → all_pass passes error i xs ≡ Err (error (i + j))
    unfolding all_pass
    err_from [] i j L = let t = L.there in absurd cc
    err_from (x ∷ xs) i zero L =
        let q : x ≡ L.this = let t = L.there in cc in
        let n : P x → ⊥ = subst (λ (y : A). P y → ⊥) (sym q) L.fails in
        let z : i ≡ i + 0 = omega arith in
        rw (not_passed x (passes x) refl n) (ap (λ k. Err (error k)) z)
    err_from (x ∷ xs) i (suc j) L =
        let z : i + 1 + j ≡ i + suc j = omega arith in
        rw ((test x).1 (All-head P x (take j xs) L.each_before))
        (err_from xs (i + 1) j (record {
          this = L.this;
          there = L.there;
          each_before = All-tail P x (take j xs) L.each_before;
          fails = L.fails;
        }) ∙ ap (λ k. Err (error k)) z)

    -- ---- of all

    pub record FirstUnpassed (xs : List A) (e : WriteError) : Type 0 where
      pub index : ℕ
      pub is : e ≡ error index
      pub lowest : Lowest P xs index

    abbrev pub PassSettled : List A → Result (Unit {0}) WriteError → Type 0
    PassSettled xs (Ok u) = All P xs
    PassSettled xs (Err e) = FirstUnpassed xs e

    pub pass_settles : (xs : List A) → PassSettled xs (all_pass passes error 0 xs)
    pass_settles xs = go (all_pass passes error 0 xs) (settles_from xs 0)
      where
        go : (r : Result (Unit {0}) WriteError) → SettledFrom 0 xs r → PassSettled xs r
        go (Ok u) s = s
        go (Err e) s = record { index = s.index; is = s.is ∙ ap error (omega arith); lowest = s.lowest }

    pub pass_err : (xs : List A) (i : ℕ) → Lowest P xs i → all_pass passes error 0 xs ≡ Err (error i)
    pass_err xs i L = err_from xs 0 i L ∙ ap (λ k. Err (error k)) (omega arith)
