-- The number of digits, a digit at a time; and that a number of a line is not above its limit.
-- Assumes nothing.
use Rattle.std.proofs.Common.{◌≡◌, ℕ, suc, ◌+◌, ◌*◌, ◌<◌, ◌≤◌, Bool, true, false, List, [], ◌∷◌, length, drop}
use Rattle.std.proofs.Common.{get_or, Option, Some, None, Ok, Err, refl, ap, sym, ◌∙◌, arith, add-one, drop-cons}
use Rattle.std.proofs.Common.{lt-ltb, le-ltb}
use Rattle.std.specs.List.{starts_with}
use Rattle.std.proofs.Math.Dec.{eqb}
use Rattle.std.specs.Prelude.{Result, codes, option_and_then, nat_lt, nat_le, if◌then◌else◌}
use Rattle.std.proofs.Math.ListN.{drop_of_length-le}
use Rattle.std.proofs.Math.Nat.{le-mul_of_pos_right}
use Rattle.std.proofs.lemmas.Bool.{ltb-true, leb-true}
use Rattle.std.proofs.lemmas.Option.{option_and_then_some}
use Rattle.std.proofs.lemmas.Bool.Decides.{nat_tests}
use Rattle.hex.specs.Hex.{hex_digit_value}
use Rattle.gsym_form.specs.Words.{digits_onto, digits_of, at_most, number_of, number, word}
use Rattle.gsym_form.specs.declared.wrong.Wrong.{Wrong}
use Rattle.gsym_form.specs.declared.wrong.Wrong.TheVariants.{Number}
use Rattle.gsym_reads.specs.Steps.{given, ◌>>=◌}

-- ---- a digit more only makes a number greater

greater : (base most v d : ℕ) → most < v → d < base → most < v * base + d
greater base most v d l s = let p : 0 < base = omega (arith, s) in omega (arith, le-mul_of_pos_right {m = base} v p, l)

above-next : (b : Bool) (base most v d : ℕ) (rest : List ℕ) → nat_lt d base ≡ b → most < v →
    ((w : ℕ) → most < w → option_and_then (at_most most) (digits_onto base w rest) ≡ None) →
    option_and_then (at_most most) (if b then digits_onto base (v * base + d) rest else None) ≡ None
above-next true base most v d rest e l h = h (v * base + d) (greater base most v d l (ltb-true d base e))
above-next false base most v d rest e l h = refl

above-by : (o : Option ℕ) (base most v : ℕ) (rest : List ℕ) → most < v →
    ((w : ℕ) → most < w → option_and_then (at_most most) (digits_onto base w rest) ≡ None) →
    option_and_then (at_most most)
    (option_and_then (λ d. if nat_lt d base then digits_onto base (v * base + d) rest else None) o)
    ≡ None
above-by (Some d) base most v rest l h = above-next (nat_lt d base) base most v d rest refl l h
above-by None base most v rest l h = refl

above : (base most v : ℕ) (xs : List ℕ) → most < v → option_and_then (at_most most) (digits_onto base v xs) ≡ None
unfolding digits_onto
above base most v [] l = grind (arith, nat_tests)
above base most v (x ∷ xs) l = above-by (hex_digit_value x) base most v xs l (λ w m. above base most w xs m)

-- ---- what there is no number of

none-by : (base most : ℕ) (xs : List ℕ) → option_and_then (at_most most) (digits_onto base 0 xs) ≡ None →
    digits_of base most xs ≡ None
unfolding digits_of
none-by base most [] h = refl
none-by base most (x ∷ xs) h = h

some-by : (base most v : ℕ) (xs : List ℕ) → 0 < length xs → v ≤ most → digits_onto base 0 xs ≡ Some v →
    digits_of base most xs ≡ Some v
unfolding digits_of
some-by base most v [] n l e = absurd (omega (arith, n))
some-by base most v (x ∷ xs) n l e = rw e (grind (arith, nat_tests))

pub none_of_none : (base most : ℕ) (xs : List ℕ) → length xs ≡ 0 → digits_of base most xs ≡ None
unfolding digits_of
none_of_none base most [] e = refl
none_of_none base most (x ∷ xs) e = absurd (omega (arith, e))

-- ---- the number so far, and the digits from a place on

module _ (base v : ℕ) (xs : List ℕ) (i d : ℕ) where
  pub digits-next : digits_onto base v (drop i xs) ≡ digits_onto base 0 xs → i < length xs →
      hex_digit_value (get_or xs i 0) ≡ Some d → d < base →
      digits_onto base (v * base + d) (drop (i + 1) xs) ≡ digits_onto base 0 xs
  unfolding digits_onto
  digits-next left l e s =
      rw (drop-cons xs i 0 l, add-one i, e, lt-ltb d base s) refl ∙ left

module _ (base most v : ℕ) (xs : List ℕ) (i d : ℕ) (left : digits_onto base v (drop i xs) ≡ digits_onto base 0 xs) where
  left-none : option_and_then (at_most most) (digits_onto base v (drop i xs)) ≡ None → digits_of base most xs ≡ None
  left-none h = none-by base most xs (ap (option_and_then (at_most most)) (sym left) ∙ h)

  pub digits-end : length xs ≤ i → 0 < length xs → v ≤ most → digits_of base most xs ≡ Some v
  unfolding digits_onto
  digits-end l n m =
      let h : digits_onto base v (drop i xs) ≡ Some v = rw (drop_of_length-le xs l) refl in
      some-by base most v xs n m (sym left ∙ h)

  pub digits-above : length xs ≤ i → most < v → digits_of base most xs ≡ None
  digits-above l m = left-none (above base most v (drop i xs) m)

  pub digits-bad : i < length xs → hex_digit_value (get_or xs i 0) ≡ None → digits_of base most xs ≡ None
  unfolding digits_onto
  digits-bad l e = left-none (rw (drop-cons xs i 0 l, e) refl)

  pub digits-high : i < length xs → hex_digit_value (get_or xs i 0) ≡ Some d → base ≤ d → digits_of base most xs ≡ None
  unfolding digits_onto
  digits-high l e s = left-none (rw (drop-cons xs i 0 l, e, le-ltb d base s) refl)

  pub digits-wide : i < length xs → hex_digit_value (get_or xs i 0) ≡ Some d → d < base → most < v * base + d →
      digits_of base most xs ≡ None
  unfolding digits_onto
  digits-wide l e s m =
      left-none
      (rw (drop-cons xs i 0 l, e, lt-ltb d base s) (above base most (v * base + d) (drop (suc i) xs) m))

pub ruleset digits = (digits-next, digits-end, digits-above, digits-bad, digits-high, digits-wide, none_of_none)

-- ---- no number is above its limit

at-most-by : (most v n : ℕ) (b : Bool) → nat_le v most ≡ b → (if b then Some v else None) ≡ Some n → n ≤ most
at-most-by most v n true e h = let k : v ≡ n = cc in omega (arith, leb-true v most e)
at-most-by most v n false e h = absurd cc

at-most : (most v n : ℕ) → at_most most v ≡ Some n → n ≤ most
at-most most v n h = at-most-by most v n (nat_le v most) refl h

digits_of-within : (base most : ℕ) (xs : List ℕ) (n : ℕ) → digits_of base most xs ≡ Some n → n ≤ most
unfolding digits_of
digits_of-within base most [] n h = absurd cc
digits_of-within base most (x ∷ xs) n h =
    option_and_then_some (at_most most) (digits_onto base 0 (x ∷ xs)) n h (λ v e m. at-most most v n m)

number_of-by : (most : ℕ) (w : List ℕ) (n : ℕ) (b : Bool) →
    (if b then digits_of 16 most (drop 2 w) else digits_of 10 most w) ≡ Some n → n ≤ most
number_of-by most w n true h = digits_of-within 16 most (drop 2 w) n h
number_of-by most w n false h = digits_of-within 10 most w n h

-- a number that is read, and what stands behind it
abbrev read : List ℕ → Option ℕ → Result (ℕ × List ℕ) Wrong
read rest o = given Number o >>= (λ n. Ok (n, rest))

abbrev its-number : Result (ℕ × List ℕ) Wrong → ℕ
its-number (Ok r) = r.0
its-number (Err e) = 0

number-in : (most : ℕ) (rest : List ℕ) (o : Option ℕ) (n : ℕ) (end : List ℕ) →
    ((m : ℕ) → o ≡ Some m → m ≤ most) → read rest o ≡ Ok (n, end) → n ≤ most
number-in most rest (Some m) n end h e = let k : m ≡ n = ap its-number e in omega (arith, h m refl)
number-in most rest None n end h e = absurd cc

number-by : (most : ℕ) (o : Option (List ℕ × List ℕ)) (n : ℕ) (end : List ℕ) →
    (given Number o >>= (λ w. read w.1 (number_of most w.0))) ≡ Ok (n, end) → n ≤ most
unfolding number_of
number-by most (Some w) n end e =
    number-in most w.1 (number_of most w.0) n end
    (λ m h. number_of-by most w.0 m (starts_with eqb w.0 (codes "0x")) h)
    e
number-by most None n end e = absurd cc

pub number_within : (most : ℕ) (line : List ℕ) (n : ℕ) (end : List ℕ) → number most line ≡ Ok (n, end) → n ≤ most
unfolding number
number_within most line n end e = number-by most (word line) n end e
