-- Division of a byte by a number from 1 to 255, as a product with that number's factor and a shift.
-- Assumes nothing.
use Rattle.std.proofs.Common.{◌≡◌, ℕ, suc, ◌+◌, ◌-◌, ◌*◌, ◌/◌, ◌%◌, ◌^◌, ◌<◌, ◌≤◌, sym, ap, ◌∙◌, subst, le_trans}
use Rattle.std.proofs.Common.{le_of_eq, le_refl, lt_of_lt_of_le, lt_of_le_of_lt, mul-le-mul_right, mul_assoc}
use Rattle.std.proofs.Common.{lt-suc_self, add-lt-add_of_le_of_lt, suc-mul, div-lt_iff_lt-mul, lt_of_mul-lt-mul_right}
use Rattle.std.proofs.Common.{mul-le-mul_left, div-add-mod', mul-add, div-le_self, mul_right_comm, div-mul-le_self}
use Rattle.std.proofs.Common.{add-one, arith}
use native.Mathlib.Nat.{lt-div-mul-add, div-eq_of_lt-le}

-- ---- n / d is the quotient of n * m by w, where m * d is at least w and exceeds it by at most e, and n * e is below w
-- (Granlund and Montgomery, "Division by invariant integers using multiplication", theorem 4.2)

module _ (d m w n : ℕ) where
  quotient_le : w ≤ m * d → n / d * w ≤ n * m
  quotient_le low =
      le_trans (mul-le-mul_left (n / d) low)
      (le_trans (le_of_eq (sym (mul_assoc (n / d) m d) ∙ mul_right_comm (n / d) m d))
      (mul-le-mul_right m (div-mul-le_self n d)))

  next_le : 0 < d → n * w + w ≤ suc (n / d) * w * d
  next_le some =
      le_trans (le_of_eq (sym (suc-mul n w)))
      (le_trans (mul-le-mul_right w ((div-lt_iff_lt-mul some).0 (lt-suc_self (n / d))))
      (le_of_eq (mul_right_comm (suc (n / d)) d w)))

  quotient-lt : (e : ℕ) → 0 < d → m * d ≤ w + e → n * e < w → n * m < suc (n / d) * w
  quotient-lt e some high small =
      let most : n * m * d ≤ n * w + n * e =
      le_trans (le_of_eq (mul_assoc n m d)) (le_trans (mul-le-mul_left n high) (le_of_eq (mul-add n w e))) in
      lt_of_mul-lt-mul_right d
      (lt_of_lt_of_le (lt_of_le_of_lt most (add-lt-add_of_le_of_lt (le_refl (n * w)) small)) (next_le some))

  pub divided : (e : ℕ) → 0 < d → w ≤ m * d → m * d ≤ w + e → n * e < w → n * m / w ≡ n / d
  divided e some low high small =
      div-eq_of_lt-le w (quotient_le low)
      (subst (λ (x : ℕ). n * m < x * w) (sym (add-one (n / d))) (quotient-lt e some high small))

-- ---- the factor of a range

module _ (d m : ℕ) (some : 0 < d) (few : d < 256) (times : m ≡ 65536 / d + 1) where
  product : m * d ≡ 65536 / d * d + d
  product = rw times (omega (arith, add-one (65536 / d)))

  pub factor-most : m ≤ 65537
  factor-most = omega (arith, div-le_self 65536 d)

  module _ (a : ℕ) (byte : a < 256) where
    pub product_small : a * m < 2 ^ 32
    product_small =
        let most : a * m ≤ 255 * m = mul-le-mul_right m (omega arith) in
        omega (arith, factor-most)

    pub quotient : a * m / 65536 ≡ a / d
    quotient =
        divided d m 65536 a 256 some
        (omega (arith, product, lt-div-mul-add {a = 65536} {b = d} some))
        (omega (arith, product, div-mul-le_self 65536 d))
        (omega arith)

    pub quotient-back : (a * m / 65536 * d ≤ a) × (a - a * m / 65536 * d ≡ a % d)
    quotient-back =
        let q : a * m / 65536 * d ≡ a / d * d = ap (λ n. n * d) quotient in
        (omega (arith, div-mul-le_self a d), omega (arith, div-add-mod' a d))
