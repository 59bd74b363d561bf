-- Sums of whole numbers modulo 2^32 and 2^64: what is left of a number, what is left of a sum, and how a line, an
-- address and a range of the line program are left.
--
-- A number z of `ℤ` is `pos n`, which is n, or `negsuc n`, which is -(n + 1).
-- Assumes nothing.
use Rattle.std.proofs.Common.{◌≡◌, ℕ, zero, suc, ◌+◌, ◌-◌, ◌%◌, ◌^◌, ◌<◌, Bool, true, false, cond, ltb, ℤ, pos, negsuc}
use Rattle.std.proofs.Common.{◌+ℤ◌, ◌-ℤ◌, neg_ℤ, sym, refl, ap, ◌∙◌, mod-lt, mod-eq_of_lt, arith, w64, ltb-false}
use Rattle.std.proofs.Common.{ltb-true, of_z, to_z, FitsSigned}
use lib.IntN.{sub_ℕ, +ℤ_comm}
use lib.Signed.{mag}
use mir.ValLaws.{to_z-Fits, to_z-of_z, of_z-to_z, of_z_fits}
use Rattle.std.specs.Int.{cast_unsigned, int_wrap}
use Rattle.gsym_types.specs.declared.Address.{Address}
use Rattle.gsym_types.specs.declared.LineNumber.{LineNumber}
use Rattle.gsym_linetab.specs.declared.LineTableHeader.{LineTableHeader}
use Rattle.gsym_linetab.specs.Machine.{line_after, addr_after, range_of}

-- the number that 64 bits say
abbrev pub number_of : ℕ → ℤ
number_of b = to_z w64 b

-- the 64 bits of a number
abbrev pub bits_of : ℤ → ℕ
bits_of z = of_z w64 z

-- z modulo m, from 0 to m - 1 (m is not 0): -1 is m - 1, -m is 0
abbrev pub mod_z : ℤ → ℕ → ℕ
mod_z (pos n) m = n % m
mod_z (negsuc n) m = m - suc (n % m)

-- the number from -2^63 to 2^63 - 1 that differs from z by a multiple of 2^64
unfoldable pub wrap : ℤ → ℤ
wrap z = number_of (mod_z z (2 ^ 64))

-- ---- a signed number and its bits

-- the bits of a signed 64-bit number say that number
pub number-of-bits : (z : ℤ) → mag z < 2 ^ 63 → number_of (bits_of z) ≡ z
number-of-bits z h = to_z-of_z w64 z (record { sfits = h })

-- the number that 64 bits say has those bits
pub bits_of_number : (b : ℕ) → b < 2 ^ 64 → bits_of (number_of b) ≡ b
bits_of_number b h = of_z-to_z w64 b (record { fits = h })

-- the bits of a signed 64-bit number are below 2^64
pub bits-lt : (z : ℤ) → mag z < 2 ^ 63 → bits_of z < 2 ^ 64
bits-lt z h = (of_z_fits w64 z (record { sfits = h })).fits

-- a signed 64-bit number whose bits are 0 is 0
pub bits-zero : (z : ℤ) → mag z < 2 ^ 63 → bits_of z ≡ 0 → z ≡ pos 0
bits-zero (pos n) h e = ap pos e
bits-zero (negsuc n) h e = absurd (omega arith)

-- ---- modulo m

-- what is left modulo m is below m
pub mod_z-lt : (z : ℤ) (m : ℕ) → 0 < m → mod_z z m < m
mod_z-lt (pos n) m h = mod-lt n h
mod_z-lt (negsuc n) m h = omega arith

-- a number from 0 to m - 1 is left as it is
pub mod_z-below : (n m : ℕ) → n < m → mod_z (pos n) m ≡ n
mod_z-below n m h = mod-eq_of_lt h

-- what is left modulo 2^64 of a number from -2^64 to 2^64 - 1 is its bits
pub mod_z-bits : (z : ℤ) → mag z < 2 ^ 64 → mod_z z (2 ^ 64) ≡ bits_of z
mod_z-bits (pos n) h = omega arith
mod_z-bits (negsuc n) h = omega arith

-- what is left modulo 2^32 is the low half of what is left modulo 2^64
pub mod_z-32 : (z : ℤ) → mod_z z (2 ^ 64) % 2 ^ 32 ≡ mod_z z (2 ^ 32)
mod_z-32 (pos n) = omega arith
mod_z-32 (negsuc n) = omega arith

-- what is left modulo 2^64 of a - (b + 1), by the order of the two
mod_z-less : (a b : ℕ) → mod_z (sub_ℕ a (suc b)) (2 ^ 64) ≡ (a % 2 ^ 64 + (2 ^ 64 - suc (b % 2 ^ 64))) % 2 ^ 64
mod_z-less a b = by (ltb a (suc b)) refl
  where
    by :
        (t : Bool) → ltb a (suc b) ≡ t →
        mod_z (cond t (negsuc (suc b - suc a)) (pos (a - suc b))) (2 ^ 64)
        ≡ (a % 2 ^ 64 + (2 ^ 64 - suc (b % 2 ^ 64))) % 2 ^ 64
    by true e = omega (arith, ltb-true a (suc b) e)
    by false e = omega (arith, ltb-false a (suc b) e)

-- modulo 2^64 the summands may be reduced first
pub mod_z-add : (x y : ℤ) → mod_z (x +ℤ y) (2 ^ 64) ≡ (mod_z x (2 ^ 64) + mod_z y (2 ^ 64)) % 2 ^ 64
mod_z-add (pos a) (pos b) = omega arith
mod_z-add (pos a) (negsuc b) = mod_z-less a b
mod_z-add (negsuc a) (pos b) = mod_z-less b a ∙ ap (λ n. n % 2 ^ 64) (omega arith)
mod_z-add (negsuc a) (negsuc b) = omega arith

-- modulo 2^64 a number may be reduced before its sign is turned
pub mod_z-neg : (z : ℤ) → mod_z (neg_ℤ z) (2 ^ 64) ≡ (2 ^ 64 - mod_z z (2 ^ 64)) % 2 ^ 64
mod_z-neg (pos zero) = refl
mod_z-neg (pos (suc n)) = omega arith
mod_z-neg (negsuc n) = omega arith

-- ---- wrapping

-- a signed 64-bit number is wrapped to itself
pub wrap-fits : (z : ℤ) → mag z < 2 ^ 63 → wrap z ≡ z
unfolding wrap
wrap-fits z h = ap number_of (mod_z-bits z (omega arith)) ∙ number-of-bits z h

-- what is wrapped is a signed 64-bit number
pub wrap-mag : (z : ℤ) → mag (wrap z) < 2 ^ 63
unfolding wrap
wrap-mag z = (to_z-Fits w64 (mod_z z (2 ^ 64)) (record { fits = mod_z-lt z (2 ^ 64) (omega arith) })).sfits

-- the bits of what is wrapped are what is left of it modulo 2^64
pub wrap-bits : (z : ℤ) → bits_of (wrap z) ≡ mod_z z (2 ^ 64)
unfolding wrap
wrap-bits z = bits_of_number (mod_z z (2 ^ 64)) (mod_z-lt z (2 ^ 64) (omega arith))

-- wrapping leaves the same modulo 2^64
pub mod_z-wrap : (z : ℤ) → mod_z (wrap z) (2 ^ 64) ≡ mod_z z (2 ^ 64)
mod_z-wrap z = mod_z-bits (wrap z) (omega (arith, wrap-mag z)) ∙ wrap-bits z

-- modulo 2^64 a summand may be wrapped first
pub mod_z-add-wrap : (x y : ℤ) → mod_z (x +ℤ wrap y) (2 ^ 64) ≡ mod_z (x +ℤ y) (2 ^ 64)
mod_z-add-wrap x y =
    mod_z-add x (wrap y)
    ∙ ap (λ n. (mod_z x (2 ^ 64) + n) % 2 ^ 64) (mod_z-wrap y)
    ∙ sym (mod_z-add x y)

-- of a sum that is wrapped the second summand may be wrapped first
pub wrap-add-wrap : (x y : ℤ) → wrap (x +ℤ wrap y) ≡ wrap (x +ℤ y)
unfolding wrap
wrap-add-wrap x y = ap number_of (mod_z-add-wrap x y)

-- of a sum that is wrapped the first summand may be wrapped first
pub wrap-wrap-add : (x y : ℤ) → wrap (wrap x +ℤ y) ≡ wrap (x +ℤ y)
wrap-wrap-add x y = ap wrap (+ℤ_comm (wrap x) y) ∙ wrap-add-wrap y x ∙ ap wrap (+ℤ_comm y x)

-- modulo 2^32 a summand may be wrapped to 64 bits first
pub mod_z-32-add-wrap : (x y : ℤ) → mod_z (x +ℤ wrap y) (2 ^ 32) ≡ mod_z (x +ℤ y) (2 ^ 32)
mod_z-32-add-wrap x y = sym (mod_z-32 (x +ℤ wrap y)) ∙ ap (λ n. n % 2 ^ 32) (mod_z-add-wrap x y) ∙ mod_z-32 (x +ℤ y)

-- ---- sums and differences of bits

-- the sum of the bits of two numbers, modulo 2^64, is their sum modulo 2^64
pub add-bits :
    (x y : ℤ) → mag x < 2 ^ 64 → mag y < 2 ^ 64 →
    (bits_of x + bits_of y) % 2 ^ 64 ≡ mod_z (x +ℤ y) (2 ^ 64)
add-bits x y hx hy = rw (mod_z-add x y, mod_z-bits x hx, mod_z-bits y hy)

-- the difference of the bits of two numbers, modulo 2^64, is their difference modulo 2^64
pub sub-bits :
    (x y : ℤ) → mag x < 2 ^ 63 → mag y < 2 ^ 63 →
    (bits_of x + (2 ^ 64 - bits_of y)) % 2 ^ 64 ≡ mod_z (x -ℤ y) (2 ^ 64)
sub-bits x y hx hy =
    let ex = mod_z-bits x (omega arith) in
    let ey = mod_z-bits y (omega arith) in
    omega (arith, mod_z-add x (neg_ℤ y), mod_z-neg y, bits-lt x hx, bits-lt y hy)

-- ---- lines, addresses and ranges

-- the bits of a signed number, added modulo 2^64, add that number modulo 2^64
pub sum_modulo_64 :
    (n : ℕ) (d : ℤ) → mag d < 2 ^ 64 → (n + cast_unsigned w64 d) % 2 ^ 64 ≡ mod_z (pos n +ℤ d) (2 ^ 64)
sum_modulo_64 n d h = omega (arith, mod_z-add (pos n) d, mod_z-bits d h)

-- the bits of a signed number, added modulo 2^32, add that number modulo 2^32
pub sum_modulo_32 :
    (n : ℕ) (d : ℤ) → mag d < 2 ^ 64 → (n + cast_unsigned w64 d) % 2 ^ 32 ≡ mod_z (pos n +ℤ d) (2 ^ 32)
sum_modulo_32 n d h = omega (arith, sum_modulo_64 n d h, mod_z-32 (pos n +ℤ d))

-- a line moves by a signed 64-bit change modulo 2^32
pub line_moves :
    (line : LineNumber) (change : ℤ) → FitsSigned w64 change →
    (line_after line change).0 ≡ mod_z (pos line.0 +ℤ change) (2 ^ 32)
line_moves line change f = sum_modulo_32 line.0 change (omega (arith, f.sfits))

-- an address moves by a signed 64-bit number of bytes modulo 2^64
pub addr_moves :
    (addr : Address) (steps : ℤ) → FitsSigned w64 steps →
    (addr_after addr steps).0 ≡ mod_z (pos addr.0 +ℤ steps) (2 ^ 64)
addr_moves addr steps f = sum_modulo_64 addr.0 steps (omega (arith, f.sfits))

-- std's wrapping to 64 signed bits is `wrap`, of every number
pub int_wrap_is : (z : ℤ) → int_wrap w64 z ≡ wrap z
unfolding int_wrap wrap
int_wrap_is (pos n) = refl
int_wrap_is (negsuc n) = ap (to_z w64) (omega arith)

-- a change that is wrapped to 64 bits moves a line as the change itself does
pub line_moves_wrapped :
    (line : LineNumber) (change : ℤ) →
    (line_after line (int_wrap w64 change)).0 ≡ mod_z (pos line.0 +ℤ change) (2 ^ 32)
line_moves_wrapped line change =
    let e = int_wrap_is change in
    rw e (sum_modulo_32 line.0 (wrap change) (omega (arith, wrap-mag change))
    ∙ mod_z-32-add-wrap (pos line.0) change)

-- the range of a header is max - min + 1, wrapped to 64 bits
pub range_wraps : (h : LineTableHeader) → range_of h ≡ wrap (h.max_delta -ℤ h.min_delta +ℤ pos 1)
unfolding range_of
range_wraps h = int_wrap_is (h.max_delta -ℤ h.min_delta +ℤ pos 1)
