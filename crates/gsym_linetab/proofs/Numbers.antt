-- The numbers of a special opcode, as std's words compute them.
-- Assumes nothing.
use Rattle.std.proofs.Common.{◌≡◌, ℕ, zero, suc, ◌+◌, ◌-◌, ◌/◌, ◌%◌, ◌^◌, ◌<◌, true, ℤ, pos, negsuc, ◌+ℤ◌, ◌-ℤ◌, neg_ℤ}
use Rattle.std.proofs.Common.{refl, ap, ◌∙◌, div-le_self, arith, w64, to_z, of_z, FitsSigned, Ok, Err, Result}
use lib.Signed.{quot_z, rem_z}
use Rattle.std.specs.Int.{int_wrap}
use Rattle.std.specs.Prelude.{not, Bool, false}
use Rattle.std.specs.Bool.{Decides}
use Rattle.std.proofs.lemmas.Bool.Decides.{Decides-int_eq}
use Rattle.std.proofs.Math.Nat.{mod-le}
use Rattle.std.specs.Ordering.{int_eq}
use Rattle.std.proofs.lemmas.Int.{to_z-of_z, wrapping_add_onto, wrapping_add_is, wrapping_sub_is, int_wrap-add_left}
use Rattle.gsym_types.specs.declared.Address.{Address}
use Rattle.gsym_types.specs.declared.LineNumber.{LineNumber}
use Rattle.gsym_linetab.specs.declared.LineTableHeader.{LineTableHeader}
use Rattle.gsym_linetab.specs.declared.LineTableRow.{LineTableRow}
use Rattle.gsym_linetab.specs.declared.LineState.{LineState}
use Rattle.gsym_linetab.specs.declared.Ending.{Ending}
use Rattle.gsym_linetab.specs.declared.Ending.TheVariants.{Stopped}
use Rattle.gsym_linetab.specs.Machine.{state, range_of, line_after, addr_after, special_of}

-- the difference may be wrapped before 1 is added
pub range_is :
    (max min : ℤ) → FitsSigned w64 max → FitsSigned w64 min →
    to_z w64 (((of_z w64 max + (2 ^ 64 - of_z w64 min)) % 2 ^ 64 + 1) % 2 ^ 64) ≡ int_wrap w64 (max -ℤ min +ℤ pos 1)
range_is max min f g =
    let m = (of_z w64 max + (2 ^ 64 - of_z w64 min)) % 2 ^ 64 in
    wrapping_add_onto w64 m (pos 1) (omega arith) (record { sfits = omega arith })
    ∙ ap (λ z. int_wrap w64 (z +ℤ pos 1)) (wrapping_sub_is w64 max min f g)
    ∙ int_wrap-add_left w64 (max -ℤ min) (pos 1)

-- a quotient and a remainder of a byte are small
small_quotient : (a : ℕ) (d : ℤ) → a < 256 → FitsSigned w64 (quot_z (pos a) d)
small_quotient a (pos b) l = record { sfits = omega (arith, div-le_self a b) }
small_quotient a (negsuc b) l = back (a / suc b) (omega (arith, div-le_self a (suc b)))
  where
    back : (n : ℕ) → n < 256 → FitsSigned w64 (neg_ℤ (pos n))
    back zero m = record { sfits = omega arith }
    back (suc n) m = record { sfits = omega arith }

small_remainder : (a : ℕ) (d : ℤ) → a < 256 → FitsSigned w64 (rem_z (pos a) d)
small_remainder a (pos b) l = record { sfits = omega (arith, mod-le a b) }
small_remainder a (negsuc b) l = record { sfits = omega (arith, mod-le a (suc b)) }

-- a range other than 0 passes the test
pub not_zero : (z : ℤ) (b : Bool) → Decides b (z ≡ pos 0) → (of_z w64 z ≡ 0 → ⊥) → not b ≡ true
not_zero z true d n = absurd (n (ap (of_z w64) (d.0 refl)))
not_zero z false d n = refl

-- the quotient and the remainder as the code computes them
module _ (a : ℕ) (range x : ℤ) (byte : a < 256) (f : FitsSigned w64 range) (e : x ≡ pos a) where
  pub quotient_is : to_z w64 (of_z w64 (quot_z x (to_z w64 (of_z w64 range)))) ≡ quot_z (pos a) range
  quotient_is = rw (e, to_z-of_z w64 range f) (to_z-of_z w64 (quot_z (pos a) range) (small_quotient a range byte))

  pub remainder_is : to_z w64 (of_z w64 (rem_z x (to_z w64 (of_z w64 range)))) ≡ rem_z (pos a) range
  remainder_is = rw (e, to_z-of_z w64 range f) (to_z-of_z w64 (rem_z (pos a) range) (small_remainder a range byte))

-- a range whose bits are 0 is 0
is_zero : (z : ℤ) → FitsSigned w64 z → of_z w64 z ≡ 0 → z ≡ pos 0
is_zero (pos n) f e = ap pos e
is_zero (negsuc n) f e = absurd (omega (arith, f.sfits))

-- ---- a special opcode

module _ (h : LineTableHeader) (r : LineTableRow) (a n : ℕ) (range : ℤ) where
  pub stopped_is :
      FitsSigned w64 range → range ≡ range_of h → of_z w64 range ≡ 0 →
      ◌≡◌ {A = Result LineState Ending} (Err Stopped) (special_of h r a n)
  unfolding special_of
  stopped_is f e z = rw (← e, is_zero range f z) refl

  pub special_is :
      (steps over : ℤ) (addr : Address) (line : LineNumber) → a < 256 → FitsSigned w64 h.min_delta →
      range ≡ range_of h → (of_z w64 range ≡ 0 → ⊥) → steps ≡ quot_z (pos a) range → over ≡ rem_z (pos a) range →
      addr ≡ addr_after r.addr steps →
      line ≡ line_after r.file_line (to_z w64 ((of_z w64 h.min_delta + of_z w64 over) % 2 ^ 64)) →
      ◌≡◌ {A = Result LineState Ending} (Ok (state addr.0 r.file_idx.0 line.0 n)) (special_of h r a n)
  unfolding special_of
  special_is steps over addr line byte f e nz eS eO eA eL =
      rw (
        eL,
        eA,
        eS,
        eO,
        wrapping_add_is w64 h.min_delta (rem_z (pos a) range) f (small_remainder a range byte),
        ← e,
        not_zero range (int_eq range (pos 0)) (Decides-int_eq range (pos 0)) nz,
      )
      refl

-- for the attribute of `special`
pub ruleset specials = (special_is, stopped_is)
