-- `gsym_leb128::signed_at` meets its contract: the first two bytes, and what they come to where both ask for another.
-- Assumes nothing.
use Rattle.std.proofs.Common.{arith}
use Rattle.gsym_leb128.proofs.Turn.{begin, read-as, after-one, after-two}
use Rattle.gsym_leb128.proofs.Signs.{made, signed-one, signed-two}
use Rattle.gsym_leb128.proofs.Places.{signed_front-is, signed_past, signed_short-is}
use Rattle.gsym_leb128.proofs.Wide.{signed_wide-is}
use Rattle.gsym_leb128.proofs.signed_at.Goals as goal
use Rattle.gsym_leb128.proofs.signed_at.Goals.{else-i-s}
use Rattle.gsym_leb128.proofs.signed_at.Goals.{then-i-s+else-first_byte-lt-ANOTHER+else-i-s-2}
use Rattle.gsym_leb128.proofs.signed_at.Goals.{
  then-i-s+else-first_byte-lt-ANOTHER+then-i-s-2+else-second_byte-lt-ANOTHER,
}

pub returns-then-first_byte-lt-ANOTHER : goal.returns-then-first_byte-lt-ANOTHER
returns-then-first_byte-lt-ANOTHER c =
    let q = signed-one _ _ c.if-i-s.true _ (omega arith) c.if-first_byte-lt-ANOTHER.true (omega arith) in
    let e = made _ _ _ _ c.cast_signed.type_inv c.cast_signed.ensures q in
    record {
      exact = e;
      front = signed_front-is _ _ e;
      past = signed_past _ _ e;
      short = signed_short-is _ _ e;
      wide = signed_wide-is _ _ (λ i. omega (arith, c.type_inv.s i)) e;
    }

pub returns-then-second_byte-lt-ANOTHER : goal.returns-then-second_byte-lt-ANOTHER
returns-then-second_byte-lt-ANOTHER c =
    let q =
    signed-two _ _ c.if-i-s.true _ (omega arith) (omega arith) c.if-first_byte-lt-ANOTHER.false c.if-i-s-2.true
    c.if-second_byte-lt-ANOTHER.true (omega arith) in
    let s = c.cast_signed-then-second_byte-lt-ANOTHER in
    let e = made _ _ _ _ s.type_inv s.ensures q in
    record {
      exact = e;
      front = signed_front-is _ _ e;
      past = signed_past _ _ e;
      short = signed_short-is _ _ e;
      wide = signed_wide-is _ _ (λ i. omega (arith, c.type_inv.s i)) e;
    }

pub rest_of_signed-requires : goal.rest_of_signed-requires
rest_of_signed-requires c =
    elim c.if-i-s.branch [
      | then-i-s+else-first_byte-lt-ANOTHER+then-i-s-2+else-second_byte-lt-ANOTHER w ↦
          read-as w.low-is w.weight-is w.i-is
          (after-two _ _ w.if-i-s.true (omega arith) w.if-first_byte-lt-ANOTHER.false w.if-i-s-2.true (omega arith)
          w.if-second_byte-lt-ANOTHER.false)
      | then-i-s+else-first_byte-lt-ANOTHER+else-i-s-2 w ↦
          read-as w.low-is w.weight-is w.i-is
          (after-one _ _ w.if-i-s.true (omega arith) w.if-first_byte-lt-ANOTHER.false)
      | else-i-s w ↦ read-as w.low-is w.weight-is w.i-is (begin _ _)
    ]

pub returns : goal.returns
returns c =
    let e = c.rest_of_signed.ensures in
    record {
      exact = e;
      front = signed_front-is _ _ e;
      past = signed_past _ _ e;
      short = signed_short-is _ _ e;
      wide = signed_wide-is _ _ (λ i. omega (arith, c.type_inv.s i)) e;
    }
