-- `gsym_leb128::unsigned_at` meets its contract: the first two bytes, and what they come to where both ask for another.
-- Assumes nothing.
use Rattle.std.proofs.Common.{arith}
use Rattle.gsym_leb128.proofs.Turn.{begin, read-as, after-one, after-two}
use Rattle.gsym_leb128.proofs.Plain.{plain-one, plain-two}
use Rattle.gsym_leb128.proofs.Places.{unsigned_front-is, unsigned_past, unsigned_short-is}
use Rattle.gsym_leb128.proofs.Wide.{unsigned_wide-is}
use Rattle.gsym_leb128.proofs.unsigned_at.Goals as goal
use Rattle.gsym_leb128.proofs.unsigned_at.Goals.{else-i-s}
use Rattle.gsym_leb128.proofs.unsigned_at.Goals.{then-i-s+else-first-lt-ANOTHER+else-i-s-2}
use Rattle.gsym_leb128.proofs.unsigned_at.Goals.{then-i-s+else-first-lt-ANOTHER+then-i-s-2+else-second-lt-ANOTHER}

pub returns-then-first-lt-ANOTHER : goal.returns-then-first-lt-ANOTHER
returns-then-first-lt-ANOTHER c =
    let e = plain-one _ _ c.if-i-s.true c.if-first-lt-ANOTHER.true in
    record {
      exact = e;
      front = unsigned_front-is _ _ e;
      past = unsigned_past _ _ e;
      short = unsigned_short-is _ _ e;
      wide = unsigned_wide-is _ _ (λ i. omega (arith, c.type_inv.s i)) e;
    }

pub returns-then-second-lt-ANOTHER : goal.returns-then-second-lt-ANOTHER
returns-then-second-lt-ANOTHER c =
    let e =
    plain-two _ _ c.if-i-s.true (omega arith) c.if-first-lt-ANOTHER.false c.if-i-s-2.true c.if-second-lt-ANOTHER.true in
    record {
      exact = e;
      front = unsigned_front-is _ _ e;
      past = unsigned_past _ _ e;
      short = unsigned_short-is _ _ e;
      wide = unsigned_wide-is _ _ (λ i. omega (arith, c.type_inv.s i)) e;
    }

pub rest_of_unsigned-requires : goal.rest_of_unsigned-requires
rest_of_unsigned-requires c =
    elim c.if-i-s.branch [
      | then-i-s+else-first-lt-ANOTHER+then-i-s-2+else-second-lt-ANOTHER w ↦
          read-as w.sum-is w.unit-is w.i-is
          (after-two _ _ w.if-i-s.true (omega arith) w.if-first-lt-ANOTHER.false w.if-i-s-2.true (omega arith)
          w.if-second-lt-ANOTHER.false)
      | then-i-s+else-first-lt-ANOTHER+else-i-s-2 w ↦
          read-as w.sum-is w.unit-is w.i-is
          (after-one _ _ w.if-i-s.true (omega arith) w.if-first-lt-ANOTHER.false)
      | else-i-s w ↦ read-as w.sum-is w.unit-is w.i-is (begin _ _)
    ]

pub returns : goal.returns
returns c =
    let e = c.rest_of_unsigned.ensures in
    record {
      exact = e;
      front = unsigned_front-is _ _ e;
      past = unsigned_past _ _ e;
      short = unsigned_short-is _ _ e;
      wide = unsigned_wide-is _ _ (λ i. omega (arith, c.type_inv.s i)) e;
    }
