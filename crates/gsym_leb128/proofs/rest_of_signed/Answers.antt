-- `gsym_leb128::rest_of_signed` meets its contract: a last byte from 64 on has the sign; of tenth ones 0 and 127 fit.
-- Assumes nothing.
use Rattle.std.proofs.Common.{ℕ, ◌+◌, ◌-◌, ◌*◌, ◌^◌, ◌<◌, ◌≤◌, List, length, get_or, arith}
use Rattle.gsym_leb128.specs.Begun.{Begun}
use Rattle.gsym_leb128.proofs.Turn.{goes_on}
use Rattle.gsym_leb128.proofs.Signs.{
  made,
  signed-ended,
  signed-last,
  signed-tenth-clear,
  signed-tenth-set,
  signed-tenth-wide,
}
use Rattle.gsym_leb128.proofs.rest_of_signed.Goals as goal
use Rattle.gsym_leb128.proofs.rest_of_signed.Goals.{then-loop-i-test+else-weight-lt-TENTH, else-loop-i-test}

-- one more group: its value, the weight after it, and what is read then
turn :
    (s : List ℕ) (at low weight i : ℕ) → Begun s at low weight i → i < length s → get_or s i 0 < 256 →
    128 ≤ get_or s i 0 →
    weight < 2 ^ 63 →
    let more = low + (get_or s i 0 - 128) * weight in
    (more < 2 ^ 63) × (weight * 128 ≤ 2 ^ 63) × Begun s at more (weight * 128) (i + 1)
turn s at low weight i h l z t u = goes_on s at low weight i h l z t (λ e. omega (arith, e))

pub overflow_mul-above : goal.overflow_mul-above
overflow_mul-above c =
    omega (arith, (signed-last _ _ _ _ _ c.loop-i.invariant c.loop-i-test.true (omega arith) (omega arith)).0)

pub overflow_add-above-then-b-lt-ANOTHER : goal.overflow_add-above-then-b-lt-ANOTHER
overflow_add-above-then-b-lt-ANOTHER c =
    omega (arith, (signed-last _ _ _ _ _ c.loop-i.invariant c.loop-i-test.true (omega arith) (omega arith)).0)

pub overflow_mul-weight : goal.overflow_mul-weight
overflow_mul-weight c =
    omega (arith, (signed-last _ _ _ _ _ c.loop-i.invariant c.loop-i-test.true (omega arith) (omega arith)).1)

pub returns-then-b-lt-ANOTHER : goal.returns-then-b-lt-ANOTHER
returns-then-b-lt-ANOTHER c =
    let last = signed-last _ _ _ _ _ c.loop-i.invariant c.loop-i-test.true (omega arith) (omega arith) in
    let q = last.2 _ (omega arith) (omega arith) in
    made _ _ _ _ c.cast_signed.type_inv c.cast_signed.ensures q

pub overflow_mul-low : goal.overflow_mul-low
overflow_mul-low c =
    omega (arith, (turn _ _ _ _ _ c.loop-i.invariant c.loop-i-test.true (omega arith) (omega arith) (omega arith)).0)

pub overflow_add-low : goal.overflow_add-low
overflow_add-low c =
    omega (arith, (turn _ _ _ _ _ c.loop-i.invariant c.loop-i-test.true (omega arith) (omega arith) (omega arith)).0)

pub overflow_mul-weight-in-loop-i : goal.overflow_mul-weight-in-loop-i
overflow_mul-weight-in-loop-i c =
    omega (arith, (turn _ _ _ _ _ c.loop-i.invariant c.loop-i-test.true (omega arith) (omega arith) (omega arith)).1)

pub loop-i-preserved : goal.loop-i-preserved
loop-i-preserved c =
    (turn _ _ _ _ _ c.loop-i.invariant c.loop-i-test.true (omega arith) (omega arith) (omega arith)).2

pub returns-in-0 : goal.returns-in-0
returns-in-0 c =
    let heavy : 2 ^ 63 ≤ c.loop-i.weight =
    elim c.loop-i-test.branch [
      | then-loop-i-test+else-weight-lt-TENTH w ↦ omega arith
      | else-loop-i-test w ↦ absurd (omega arith)
    ]
    in
    made _ _ _ _ c.cast_signed-in-0.type_inv c.cast_signed-in-0.ensures
    (signed-tenth-clear _ _ _ _ _ c.loop-i.invariant (omega arith) heavy (omega arith))

pub overflow_add-low-in-127 : goal.overflow_add-low-in-127
overflow_add-low-in-127 c =
    let heavy : 2 ^ 63 ≤ c.loop-i.weight =
    elim c.loop-i-test.branch [
      | then-loop-i-test+else-weight-lt-TENTH w ↦ omega arith
      | else-loop-i-test w ↦ absurd (omega arith)
    ]
    in
    omega (arith, (signed-tenth-set _ _ _ _ _ c.loop-i.invariant (omega arith) heavy (omega arith)).0)

pub returns-in-127 : goal.returns-in-127
returns-in-127 c =
    let heavy : 2 ^ 63 ≤ c.loop-i.weight =
    elim c.loop-i-test.branch [
      | then-loop-i-test+else-weight-lt-TENTH w ↦ omega arith
      | else-loop-i-test w ↦ absurd (omega arith)
    ]
    in
    made _ _ _ _ c.cast_signed-in-127.type_inv c.cast_signed-in-127.ensures
    (signed-tenth-set _ _ _ _ _ c.loop-i.invariant (omega arith) heavy (omega arith)).1

pub returns-in_default : goal.returns-in_default
returns-in_default c =
    let heavy : 2 ^ 63 ≤ c.loop-i.weight =
    elim c.loop-i-test.branch [
      | then-loop-i-test+else-weight-lt-TENTH w ↦ omega arith
      | else-loop-i-test w ↦ absurd (omega arith)
    ]
    in
    signed-tenth-wide _ _ _ _ _ c.loop-i.invariant (omega arith) heavy (λ e. omega arith) (λ e. omega arith)

pub returns : goal.returns
returns c =
    signed-ended _ _ _ _ _ c.loop-i.invariant c.if-i-s.false
