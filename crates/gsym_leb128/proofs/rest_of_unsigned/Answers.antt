-- `gsym_leb128::rest_of_unsigned` meets its contract: nine bytes stay below 2^63, and of tenth ones only 0 and 1 fit.
-- Assumes nothing.
use Rattle.std.proofs.Common.{◌≡◌, ℕ, ◌+◌, ◌-◌, ◌*◌, ◌^◌, ◌<◌, ◌≤◌, List, length, get_or, inl, inr, arith, Ok}
use Rattle.gsym_leb128.specs.Answers.{unsigned_at}
use Rattle.gsym_leb128.specs.Begun.{Begun}
use Rattle.gsym_leb128.proofs.Turn.{goes_on}
use Rattle.gsym_leb128.proofs.Plain.{plain-ended, plain-last, plain-above}
use Rattle.gsym_leb128.proofs.rest_of_unsigned.Goals as goal
use Rattle.gsym_leb128.proofs.rest_of_unsigned.Goals.{then-loop-i-test+else-unit-lt-TENTH, else-loop-i-test}

-- a last byte before the tenth
last :
    (s : List ℕ) (at sum unit i : ℕ) → Begun s at sum unit i → i < length s → get_or s i 0 < 128 → unit < 2 ^ 63 →
    let v = sum + get_or s i 0 * unit in
    (v < 2 ^ 64) × (Ok (v, i + 1) ≡ unsigned_at s at)
last s at sum unit i h l t u = plain-last s at sum unit i h l t (inr u)

-- one more group: its value, the weight after it, and what is read then
turn :
    (s : List ℕ) (at sum unit i : ℕ) → Begun s at sum unit i → i < length s → get_or s i 0 < 256 → 128 ≤ get_or s i 0 →
    unit < 2 ^ 63 →
    let more = sum + (get_or s i 0 - 128) * unit in
    (more < 2 ^ 63) × (unit * 128 ≤ 2 ^ 63) × Begun s at more (unit * 128) (i + 1)
turn s at sum unit i h l z t u = goes_on s at sum unit i h l z t (λ e. omega (arith, e))

pub overflow_mul-result : goal.overflow_mul-result
overflow_mul-result c =
    omega (arith, (last _ _ _ _ _ c.loop-i.invariant c.loop-i-test.true (omega arith) (omega arith)).0)

pub overflow_add-result : goal.overflow_add-result
overflow_add-result c =
    omega (arith, (last _ _ _ _ _ c.loop-i.invariant c.loop-i-test.true (omega arith) (omega arith)).0)

pub returns-then-b-lt-ANOTHER : goal.returns-then-b-lt-ANOTHER
returns-then-b-lt-ANOTHER c =
    (last _ _ _ _ _ c.loop-i.invariant c.loop-i-test.true (omega arith) (omega arith)).1

pub overflow_mul-sum : goal.overflow_mul-sum
overflow_mul-sum c =
    omega (arith, (turn _ _ _ _ _ c.loop-i.invariant c.loop-i-test.true (omega arith) (omega arith) (omega arith)).0)

pub overflow_add-sum : goal.overflow_add-sum
overflow_add-sum c =
    omega (arith, (turn _ _ _ _ _ c.loop-i.invariant c.loop-i-test.true (omega arith) (omega arith) (omega arith)).0)

pub overflow_mul-unit : goal.overflow_mul-unit
overflow_mul-unit c =
    omega (arith, (turn _ _ _ _ _ c.loop-i.invariant c.loop-i-test.true (omega arith) (omega arith) (omega arith)).1)

pub loop-i-preserved : goal.loop-i-preserved
loop-i-preserved c =
    (turn _ _ _ _ _ c.loop-i.invariant c.loop-i-test.true (omega arith) (omega arith) (omega arith)).2

pub returns-then-s-i : goal.returns-then-s-i
returns-then-s-i c =
    plain-ended _ _ _ _ _ c.loop-i.invariant c.if-s-i.true

pub overflow_add-result-then-tenth-le-LARGEST_TENTH : goal.overflow_add-result-then-tenth-le-LARGEST_TENTH
overflow_add-result-then-tenth-le-LARGEST_TENTH c =
    omega (arith, (plain-last _ _ _ _ _ c.loop-i.invariant (omega arith) (omega arith) (inl (omega arith))).0)

pub returns-then-tenth-le-LARGEST_TENTH : goal.returns-then-tenth-le-LARGEST_TENTH
returns-then-tenth-le-LARGEST_TENTH c =
    (plain-last _ _ _ _ _ c.loop-i.invariant (omega arith) (omega arith) (inl (omega arith))).1

pub returns : goal.returns
returns c =
    let heavy : 2 ^ 63 ≤ c.loop-i.unit =
    elim c.loop-i-test.branch [
      | then-loop-i-test+else-unit-lt-TENTH w ↦ omega arith
      | else-loop-i-test w ↦ absurd (omega arith)
    ]
    in
    plain-above _ _ _ _ _ c.loop-i.invariant (omega arith) heavy (omega arith)
