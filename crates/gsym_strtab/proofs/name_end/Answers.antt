-- `gsym_strtab::name_end` meets its contract. The invariant: bytes from `at` to `i` are passed, the name goes on at
-- `i`.
-- Assumes nothing.
use Rattle.std.proofs.Common.{ℕ, ◌+◌, ◌<◌, List, [], ◌≡◌, refl, drop, get_or, length, arith, subst, sym}
use Rattle.gsym_strtab.specs.Utf8.{range}
use Rattle.gsym_strtab.specs.Steps.{run_len}
use Rattle.gsym_strtab.specs.Strings.{name_in}
use Rattle.gsym_strtab.proofs.Chars.{char-fits}
use Rattle.gsym_strtab.proofs.Passing.{Passed, begin, pass, ended, failed}
use Rattle.gsym_strtab.proofs.Runs.{pass-run}
use Rattle.gsym_strtab.proofs.Names.{named, name-begin, name-over, name-byte, name-zero, name-none, name-next}
use Rattle.gsym_strtab.proofs.Names.{end_none, end_at}
use Rattle.gsym_strtab.proofs.name_end.Goals as goal
use Rattle.gsym_strtab.proofs.name_end.Goals.{then-strings-i-lt128+else-strings-i+else-strings-i-eq0}
use Rattle.gsym_strtab.proofs.name_end.Goals.{else-strings-i-lt128}

-- the run is passed
past : {s : List ℕ} {at i j : ℕ} → Passed (name_in s at) (named []) s at i →
    j ≡ i + run_len (range 1 0x7f) (drop i s) → Passed (name_in s at) (named []) s at j
past h e = pass-run (range 1 0x7f) (named []) name-byte h _ e

-- all is passed up to a byte that isn't zero
record Here (s : List ℕ) (at i : ℕ) : Type 0 where
  passed : Passed (name_in s at) (named []) s at i
  inside : i < length s
  not_zero : get_or s i 0 ≡ 0 → ⊥

pub loop-i-init : goal.loop-i-init
loop-i-init c = begin _ _ (name-begin _ _)

pub returns-then-strings-i : goal.returns-then-strings-i
returns-then-strings-i c =
    end_none _ _ (failed (past c.loop-i.invariant c.ascii_run_end-i.ensures) (name-over _ _ c.if-strings-i.true))

pub returns-then-strings-i-eq0 : goal.returns-then-strings-i-eq0
returns-then-strings-i-eq0 c =
    let p = past c.loop-i.invariant c.ascii_run_end-i.ensures in
    end_at _ _ _ p.from (ended p (name-zero _ _ c.if-strings-i.false c.if-strings-i-eq0.true))

pub returns-in_err-i : goal.returns-in_err-i
returns-in_err-i c =
    let h : Here c.args.strings.now c.args.at c.if-strings-i-lt128.i =
    elim c.if-strings-i-lt128.branch [
      | then-strings-i-lt128+else-strings-i+else-strings-i-eq0 w ↦
          subst (Here c.args.strings.now c.args.at) (sym w.i-is)
          (record {
            passed = past c.loop-i.invariant w.ascii_run_end-i.ensures;
            inside = w.if-strings-i.false;
            not_zero = w.if-strings-i-eq0.false;
          })
      | else-strings-i-lt128 w ↦
          subst (Here c.args.strings.now c.args.at) (sym w.i-is)
          (record {
            passed = c.loop-i.invariant;
            inside = c.loop-i-test.true;
            not_zero = λ z. omega (arith, w.if-strings-i-lt128.false);
          })
    ] in
    rw c.from_residual.ensures
    (end_none _ _ (failed h.passed (name-none _ _ h.inside h.not_zero _ c.in_err-i.ensures.none refl)))

pub overflow_add-i : goal.overflow_add-i
overflow_add-i c =
    let h : c.if-strings-i-lt128.i < length c.args.strings.now =
    elim c.if-strings-i-lt128.branch [
      | then-strings-i-lt128+else-strings-i+else-strings-i-eq0 w ↦ omega (arith, w.i-is, w.if-strings-i.false)
      | else-strings-i-lt128 w ↦ omega (arith, w.i-is, c.loop-i-test.true)
    ] in
    omega (arith, char-fits _ _ h _ c.in_ok-i.ensures.some.0 c.in_ok-i.ensures.some.1)

pub loop-i-preserved : goal.loop-i-preserved
loop-i-preserved c =
    let h : Here c.args.strings.now c.args.at c.if-strings-i-lt128.i =
    elim c.if-strings-i-lt128.branch [
      | then-strings-i-lt128+else-strings-i+else-strings-i-eq0 w ↦
          subst (Here c.args.strings.now c.args.at) (sym w.i-is)
          (record {
            passed = past c.loop-i.invariant w.ascii_run_end-i.ensures;
            inside = w.if-strings-i.false;
            not_zero = w.if-strings-i-eq0.false;
          })
      | else-strings-i-lt128 w ↦
          subst (Here c.args.strings.now c.args.at) (sym w.i-is)
          (record {
            passed = c.loop-i.invariant;
            inside = c.loop-i-test.true;
            not_zero = λ z. omega (arith, w.if-strings-i-lt128.false);
          })
    ] in
    pass h.passed _ (name-next _ _ h.inside h.not_zero _ c.in_ok-i.ensures.some.0 c.in_ok-i.ensures.some.1)

pub returns : goal.returns
returns c = end_none _ _ (failed c.loop-i.invariant (name-over _ _ c.loop-i-test.false))
