-- `gsym_form::line::digits`: a digit that is none of the base, and a number that is too large.
-- Assumes nothing.
use Rattle.std.proofs.Common.{rules, sym, arith}
use Rattle.gsym_form.proofs.Digits.{digits-high, digits-wide}
use Rattle.gsym_form.proofs.line.digits.Goals as goal

pub returns-then-value-base : goal.returns-then-value-base
returns-then-value-base c =
    sym
    (digits-high c.args.base c.args.most c.loop-byte.number c.args.word.now c.loop-byte.byte-index
    c.in_ok-digit.field-0 c.loop-byte.invariant c.loop-byte-test.true (search rules) (omega arith))

pub returns-in_err-checked_mul : goal.returns-in_err-checked_mul
returns-in_err-checked_mul c =
    rw c.from_residual-in_err-checked_mul.ensures
    (sym
    (digits-wide c.args.base c.args.most c.loop-byte.number c.args.word.now c.loop-byte.byte-index
    c.in_ok-digit.field-0 c.loop-byte.invariant c.loop-byte-test.true (search rules) (omega arith)
    (omega (arith, c.in_err-checked_mul.ensures))))

pub returns-in_err-number : goal.returns-in_err-number
returns-in_err-number c =
    rw c.from_residual-in_err-number.ensures
    (sym
    (digits-wide c.args.base c.args.most c.loop-byte.number c.args.word.now c.loop-byte.byte-index
    c.in_ok-digit.field-0 c.loop-byte.invariant c.loop-byte-test.true (search rules) (omega arith)
    (omega (arith, c.in_err-number.ensures, c.in_ok-checked_mul.ensures))))
