-- `gsym_strtab::scan::run_end` meets its contract. The invariant: the bytes from `at` to `i` lie in the range.
-- Assumes nothing.
use Rattle.std.proofs.Common.{◌+◌, sym, ◌∙◌, arith}
use Rattle.gsym_strtab.proofs.Runs.{skip, stop}
use Rattle.gsym_strtab.proofs.scan.run_end.Goals as goal

pub returns-then-not-is_between : goal.returns-then-not-is_between
returns-then-not-is_between c =
    stop c.loop-i.invariant (omega arith) (sym c.is_between.ensures ∙ c.if-not-is_between.true)

pub returns-then-not-is_between-2 : goal.returns-then-not-is_between-2
returns-then-not-is_between-2 c =
    let one =
    skip c.loop-i.invariant (c.loop-i.i + 1) (omega arith) (omega arith)
    (sym c.is_between.ensures ∙ c.if-not-is_between.false) in
    stop one (omega arith) (sym c.is_between-in-loop-i.ensures ∙ c.if-not-is_between-2.true)

pub returns-then-not-is_between-3 : goal.returns-then-not-is_between-3
returns-then-not-is_between-3 c =
    let one =
    skip c.loop-i.invariant (c.loop-i.i + 1) (omega arith) (omega arith)
    (sym c.is_between.ensures ∙ c.if-not-is_between.false) in
    let two =
    skip one (c.loop-i.i + 2) (omega arith) (omega arith)
    (sym c.is_between-in-loop-i.ensures ∙ c.if-not-is_between-2.false) in
    stop two (omega arith) (sym c.is_between-in-loop-i-2.ensures ∙ c.if-not-is_between-3.true)

pub returns-then-not-is_between-4 : goal.returns-then-not-is_between-4
returns-then-not-is_between-4 c =
    let one =
    skip c.loop-i.invariant (c.loop-i.i + 1) (omega arith) (omega arith)
    (sym c.is_between.ensures ∙ c.if-not-is_between.false) in
    let two =
    skip one (c.loop-i.i + 2) (omega arith) (omega arith)
    (sym c.is_between-in-loop-i.ensures ∙ c.if-not-is_between-2.false) in
    let three =
    skip two (c.loop-i.i + 3) (omega arith) (omega arith)
    (sym c.is_between-in-loop-i-2.ensures ∙ c.if-not-is_between-3.false) in
    stop three (omega arith) (sym c.is_between-in-loop-i-3.ensures ∙ c.if-not-is_between-4.true)

pub loop-i-preserved : goal.loop-i-preserved
loop-i-preserved c =
    let one =
    skip c.loop-i.invariant (c.loop-i.i + 1) (omega arith) (omega arith)
    (sym c.is_between.ensures ∙ c.if-not-is_between.false) in
    let two =
    skip one (c.loop-i.i + 2) (omega arith) (omega arith)
    (sym c.is_between-in-loop-i.ensures ∙ c.if-not-is_between-2.false) in
    let three =
    skip two (c.loop-i.i + 3) (omega arith) (omega arith)
    (sym c.is_between-in-loop-i-2.ensures ∙ c.if-not-is_between-3.false) in
    let four =
    skip three (c.loop-i.i + 4) (omega arith) (omega arith)
    (sym c.is_between-in-loop-i-3.ensures ∙ c.if-not-is_between-4.false) in
    four
