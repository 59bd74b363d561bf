-- `gsym_resolver::copy_records` meets its contract: one record more is copied.
-- Assumes nothing.
use Rattle.std.proofs.Common.{◌≡◌, ◌∙◌, refl, length, arith}
use Rattle.std.proofs.lemmas.List.{take_all}
use Rattle.gsym_resolver.proofs.Copied.{copied_more}
use Rattle.gsym_resolver.proofs.copy_records.Goals as goal

pub loop-i-init : goal.loop-i-init
loop-i-init c = refl

pub loop-i-preserved : goal.loop-i-preserved
loop-i-preserved c =
    rw c.loop-i.invariant
    (copied_more c.args.made.now c.args.records.now c.loop-i.i _ c.loop-i-test.true c.requires)

pub returns : goal.returns
returns c =
    let xs = c.args.made.now in
    let e : c.loop-i.i ≡ length xs = omega (arith, c.loop-i-test.false, c.loop-i.auto.i-end) in
    c.loop-i.invariant ∙ rw (e, take_all (length xs) xs (omega arith)) refl
