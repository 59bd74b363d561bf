-- `gsym_resolver::place` meets its contract: the records fit in the slice, and go over its first ones.
-- Assumes nothing.
use Rattle.std.proofs.Common.{ap, length, arith}
use Rattle.gsym_resolver.proofs.Placed.{placed_fit, placed_stays, placed_over}
use Rattle.gsym_resolver.proofs.place.Goals as goal

pub copy_records-requires : goal.copy_records-requires
copy_records-requires g c =
    let l = placed_fit _ _ _ _ _ _ c.in_ok-answer.ensures in
    omega (arith, ap length c.as_slice.ensures.value, l, c.requires.lent)

pub returns-clause-stays : goal.returns-clause-stays
returns-clause-stays g c =
    rw c.copy_records.ensures
    (placed_stays _ _ _ _ _ _ c.in_ok-answer.ensures c.args.records.now _ _ (ap length c.as_slice.ensures.value)
    c.as_slice.ensures.value)

pub returns-clause-exact : goal.returns-clause-exact
returns-clause-exact g c =
    rw c.copy_records.ensures
    (placed_over _ _ _ _ _ _ c.in_ok-answer.ensures c.args.records.now _ _ (ap length c.as_slice.ensures.value)
    c.as_slice.ensures.value)
