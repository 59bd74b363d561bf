-- `gsym_linetab::quick::special_row` meets its contract: a byte times the factor, shifted, is the quotient.
-- Assumes nothing.
use Rattle.std.proofs.Common.{refl, rules, arith, FitsSigned, w64}
use Rattle.gsym_linetab.proofs.Quickly.{over-is, special-made}
use Rattle.gsym_linetab.proofs.quick.special_row.Goals as goal

pub overflow_sub-over : goal.overflow_sub-over
overflow_sub-over c =
    (over-is c.args.plan c.from-a.result (omega (arith, c.from-a.ensures))).0

pub returns : goal.returns
returns c =
    let f : FitsSigned w64 c.args.plan.header.min_delta = search rules in
    special-made c.args.plan f _ c.args.state.at c.args.state.row.addr.0 _ c.args.state.row.file_line.0 _ _ _ _
    c.requires.there c.requires.special (omega arith) c.from-a.ensures c.from.ensures refl refl
