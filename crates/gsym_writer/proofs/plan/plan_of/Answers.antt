-- `gsym_writer::plan::plan_of`: the plan is that of what is given.
-- Assumes nothing.
use Rattle.std.proofs.Common.{sym}
use Rattle.gsym_writer.specs.View.{view}
use Rattle.gsym_writer.proofs.Heads.{counts_fail, places_fail, lengths_fail, plan_is}
use Rattle.gsym_writer.proofs.plan.plan_of.Goals as goal

pub returns-in_err-head-clause-none : goal.returns-in_err-head-clause-none
returns-in_err-head-clause-none c =
    rw c.from_residual.ensures (counts_fail (view c.args.content) c.in_err-head.ensures.none)

pub returns-in_err-len-clause-none : goal.returns-in_err-len-clause-none
returns-in_err-len-clause-none c =
    rw c.from_residual-in_err-len.ensures
    (places_fail (view c.args.content) c.in_ok-head.head c.in_ok-head.ensures.some.is c.in_err-len.ensures)

pub returns-then-not-all_lengths_fit-clause-none : goal.returns-then-not-all_lengths_fit-clause-none
returns-then-not-all_lengths_fit-clause-none c =
    lengths_fail (view c.args.content) (sym c.if-not-all_lengths_fit.ensures)

pub returns-clause-some : goal.returns-clause-some
returns-clause-some c =
    plan_is (view c.args.content) _ c.in_ok-head.ensures.some c.in_ok-len.ensures
    (sym c.if-not-all_lengths_fit.ensures)
