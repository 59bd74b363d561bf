-- `gsym_writer::write_judged`: each way through is that of the definition.
-- Assumes nothing.
use Rattle.std.proofs.Common.{arith, length}
use Rattle.std.proofs.lemmas.Result.{err_from_is_err_and}
use Rattle.gsym_writer.specs.View.{view}
use Rattle.gsym_writer.proofs.Refusals.{said_fails, plan_fails, room_fails, writes}
use Rattle.gsym_writer.proofs.Tests.{of_32_test}
use Rattle.gsym_writer.proofs.write_judged.Goals as goal

pub returns-in_err-judge-clause-exact : goal.returns-in_err-judge-clause-exact
returns-in_err-judge-clause-exact c =
    let p = err_from_is_err_and c.from_residual.result c.from_residual.ensures.1 in
    rw (p.1, p.2) (said_fails (view c.args.content) (length c.args.out.now) _ c.in_err-judge.ensures.exact)

pub returns-in_default-clause-exact : goal.returns-in_default-clause-exact
returns-in_default-clause-exact c =
    plan_fails (view c.args.content) (length c.args.out.now) c.in_ok-judge.ensures.exact c.in_default.ensures.none

pub returns-then-plan-out-clause-exact : goal.returns-then-plan-out-clause-exact
returns-then-plan-out-clause-exact c =
    room_fails (view c.args.content) (length c.args.out.now) c.in_ok-judge.ensures.exact c.in-Some.ensures.some.of_32
    c.in-Some.plan.len c.in-Some.ensures.some.len c.if-plan-out.true

pub put_file-requires-clause-of_32 : goal.put_file-requires-clause-of_32
put_file-requires-clause-of_32 c = (of_32_test (view c.args.content)).0 c.in-Some.ensures.some.of_32

pub returns-clause-exact : goal.returns-clause-exact
returns-clause-exact c =
    writes (view c.args.content) (length c.args.out.now) c.in_ok-judge.ensures.exact c.in-Some.ensures.some.of_32
    c.in-Some.plan.len c.in-Some.ensures.some.len c.if-plan-out.false (omega arith) c.put_file.result
    c.put_file.ensures.next
