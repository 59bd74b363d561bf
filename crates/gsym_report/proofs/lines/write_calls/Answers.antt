-- `gsym_report::lines::write_calls`: the line of a call more.
-- Assumes nothing.
use Rattle.std.proofs.Common.{ap, List, ℕ}
use Rattle.gsym.specs.declared.chain.Call.{Call}
use Rattle.std.specs.List.{flat_map}
use Rattle.gsym.specs.CallOrder.{calls_left}
use Rattle.gsym_output.specs.Lines.{ended}
use Rattle.gsym_report.specs.Report.{line_of, shown_name, name_in}
use Rattle.gsym_output.proofs.Fronts.{leads_on, leads_cut, writes_err}
use Rattle.gsym_report.proofs.lines.write_calls.Goals as goal

pub loop-call-preserved : goal.loop-call-preserved
loop-call-preserved g c =
    let text : Call → List ℕ = λ call. ended (line_of c.args.index (shown_name (name_in c.args.file.now call))) in
    leads_on (g.W.Write.contents c.args.out.now) (g.W.Write.contents c.loop-call.out)
    (g.W.Write.contents c.write_line.new.out) (text c.in-Some.call) (flat_map text (calls_left c.next.new.self))
    (flat_map text (calls_left c.loop-call.call-iterator)) (flat_map text (calls_left c.args.calls))
    c.loop-call.invariant (ap (flat_map text) c.in-Some.ensures.steps)
    (rw c.text.ensures.exact at c.in_ok-write_line.ensures)

pub returns-in_err-write_line : goal.returns-in_err-write_line
returns-in_err-write_line g c =
    let text : Call → List ℕ = λ call. ended (line_of c.args.index (shown_name (name_in c.args.file.now call))) in
    writes_err (g.W.Write.contents c.args.out.now) (g.W.Write.contents c.write_line.new.out) c.from_residual.result
    (flat_map text (calls_left c.args.calls)) c.from_residual.ensures.0
    (leads_cut (g.W.Write.contents c.args.out.now) (g.W.Write.contents c.loop-call.out)
    (g.W.Write.contents c.write_line.new.out) (text c.in-Some.call) (flat_map text (calls_left c.next.new.self))
    (flat_map text (calls_left c.loop-call.call-iterator)) (flat_map text (calls_left c.args.calls))
    c.loop-call.invariant (ap (flat_map text) c.in-Some.ensures.steps)
    (rw c.text.ensures.exact at c.in_err-write_line.ensures))
