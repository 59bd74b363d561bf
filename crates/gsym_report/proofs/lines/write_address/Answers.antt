-- `gsym_report::lines::write_address`: the lines of an answer.
-- Assumes nothing.
use Rattle.std.proofs.Common.{take, subst}
use Rattle.std.specs.Io.KnownBytes.{Appends}
use Rattle.gsym.specs.CallOrder.{calls_left}
use Rattle.gsym_output.specs.Lines.{text_of}
use Rattle.gsym_report.specs.Report.{lines_of}
use Rattle.gsym_output.specs.Writing.{AppendsFront}
use Rattle.gsym_output.proofs.Fronts.{writes_err}
use Rattle.gsym_report.proofs.LineTexts.{found_text}
use Rattle.gsym_report.proofs.lines.write_address.Goals as goal

pub returns-in_err-write_calls-in-Ok-clause-lines : goal.returns-in_err-write_calls-in-Ok-clause-lines
returns-in_err-write_calls-in-Ok-clause-lines g c =
    writes_err (g.W.Write.contents c.args.out.now) (g.W.Write.contents c.write_calls.new.out) c.from_residual.result
    (text_of (lines_of c.args.file.now c.args.index c.args.address)) c.from_residual.ensures.0
    (subst (AppendsFront (g.W.Write.contents c.args.out.now) (g.W.Write.contents c.write_calls.new.out))
    (found_text c.args.file.now c.args.index c.args.address c.in-Ok.answer
    (take c.in-Ok.answer.count c.lookup_for.new.frames) (calls_left c.calls.result) c.calls.ensures c.in-Ok.ensures)
    c.in_err-write_calls-in-Ok.ensures)

pub returns-in_ok-write_calls-in-Ok-clause-lines : goal.returns-in_ok-write_calls-in-Ok-clause-lines
returns-in_ok-write_calls-in-Ok-clause-lines g c =
    subst (Appends (g.W.Write.contents c.args.out.now) (g.W.Write.contents c.write_calls.new.out))
    (found_text c.args.file.now c.args.index c.args.address c.in-Ok.answer
    (take c.in-Ok.answer.count c.lookup_for.new.frames) (calls_left c.calls.result) c.calls.ensures c.in-Ok.ensures)
    c.in_ok-write_calls-in-Ok.ensures
