-- `gsym_report::lines::write_name`: up to a control byte, and from there on.
-- Assumes nothing.
use Rattle.gsym_report.specs.Report.{shown_name}
use Rattle.gsym_output.proofs.Fronts.{writes_err}
use Rattle.gsym_report.proofs.LineTexts.{name_plain, name_cut, name_mark, name_mark_cut, name_end}
use Rattle.gsym_report.proofs.lines.write_name.Goals as goal

pub returns-in_err-write_text : goal.returns-in_err-write_text
returns-in_err-write_text g c =
    writes_err (g.W.Write.contents c.args.out.now) (g.W.Write.contents c.write_text.new.out) c.from_residual.result
    (shown_name c.args.name.now) c.from_residual.ensures.0
    (name_cut (g.W.Write.contents c.args.out.now) (g.W.Write.contents c.loop-rest.out)
    (g.W.Write.contents c.write_text.new.out) c.args.name.now c.loop-rest.rest.now c.split_at.result.0.now
    c.split_at.result.1.now c.plain_len.result c.loop-rest.invariant c.plain_len.ensures.value
    c.split_at.ensures.front c.split_at.ensures.back c.in_err-write_text.ensures)

pub returns-in_default : goal.returns-in_default
returns-in_default g c =
    name_end (g.W.Write.contents c.args.out.now) (g.W.Write.contents c.write_text.new.out) c.args.name.now
    c.split_at.result.1.now
    (name_plain (g.W.Write.contents c.args.out.now) (g.W.Write.contents c.loop-rest.out)
    (g.W.Write.contents c.write_text.new.out) c.args.name.now c.loop-rest.rest.now c.split_at.result.0.now
    c.split_at.result.1.now c.plain_len.result c.loop-rest.invariant c.plain_len.ensures.value
    c.split_at.ensures.front c.split_at.ensures.back c.in_ok-write_text.ensures)
    c.in_default.ensures.cases

pub returns-in_err-write_text-2 : goal.returns-in_err-write_text-2
returns-in_err-write_text-2 g c =
    writes_err (g.W.Write.contents c.args.out.now) (g.W.Write.contents c.write_text-in-loop-rest.new.out)
    c.from_residual-in_err-write_text-2.result (shown_name c.args.name.now)
    c.from_residual-in_err-write_text-2.ensures.0
    (name_mark_cut (g.W.Write.contents c.args.out.now) (g.W.Write.contents c.write_text.new.out)
    (g.W.Write.contents c.write_text-in-loop-rest.new.out) c.args.name.now c.loop-rest.rest.now
    c.split_at.result.1.now c.in-Some.behind.now c.plain_len.result c.in-Some._control.now
    (name_plain (g.W.Write.contents c.args.out.now) (g.W.Write.contents c.loop-rest.out)
    (g.W.Write.contents c.write_text.new.out) c.args.name.now c.loop-rest.rest.now c.split_at.result.0.now
    c.split_at.result.1.now c.plain_len.result c.loop-rest.invariant c.plain_len.ensures.value
    c.split_at.ensures.front c.split_at.ensures.back c.in_ok-write_text.ensures)
    c.plain_len.ensures.value c.split_at.ensures.back c.in-Some.ensures.cases.0 c.in_err-write_text-2.ensures)

pub loop-rest-preserved : goal.loop-rest-preserved
loop-rest-preserved g c =
    name_mark (g.W.Write.contents c.args.out.now) (g.W.Write.contents c.write_text.new.out)
    (g.W.Write.contents c.write_text-in-loop-rest.new.out) c.args.name.now c.loop-rest.rest.now
    c.split_at.result.1.now c.in-Some.behind.now c.plain_len.result c.in-Some._control.now
    (name_plain (g.W.Write.contents c.args.out.now) (g.W.Write.contents c.loop-rest.out)
    (g.W.Write.contents c.write_text.new.out) c.args.name.now c.loop-rest.rest.now c.split_at.result.0.now
    c.split_at.result.1.now c.plain_len.result c.loop-rest.invariant c.plain_len.ensures.value
    c.split_at.ensures.front c.split_at.ensures.back c.in_ok-write_text.ensures)
    c.plain_len.ensures.value c.split_at.ensures.back c.in-Some.ensures.cases.0 c.in_ok-write_text-2.ensures
