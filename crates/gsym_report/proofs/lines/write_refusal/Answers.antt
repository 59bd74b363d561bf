-- `gsym_report::lines::write_refusal`: part by part.
-- Assumes nothing.
use Rattle.std.proofs.Common.{◌++◌, codes, decimal}
use Rattle.std.proofs.KnownBytes.{Appends-trans}
use Rattle.gsym_report.specs.Report.{refusal_said}
use Rattle.gsym_output.proofs.Fronts.{front_of, front_then, writes_then, writes_err}
use Rattle.gsym_report.proofs.lines.write_refusal.Goals as goal

pub returns-in_err-write_number : goal.returns-in_err-write_number
returns-in_err-write_number g c =
    let index = decimal c.args.index ++ codes " " in
    let number = refusal_said c.args.refusal in
    writes_err (g.W.Write.contents c.args.out.now) (g.W.Write.contents c.write_number.new.out)
    c.from_residual-in_err-write_number.result ((index ++ number) ++ codes "\n")
    c.from_residual-in_err-write_number.ensures.0
    (front_of (g.W.Write.contents c.args.out.now) (g.W.Write.contents c.write_number.new.out) (index ++ number)
    (codes "\n")
    (front_then (g.W.Write.contents c.args.out.now) (g.W.Write.contents c.write_index.new.out)
    (g.W.Write.contents c.write_number.new.out) index number c.in_ok-write_index.ensures c.in_err-write_number.ensures))

pub returns : goal.returns
returns g c =
    let index = decimal c.args.index ++ codes " " in
    let number = refusal_said c.args.refusal in
    writes_then (g.W.Write.contents c.args.out.now) (g.W.Write.contents c.write_number.new.out)
    (g.W.Write.contents c.write_text.new.out) c.write_text.result (index ++ number) (codes "\n")
    (Appends-trans (g.W.Write.contents c.args.out.now) (g.W.Write.contents c.write_index.new.out)
    (g.W.Write.contents c.write_number.new.out) index number c.in_ok-write_index.ensures c.in_ok-write_number.ensures)
    c.write_text.ensures
