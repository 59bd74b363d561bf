-- `gsym_report::lines::write_line`: part by part.
-- Assumes nothing.
use Rattle.std.proofs.Common.{◌++◌, codes, decimal}
use Rattle.std.proofs.KnownBytes.{Appends-trans}
use Rattle.gsym_report.specs.Report.{shown_name}
use Rattle.gsym_output.proofs.Fronts.{front_of, front_then, writes_then, writes_err}
use Rattle.gsym_report.proofs.lines.write_line.Goals as goal

pub returns-in_err-write_name : goal.returns-in_err-write_name
returns-in_err-write_name g c =
    let index = decimal c.args.index ++ codes " " in
    let name = shown_name c.args.name.now in
    writes_err (g.W.Write.contents c.args.out.now) (g.W.Write.contents c.write_name.new.out)
    c.from_residual-in_err-write_name.result ((index ++ name) ++ codes "\n") c.from_residual-in_err-write_name.ensures.0
    (front_of (g.W.Write.contents c.args.out.now) (g.W.Write.contents c.write_name.new.out) (index ++ name)
    (codes "\n")
    (front_then (g.W.Write.contents c.args.out.now) (g.W.Write.contents c.write_index.new.out)
    (g.W.Write.contents c.write_name.new.out) index name c.in_ok-write_index.ensures c.in_err-write_name.ensures))

pub returns : goal.returns
returns g c =
    let index = decimal c.args.index ++ codes " " in
    let name = shown_name c.args.name.now in
    writes_then (g.W.Write.contents c.args.out.now) (g.W.Write.contents c.write_name.new.out)
    (g.W.Write.contents c.write_text.new.out) c.write_text.result (index ++ name) (codes "\n")
    (Appends-trans (g.W.Write.contents c.args.out.now) (g.W.Write.contents c.write_index.new.out)
    (g.W.Write.contents c.write_name.new.out) index name c.in_ok-write_index.ensures c.in_ok-write_name.ensures)
    c.write_text.ensures
