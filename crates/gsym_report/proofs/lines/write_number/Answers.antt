-- `gsym_report::lines::write_number`: part by part.
-- Assumes nothing.
use Rattle.std.proofs.Common.{codes, decimal}
use Rattle.gsym_types.specs.Refusal.{number_of}
use Rattle.gsym_output.proofs.Fronts.{writes_then}
use Rattle.gsym_report.proofs.lines.write_number.Goals as goal

pub returns : goal.returns
returns g c =
    writes_then (g.W.Write.contents c.args.out.now) (g.W.Write.contents c.write_text.new.out)
    (g.W.Write.contents c.write_text-2.new.out) c.write_text-2.result (codes "?") (decimal (number_of c.args.refusal))
    c.in_ok-write_text.ensures
    (rw (c.as_bytes.ensures.value, c.format.ensures.text, c.number.ensures.value) at c.write_text-2.ensures)
