-- Whoever writes the rest of the name has written all of it.
use Rattle.std.proofs.Common.{length}
use Rattle.gsym_report.specs.Report.{shown_name}
use Rattle.gsym_output.proofs.Fronts.{Leads}
use Rattle.gsym_report.proofs.lines.write_name.Given as goal

abbrev pub invariant-loop-rest : goal.invariant-loop-rest
invariant-loop-rest g l =
    Leads (g.W.Write.contents l.fn.out) (g.W.Write.contents l.out) (shown_name l.rest) (shown_name l.name)

abbrev pub decreases-loop-rest : goal.decreases-loop-rest
decreases-loop-rest g l = length l.rest
