-- Whoever writes the lines of the calls that are left has written those of all.
use Rattle.std.specs.List.{flat_map}
use Rattle.gsym.specs.CallOrder.{calls_left}
use Rattle.gsym_output.specs.Lines.{ended}
use Rattle.gsym_report.specs.Report.{line_of, shown_name, name_in}
use Rattle.gsym_output.proofs.Fronts.{Leads}
use Rattle.gsym_report.proofs.lines.write_calls.Given as goal

abbrev pub invariant-loop-call : goal.invariant-loop-call
invariant-loop-call g l =
    Leads (g.W.Write.contents l.fn.out) (g.W.Write.contents l.out)
    (flat_map (λ call. ended (line_of l.index (shown_name (name_in l.file call)))) (calls_left l.call-iterator))
    (flat_map (λ call. ended (line_of l.index (shown_name (name_in l.file call)))) (calls_left l.calls))
