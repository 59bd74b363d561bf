-- Whoever writes the lines of the addresses that are left has written those of all; and how many were refused so far.
use Rattle.std.proofs.Common.{◌≡◌, ◌+◌, ◌≤◌, drop}
use Rattle.gsym_report.specs.Report.{report_of}
use Rattle.gsym_output.proofs.Fronts.{Leads}
use Rattle.gsym_report.proofs.LineTexts.{text_from, refused_from}
use Rattle.gsym_report.proofs.lines.write_report.Given as goal

abbrev pub invariant-loop-index : goal.invariant-loop-index
invariant-loop-index g l =
    record {
      text :
          Leads (g.W.Write.contents l.fn.out) (g.W.Write.contents l.out)
          (text_from l.file l.index (drop l.index l.addresses)) (report_of l.file l.addresses);
      counted :
          l.refused + refused_from l.file l.index (drop l.index l.addresses) ≡ refused_from l.file 0 l.addresses;
      within : l.refused ≤ l.index;
    }
