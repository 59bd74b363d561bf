-- `gsym_report::laws::plain_reports`: byte by byte.
-- Assumes nothing.
use Rattle.gsym_report.proofs.Plain.{plain-lines}
use Rattle.gsym_report.proofs.laws.plain_reports.Goals as goal

pub returns : goal.returns
returns c = plain-lines
