-- `gsym_report::laws::report_laws`: mostly by computing.
-- Assumes nothing.
use Rattle.std.proofs.Common.{refl}
use Rattle.std.specs.Fmt.{digits}
use Rattle.gsym_report.proofs.Plain.{answered, more, not-zero}
use Rattle.gsym_report.proofs.laws.report_laws.Goals as goal

pub returns-clause-none : goal.returns-clause-none
returns-clause-none c = λ file. refl

pub returns-clause-answered : goal.returns-clause-answered
returns-clause-answered c = answered

pub returns-clause-crash : goal.returns-clause-crash
returns-clause-crash c = λ file n. refl

pub returns-clause-returned : goal.returns-clause-returned
returns-clause-returned c = λ file index n i j. rw (not-zero index i, not-zero n j) refl

pub returns-clause-zero : goal.returns-clause-zero
unfolding digits
returns-clause-zero c = λ file index i. rw (not-zero index i) refl

pub returns-clause-more : goal.returns-clause-more
returns-clause-more c = more
