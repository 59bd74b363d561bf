-- What lookups in a file that passed may be refused with.
-- Assumes nothing.
use Rattle.gsym_verify.proofs.Passed.{passed_plain, passed_positions, passed_code}
use Rattle.gsym_verify.proofs.laws.passed_answers.Goals as goal

pub returns-clause-names : goal.returns-clause-names
returns-clause-names c file G addr o room k r e = passed_plain file G addr o room k r e

pub returns-clause-positions : goal.returns-clause-positions
returns-clause-positions c file G addr o room k r e = passed_positions file G addr o room k r e

pub returns-clause-code_info : goal.returns-clause-code_info
returns-clause-code_info c file G addr o room r e = passed_code file G addr o room r e
