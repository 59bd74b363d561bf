-- `gsym_verify::check_watched` promises of its equation what the laws say.
-- Assumes nothing.
use Rattle.gsym_verify.proofs.Whole.{check_passes, check_first, check_only}
use Rattle.gsym_verify.proofs.Numbered.{check_numbered}
use Rattle.gsym_verify.proofs.Passed.{passed_plain, passed_positions, passed_code}
use Rattle.gsym_verify.proofs.check_watched.Goals as goal

pub returns-clause-good : goal.returns-clause-good
returns-clause-good g c = check_passes _ _ c.check_in_order.ensures

pub returns-clause-first : goal.returns-clause-first
returns-clause-first g c = check_first _ _ c.check_in_order.ensures

pub returns-clause-only : goal.returns-clause-only
returns-clause-only g c = check_only _ _ c.check_in_order.ensures

pub returns-clause-number : goal.returns-clause-number
returns-clause-number g c = check_numbered _ _ (check_first _ _ c.check_in_order.ensures)

pub returns-clause-names : goal.returns-clause-names
returns-clause-names g c ok = passed_plain c.args.file.now ((check_passes _ _ c.check_in_order.ensures).0 ok)

pub returns-clause-positions : goal.returns-clause-positions
returns-clause-positions g c ok = passed_positions c.args.file.now ((check_passes _ _ c.check_in_order.ensures).0 ok)

pub returns-clause-code_info : goal.returns-clause-code_info
returns-clause-code_info g c ok = passed_code c.args.file.now ((check_passes _ _ c.check_in_order.ensures).0 ok)
