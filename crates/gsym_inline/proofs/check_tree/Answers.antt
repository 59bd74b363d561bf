-- `gsym_inline::check_tree` promises of its equation what the laws say.
-- Assumes nothing.
use Rattle.gsym_inline.proofs.CheckedSteps.{check_refused}
use Rattle.gsym_inline.proofs.CheckedTrees.{check_full}
use Rattle.gsym_inline.proofs.CheckedFaults.{check_number}
use Rattle.gsym_inline.proofs.check_tree.Goals as goal

pub returns-clause-full : goal.returns-clause-full
returns-clause-full c = check_full _ _ _ c.check_root.ensures

pub returns-clause-refused : goal.returns-clause-refused
returns-clause-refused c = check_refused _ _ _ c.check_root.ensures

pub returns-clause-number : goal.returns-clause-number
returns-clause-number c = check_number _ _ _ c.check_root.ensures
