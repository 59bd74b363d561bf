-- `gsym_inline::head_at` meets its clause `onward`, since it meets `exact`.
-- Assumes nothing.
use Rattle.std.proofs.Common.{rules}
use Rattle.gsym_inline.specs.Head.{head_at}
use Rattle.gsym_inline.proofs.Progress.{head_onward}
use Rattle.gsym_inline.proofs.head.head_at.Goals as goal

pub returns-clause-exact : goal.returns-clause-exact
unfolding head_at
returns-clause-exact c = search rules

pub returns-clause-onward : goal.returns-clause-onward
returns-clause-onward c = head_onward _ _ _ _ (returns-clause-exact c)
