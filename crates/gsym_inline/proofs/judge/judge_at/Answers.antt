-- `gsym_inline::judge::judge_at` meets its clause `onward`, since it meets `exact`.
-- Assumes nothing.
use Rattle.std.proofs.Common.{rules}
use Rattle.gsym_inline.specs.Judge.{judged_at}
use Rattle.gsym_inline.proofs.Progress.{judged_onward}
use Rattle.gsym_inline.proofs.judge.judge_at.Goals as goal

pub returns-clause-exact : goal.returns-clause-exact
unfolding judged_at
returns-clause-exact c = search rules

pub returns-clause-onward : goal.returns-clause-onward
returns-clause-onward c = judged_onward _ _ _ _ (returns-clause-exact c)
