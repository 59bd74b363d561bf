-- `gsym_linetab::parse` meets its clause `refused`, since it meets `exact`.
-- Assumes nothing.
use Rattle.std.proofs.Common.{rules}
use Rattle.gsym_linetab.specs.Machine.{header_of}
use Rattle.gsym_linetab.proofs.Unread.{header_refused}
use Rattle.gsym_linetab.proofs.parse.Goals as goal

pub returns-in_err-max_delta-clause-exact : goal.returns-in_err-max_delta-clause-exact
unfolding header_of
returns-in_err-max_delta-clause-exact c = search rules

pub returns-in_err-max_delta-clause-refused : goal.returns-in_err-max_delta-clause-refused
returns-in_err-max_delta-clause-refused c = header_refused _ _ _ (returns-in_err-max_delta-clause-exact c)

pub returns-in_err-line-clause-exact : goal.returns-in_err-line-clause-exact
unfolding header_of
returns-in_err-line-clause-exact c = search rules

pub returns-in_err-line-clause-refused : goal.returns-in_err-line-clause-refused
returns-in_err-line-clause-refused c = header_refused _ _ _ (returns-in_err-line-clause-exact c)
