-- `gsym_linetab::run_op` meets its clauses on how a program ends, since it meets `exact`.
-- Assumes nothing.
use Rattle.std.proofs.Common.{rules}
use Rattle.std.proofs.lemmas.Option.{gets}
use Rattle.std.proofs.lemmas.Bool.Decides.{nat_tests}
use Rattle.gsym_linetab.specs.Machine.{step_of}
use Rattle.gsym_linetab.proofs.Unread.{stopped_is, used_up_is}
use Rattle.gsym_linetab.proofs.run_op.Goals as goal

pub returns-in_err-set_file-in-1-clause-exact : goal.returns-in_err-set_file-in-1-clause-exact
unfolding step_of
returns-in_err-set_file-in-1-clause-exact c = search (rules, gets, nat_tests)

pub returns-in_err-set_file-in-1-clause-stopped : goal.returns-in_err-set_file-in-1-clause-stopped
returns-in_err-set_file-in-1-clause-stopped c = stopped_is _ _ _ _ (returns-in_err-set_file-in-1-clause-exact c)

pub returns-in_err-set_file-in-1-clause-used_up : goal.returns-in_err-set_file-in-1-clause-used_up
returns-in_err-set_file-in-1-clause-used_up c = used_up_is _ _ _ _ (returns-in_err-set_file-in-1-clause-exact c)

pub returns-in_err-advance_pc-in-2-clause-exact : goal.returns-in_err-advance_pc-in-2-clause-exact
unfolding step_of
returns-in_err-advance_pc-in-2-clause-exact c = search (rules, gets, nat_tests)

pub returns-in_err-advance_pc-in-2-clause-stopped : goal.returns-in_err-advance_pc-in-2-clause-stopped
returns-in_err-advance_pc-in-2-clause-stopped c = stopped_is _ _ _ _ (returns-in_err-advance_pc-in-2-clause-exact c)

pub returns-in_err-advance_pc-in-2-clause-used_up : goal.returns-in_err-advance_pc-in-2-clause-used_up
returns-in_err-advance_pc-in-2-clause-used_up c = used_up_is _ _ _ _ (returns-in_err-advance_pc-in-2-clause-exact c)

pub returns-in_err-advance_line-in-3-clause-exact : goal.returns-in_err-advance_line-in-3-clause-exact
unfolding step_of
returns-in_err-advance_line-in-3-clause-exact c = search (rules, gets, nat_tests)

pub returns-in_err-advance_line-in-3-clause-stopped : goal.returns-in_err-advance_line-in-3-clause-stopped
returns-in_err-advance_line-in-3-clause-stopped c = stopped_is _ _ _ _ (returns-in_err-advance_line-in-3-clause-exact c)

pub returns-in_err-advance_line-in-3-clause-used_up : goal.returns-in_err-advance_line-in-3-clause-used_up
returns-in_err-advance_line-in-3-clause-used_up c = used_up_is _ _ _ _ (returns-in_err-advance_line-in-3-clause-exact c)

pub returns-in_err-special-in_default-clause-exact : goal.returns-in_err-special-in_default-clause-exact
unfolding step_of
returns-in_err-special-in_default-clause-exact c = search (rules, gets, nat_tests)

pub returns-in_err-special-in_default-clause-stopped : goal.returns-in_err-special-in_default-clause-stopped
returns-in_err-special-in_default-clause-stopped c =
    stopped_is _ _ _ _ (returns-in_err-special-in_default-clause-exact c)

pub returns-in_err-special-in_default-clause-used_up : goal.returns-in_err-special-in_default-clause-used_up
returns-in_err-special-in_default-clause-used_up c =
    used_up_is _ _ _ _ (returns-in_err-special-in_default-clause-exact c)

pub returns-in_ok-set_file-in-1-clause-exact : goal.returns-in_ok-set_file-in-1-clause-exact
unfolding step_of
returns-in_ok-set_file-in-1-clause-exact c = search (rules, gets, nat_tests)

pub returns-in_ok-set_file-in-1-clause-stopped : goal.returns-in_ok-set_file-in-1-clause-stopped
returns-in_ok-set_file-in-1-clause-stopped c = stopped_is _ _ _ _ (returns-in_ok-set_file-in-1-clause-exact c)

pub returns-in_ok-advance_pc-in-2-clause-exact : goal.returns-in_ok-advance_pc-in-2-clause-exact
unfolding step_of
returns-in_ok-advance_pc-in-2-clause-exact c = search (rules, gets, nat_tests)

pub returns-in_ok-advance_pc-in-2-clause-stopped : goal.returns-in_ok-advance_pc-in-2-clause-stopped
returns-in_ok-advance_pc-in-2-clause-stopped c = stopped_is _ _ _ _ (returns-in_ok-advance_pc-in-2-clause-exact c)

pub returns-in_ok-advance_line-in-3-clause-exact : goal.returns-in_ok-advance_line-in-3-clause-exact
unfolding step_of
returns-in_ok-advance_line-in-3-clause-exact c = search (rules, gets, nat_tests)

pub returns-in_ok-advance_line-in-3-clause-stopped : goal.returns-in_ok-advance_line-in-3-clause-stopped
returns-in_ok-advance_line-in-3-clause-stopped c = stopped_is _ _ _ _ (returns-in_ok-advance_line-in-3-clause-exact c)

pub returns-in_ok-special-in_default-clause-exact : goal.returns-in_ok-special-in_default-clause-exact
unfolding step_of
returns-in_ok-special-in_default-clause-exact c = search (rules, gets, nat_tests)

pub returns-in_ok-special-in_default-clause-stopped : goal.returns-in_ok-special-in_default-clause-stopped
returns-in_ok-special-in_default-clause-stopped c = stopped_is _ _ _ _ (returns-in_ok-special-in_default-clause-exact c)
