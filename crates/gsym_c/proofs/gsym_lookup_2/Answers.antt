-- `gsym_c::gsym_lookup_2` meets its contract: it tells by numbers what `Gsym::lookup` returns.
-- Assumes nothing.
use Rattle.std.proofs.Common.{◌∙◌, rules}
use Rattle.gsym_c.proofs.Told.{told_exact, told_covered, told_blocks, told_header, told_wide}
use Rattle.gsym_c.proofs.Told.{told_no_code_info, told_no_inlining}
use Rattle.gsym_c.proofs.gsym_lookup_2.Goals as goal

pub returns-clause-promises : goal.returns-clause-promises
returns-clause-promises c = search rules

pub returns-clause-exact : goal.returns-clause-exact
returns-clause-exact c = let p = returns-clause-promises c in p.1 ∙ told_exact _ _ _ _ _ _ p.2

pub returns-clause-covered : goal.returns-clause-covered
returns-clause-covered c = let p = returns-clause-promises c in rw p.1 (told_covered _ _ _ _ _ _ p.2)

pub returns-clause-blocks : goal.returns-clause-blocks
returns-clause-blocks c = let p = returns-clause-promises c in rw p.1 (λ r e l m. told_blocks _ _ _ _ _ _ p.2 r e l m)

pub returns-clause-header : goal.returns-clause-header
returns-clause-header c = let p = returns-clause-promises c in rw p.1 (told_header _ _ _ _ _ _ p.2)

pub returns-clause-wide : goal.returns-clause-wide
returns-clause-wide c = let p = returns-clause-promises c in rw p.1 (told_wide _ _ _ _ _ _ p.2)

pub returns-clause-no_code_info : goal.returns-clause-no_code_info
returns-clause-no_code_info c = let p = returns-clause-promises c in rw p.1 (told_no_code_info _ _ _ _ _ _ p.2)

pub returns-clause-no_inlining : goal.returns-clause-no_inlining
returns-clause-no_inlining c = let p = returns-clause-promises c in rw p.1 (told_no_inlining _ _ _ _ _ _ p.2)
