-- `gsym_inline::block_in` meets its contract: the root is read as a judged node, and its frames or its fault are the
-- answer.
-- Assumes nothing.
use Rattle.std.proofs.Common.{Ok, Err, [], arith}
use Rattle.gsym_inline.proofs.Listing.{root_listed, root_refused}
use Rattle.gsym_inline.proofs.Told.{told_listed, told_refused}
use Rattle.gsym_inline.proofs.block_in.Goals as goal

pub returns-clause-exact : goal.returns-clause-exact
returns-clause-exact c =
    root_listed _ _ _ _ _ _ _ _ c.node.ensures.exact c.clear.ensures (omega arith) _ c.in_default.is

pub returns-in-Err-clause-exact : goal.returns-in-Err-clause-exact
returns-in-Err-clause-exact c =
    root_refused _ _ _ _ _ _ _ _ c.node.ensures.exact c.clear.ensures (omega arith) _ c.in-Err.is _ c.from.ensures

pub returns-clause-listed : goal.returns-clause-listed
returns-clause-listed c = told_listed _ _ _ _ _ (Ok tt) (returns-clause-exact c)

pub returns-clause-refused : goal.returns-clause-refused
returns-clause-refused c = λ k. told_refused _ _ _ _ _ (Ok tt) (returns-clause-exact c) k

pub returns-in-Err-clause-listed : goal.returns-in-Err-clause-listed
returns-in-Err-clause-listed c = told_listed _ _ _ _ _ (Err c.from.result) (returns-in-Err-clause-exact c)

pub returns-in-Err-clause-refused : goal.returns-in-Err-clause-refused
returns-in-Err-clause-refused c = λ k. told_refused _ _ _ _ [] (Err c.from.result) (returns-in-Err-clause-exact c) k
