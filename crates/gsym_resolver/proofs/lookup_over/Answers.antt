-- `gsym_resolver::lookup_over` meets its contract: laws of the definition's answers.
-- Assumes nothing.
use Rattle.gsym_resolver.proofs.Calls.{call_refused, call_below}
use Rattle.gsym_resolver.proofs.Placed.{over_answered}
use Rattle.gsym_resolver.proofs.lookup_over.Goals as goal

pub returns-clause-refused : goal.returns-clause-refused
returns-clause-refused c = call_refused _ _ _ _ _ _ c.found_over.ensures.exact

pub returns-clause-answered : goal.returns-clause-answered
returns-clause-answered c = over_answered _ _ _ _ _ _ c.found_over.ensures.exact

pub returns-clause-below : goal.returns-clause-below
returns-clause-below c = call_below _ _ _ _ _ _ c.found_over.ensures.exact
