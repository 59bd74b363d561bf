-- `gsym_resolver::lookup_in` meets its contract: laws of the definition's answers.
-- Assumes nothing.
use Rattle.gsym_resolver.proofs.Calls.{call_refused, call_answered, call_below}
use Rattle.gsym_resolver.proofs.lookup_in.Goals as goal

pub returns-clause-refused : goal.returns-clause-refused
returns-clause-refused g c = call_refused _ _ _ _ _ _ c.lookup_by.ensures.exact

pub returns-clause-answered : goal.returns-clause-answered
returns-clause-answered g c = call_answered _ _ _ _ _ _ c.lookup_by.ensures.exact

pub returns-clause-below : goal.returns-clause-below
returns-clause-below g c = call_below _ _ _ _ _ _ c.lookup_by.ensures.exact
