-- Refused and answered exactly so: the laws of a lookup.
-- Assumes nothing.
use Rattle.gsym_resolver.proofs.Lookups.{lookup_refused, lookup_answered, lookup_unmet}
use Rattle.gsym_resolver.proofs.laws.refused_or_answered.Goals as goal

pub returns-clause-refused : goal.returns-clause-refused
returns-clause-refused c = lookup_refused

pub returns-clause-answered : goal.returns-clause-answered
returns-clause-answered c = lookup_answered

pub returns-clause-unmet : goal.returns-clause-unmet
returns-clause-unmet c = lookup_unmet
