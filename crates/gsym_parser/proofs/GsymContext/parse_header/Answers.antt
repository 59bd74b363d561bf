-- `gsym_parser::GsymContext::parse_header` meets its contract: the refusals of the definition, in the words of RULES.
-- Assumes nothing.
use Rattle.gsym_parser.proofs.Unopened.{call_refused}
use Rattle.gsym_parser.proofs.GsymContext.parse_header.Goals as goal

pub returns-clause-refused : goal.returns-clause-refused
returns-clause-refused c = λ r. call_refused _ _ c.open.ensures r
