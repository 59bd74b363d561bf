-- The marked examples, each by computation where its definition stands.
-- Assumes nothing.
use Rattle.gsym_resolver.specs.Examples.{marked_examples}
use Rattle.gsym_resolver.proofs.laws.marked_examples.Goals as goal

pub returns : goal.returns
returns c = marked_examples
