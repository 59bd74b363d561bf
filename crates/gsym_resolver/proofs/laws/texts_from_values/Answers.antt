-- Texts as bytes: the law of a lookup.
-- Assumes nothing.
use Rattle.gsym_resolver.proofs.Texts.{lookup_texts}
use Rattle.gsym_resolver.proofs.laws.texts_from_values.Goals as goal

pub returns : goal.returns
returns c = lookup_texts
