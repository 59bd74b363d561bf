-- `gsym_printed::laws::plain_texts`: part by part.
-- Assumes nothing.
use Rattle.gsym_printed.proofs.Texts as plain
use Rattle.gsym_printed.proofs.laws.plain_texts.Goals as goal

pub returns : goal.returns
returns c = plain.plain_texts
