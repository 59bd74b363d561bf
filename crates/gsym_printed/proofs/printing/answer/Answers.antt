-- `gsym_printed::printing::answer`: what stands in the lent bytes is said once, of a text from the front on.
-- Assumes nothing.
use Rattle.gsym_printed.proofs.Room.{is_written}
use Rattle.gsym_printed.proofs.printing.answer.Goals as goal

pub returns-clause-text : goal.returns-clause-text
returns-clause-text c = is_written _ _ _ _ c.put_answer.ensures.text
