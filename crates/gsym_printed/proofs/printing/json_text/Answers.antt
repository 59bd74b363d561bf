-- `gsym_printed::printing::json_text`: what stands in the lent bytes is said once, of a text from the front on.
-- Assumes nothing.
use Rattle.gsym_printed.proofs.Room.{is_written}
use Rattle.gsym_printed.proofs.printing.json_text.Goals as goal

pub returns : goal.returns
returns c = is_written _ _ _ _ c.put_shown.ensures
