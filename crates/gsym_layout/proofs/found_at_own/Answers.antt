-- `gsym_layout::found_at_own`: an entry's own address lands on it.
-- Assumes nothing.
use Rattle.gsym_layout.proofs.Answering.{found_at_own}
use Rattle.gsym_layout.proofs.found_at_own.Goals as goal

pub returns : goal.returns
returns c = found_at_own
