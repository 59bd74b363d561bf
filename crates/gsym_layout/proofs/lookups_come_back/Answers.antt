-- `gsym_layout::lookups_come_back`: what a lookup answers is what is given.
-- Assumes nothing.
use Rattle.gsym_layout.proofs.Answering.{answers_given}
use Rattle.gsym_layout.proofs.lookups_come_back.Goals as goal

pub returns : goal.returns
returns c = answers_given
