-- `gsym_layout::written_passes`: a written file is good exactly if its items read in full.
-- Assumes nothing.
use Rattle.gsym_layout.proofs.Passes.{written_passes}
use Rattle.gsym_layout.proofs.written_passes.Goals as goal

pub returns : goal.returns
returns c = written_passes
