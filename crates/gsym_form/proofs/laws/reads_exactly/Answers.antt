-- `gsym_form::laws::reads_exactly`: the first line that isn't read as it was printed is wrong, and ends the text.
-- Assumes nothing.
use Rattle.gsym_form.proofs.Again.{reads_exactly}
use Rattle.gsym_form.proofs.laws.reads_exactly.Goals as goal

pub returns : goal.returns
returns c file v a e = reads_exactly file v a e
