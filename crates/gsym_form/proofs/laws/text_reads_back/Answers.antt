-- `gsym_form::laws::text_reads_back`: line by line.
-- Assumes nothing.
use Rattle.gsym_form.proofs.Again.{says_again}
use Rattle.gsym_form.proofs.laws.text_reads_back.Goals as goal

pub returns : goal.returns
returns c file v a e r h = says_again file v a e r h
