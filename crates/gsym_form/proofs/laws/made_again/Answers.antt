-- `gsym_form::laws::made_again`: the text that is printed says the same, and what says the same answers the same.
-- Assumes nothing.
use Rattle.gsym_form.proofs.MadeAgain.{made_again}
use Rattle.gsym_form.proofs.laws.made_again.Goals as goal

pub returns : goal.returns
returns c file v a e said q = made_again file v a e said q
