-- `gsym_form::laws::written_as_said`: entry by entry, and item by item.
-- Assumes nothing.
use Rattle.gsym_form.proofs.SaidForms.{form_given}
use Rattle.gsym_form.proofs.laws.written_as_said.Goals as goal

pub returns : goal.returns
returns c = form_given
