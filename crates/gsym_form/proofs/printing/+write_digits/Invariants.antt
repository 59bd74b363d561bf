-- `gsym_form::printing::write_digits`: the number falls.
-- Assumes nothing.
use Rattle.gsym_form.proofs.printing.+write_digits.Given as goal

abbrev pub decreases-write_digits : goal.decreases-write_digits
decreases-write_digits g l = l.number
