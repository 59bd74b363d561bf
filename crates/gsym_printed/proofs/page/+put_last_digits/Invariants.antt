-- `gsym_printed::page::put_last_digits`: the number falls.
-- Assumes nothing.
use Rattle.gsym_printed.proofs.page.+put_last_digits.Given as goal

abbrev pub decreases-put_last_digits : goal.decreases-put_last_digits
decreases-put_last_digits l = l.count
