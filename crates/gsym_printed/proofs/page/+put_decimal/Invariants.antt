-- `gsym_printed::page::put_decimal`: the number falls.
-- Assumes nothing.
use Rattle.gsym_printed.proofs.page.+put_decimal.Given as goal

abbrev pub decreases-put_decimal : goal.decreases-put_decimal
decreases-put_decimal l = l.n
