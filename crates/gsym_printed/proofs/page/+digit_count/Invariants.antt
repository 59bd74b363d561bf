-- `gsym_printed::page::digit_count`: the number falls.
-- Assumes nothing.
use Rattle.gsym_printed.proofs.page.+digit_count.Given as goal

abbrev pub decreases-digit_count : goal.decreases-digit_count
decreases-digit_count l = l.most
