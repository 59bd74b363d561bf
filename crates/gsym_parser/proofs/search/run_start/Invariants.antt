-- `gsym_parser::search::run_start`: the run's start from its end is that from the entry in hand, which is the run's.
-- Assumes nothing.
use Rattle.gsym_parser.proofs.Turns.{Scanned}
use Rattle.gsym_parser.proofs.search.run_start.Given as goal

abbrev pub invariant-loop-start : goal.invariant-loop-start
invariant-loop-start l = Scanned l.size l.table l.last l.entry l.start

abbrev pub decreases-loop-start : goal.decreases-loop-start
decreases-loop-start l = l.start
