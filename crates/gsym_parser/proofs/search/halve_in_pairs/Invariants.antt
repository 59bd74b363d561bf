-- `gsym_parser::search::halve_in_pairs`: the loop's invariant says that the search on the list of entries goes on at
-- `lo` and `len`, and that the entry kept is that at `lo`.
-- Assumes nothing.
use Rattle.gsym_parser.proofs.Turns.{Sofar}
use Rattle.gsym_parser.proofs.search.halve_in_pairs.Given as goal

abbrev pub invariant-loop-len : goal.invariant-loop-len
invariant-loop-len l = Sofar l.size l.n l.table l.wanted l.lo l.kept l.len

abbrev pub decreases-loop-len : goal.decreases-loop-len
decreases-loop-len l = l.len
