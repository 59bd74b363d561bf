-- Whoever writes the objects of the addresses that are left has written those of all; whether each is known so
-- far.
use Rattle.gsym_tool.proofs.Addressing.{ObjectsLeft, KnownSoFar}
use Rattle.gsym_tool.proofs.report.put_json.Given as goal

abbrev pub invariant-loop-index : goal.invariant-loop-index
invariant-loop-index g l =
    ObjectsLeft (g.W.Write.contents l.fn.out) (g.W.Write.contents l.out) l.file l.index l.addresses
    × KnownSoFar l.all l.file l.index l.addresses
