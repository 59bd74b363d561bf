-- `gsym_tool::report::put_json`: an object more.
-- Assumes nothing.
use Rattle.gsym_tool.proofs.Addressing.{objects_on, known_on}
use Rattle.gsym_tool.proofs.report.put_json.Goals as goal

pub loop-index-preserved : goal.loop-index-preserved
loop-index-preserved g c = (
  objects_on (g.W.Write.contents c.args.out.now) (g.W.Write.contents c.loop-index.out)
      (g.W.Write.contents c.put.new.out) c.args.file.now c.loop-index.index c.args.addresses.now _
      c.loop-index-test.true c.loop-index.invariant.0
      (rw c.in_ok-line.ensures.text at (rw c.deref.ensures.value at c.in_ok-put.ensures.text)),
  known_on c.loop-index.all c.in_ok-line.known c.both-all.result c.args.file.now c.loop-index.index
      c.args.addresses.now _ c.loop-index-test.true c.loop-index.invariant.1 c.in_ok-line.ensures.known
      c.both-all.ensures,
)
