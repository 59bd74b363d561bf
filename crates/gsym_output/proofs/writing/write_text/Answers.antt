-- `gsym_output::writing::write_text`: a piece more.
-- Assumes nothing.
use Rattle.gsym_output.proofs.Fronts.{part_on}
use Rattle.gsym_output.proofs.writing.write_text.Goals as goal

pub loop-turn-preserved : goal.loop-turn-preserved
loop-turn-preserved g c =
    rw c.split_at.ensures.back
    (part_on (g.W.Write.contents c.args.out.now) (g.W.Write.contents c.loop-turn.out)
    (g.W.Write.contents c.write_some.new.out) c.loop-turn.rest.now c.args.text.now c.in_ok-len.len
    c.loop-turn.invariant c.in_ok-len.ensures.taken)
