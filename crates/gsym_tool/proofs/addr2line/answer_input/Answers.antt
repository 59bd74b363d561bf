-- `gsym_tool::addr2line::answer_input`: a line more, and the end.
-- Assumes nothing.
use Rattle.gsym_tool.proofs.Knowing.{known_step, known_end}
use Rattle.gsym_tool.proofs.Lines.{left_step, left_end}
use Rattle.gsym_tool.proofs.addr2line.answer_input.Goals as goal

pub returns-then-is_nothing : goal.returns-then-is_nothing
returns-then-is_nothing g c = record {
  text =
      left_end c.args.view c.args.file.now c.next_line.new.line.items (g.R.Read.remaining c.args.input.now)
      (g.R.Read.remaining c.loop-turn.input) (g.W.Write.contents c.args.out.now) (g.W.Write.contents c.loop-turn.out)
      c.loop-turn.invariant.0 c.in_ok-next_line.ensures.line
      (rw c.as_slice-text.ensures.value at (c.is_nothing.ensures.0 c.if-is_nothing.true));
  known =
      known_end c.args.view c.args.file.now c.next_line.new.line.items (g.R.Read.remaining c.args.input.now)
      (g.R.Read.remaining c.loop-turn.input) c.loop-turn.all c.loop-turn.invariant.1 c.in_ok-next_line.ensures.line
      (rw c.as_slice-text.ensures.value at (c.is_nothing.ensures.0 c.if-is_nothing.true));
  streams = tt;
}

pub loop-turn-preserved : goal.loop-turn-preserved
loop-turn-preserved g c = (
  left_step c.args.view c.args.file.now c.next_line.new.line.items (g.R.Read.remaining c.args.input.now)
      (g.R.Read.remaining c.loop-turn.input) (g.R.Read.remaining c.next_line.new.input)
      (g.W.Write.contents c.args.out.now) (g.W.Write.contents c.loop-turn.out)
      (g.W.Write.contents c.answer_line.new.out)
      (g.W.Write.contents c.flush.new.out)
      c.loop-turn.invariant.0 c.in_ok-next_line.ensures.line c.in_ok-next_line.ensures.rest
      (rw c.as_slice-text.ensures.value at c.in_ok-known.ensures.text) c.flush.ensures.kept,
  known_step c.args.view c.args.file.now c.next_line.new.line.items (g.R.Read.remaining c.args.input.now)
      (g.R.Read.remaining c.loop-turn.input) (g.R.Read.remaining c.next_line.new.input) _ _ _
      c.loop-turn.invariant.1 c.in_ok-next_line.ensures.line c.in_ok-next_line.ensures.rest
      (rw c.as_slice-text.ensures.value at c.in_ok-known.ensures.known) c.both-all.ensures,
)
