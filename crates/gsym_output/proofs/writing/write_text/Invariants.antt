-- What was written and what is left is the text.
use Rattle.gsym_output.proofs.Fronts.{PartWritten}
use Rattle.gsym_output.proofs.writing.write_text.Given as goal

abbrev pub invariant-loop-turn : goal.invariant-loop-turn
invariant-loop-turn g l = PartWritten (g.W.Write.contents l.fn.out) (g.W.Write.contents l.out) l.rest l.text
