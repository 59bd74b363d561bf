-- Whoever appends the answers to the words that the input has left has appended those to all; whether each is known so
-- far.
use Rattle.gsym_tool.proofs.Knowing.{KnownLeft}
use Rattle.gsym_tool.proofs.Lines.{Left}
use Rattle.gsym_printed.specs.Answers.{answers_text}
use Rattle.gsym_tool.specs.Known.{all_known}
use Rattle.gsym_tool.proofs.addr2line.answer_input.Given as goal

abbrev pub invariant-loop-turn : goal.invariant-loop-turn
invariant-loop-turn g l =
    Left (answers_text l.view l.file) (g.R.Read.remaining l.fn.input) (g.R.Read.remaining l.input)
    (g.W.Write.contents l.fn.out) (g.W.Write.contents l.out)
    × KnownLeft (all_known l.view l.file) (g.R.Read.remaining l.fn.input) (g.R.Read.remaining l.input) l.all
