-- `gsym_tool::addr2line::answer_words`: one answer more.
-- Assumes nothing.
use Rattle.std.proofs.Common.{arith}
use Rattle.gsym_printed.specs.Answers.{answer_text}
use Rattle.gsym_tool.specs.Known.{is_known_word}
use Rattle.gsym_tool.proofs.Whole.{appends-more}
use Rattle.gsym_tool.proofs.Knowing.{known_more}
use Rattle.gsym_tool.proofs.addr2line.answer_words.Goals as goal

pub loop-word-preserved : goal.loop-word-preserved
loop-word-preserved g c = (
  appends-more (g.W.Write.contents c.args.out.now) (g.W.Write.contents c.loop-word.out)
      (g.W.Write.contents c.answer_word.new.out)
      (λ w. answer_text c.args.view c.args.file.now w.items) c.args.words.now c.loop-word.word-index
      c.word-item.result (omega (arith, c.loop-word-test.true)) c.word-item.is c.loop-word.invariant.0
      (rw c.as_slice.ensures.value at c.in_ok-known.ensures.text),
  known_more (λ w. is_known_word c.args.view c.args.file.now w.items) c.args.words.now c.loop-word.word-index
      c.word-item.result _ _ _ (omega (arith, c.loop-word-test.true)) c.word-item.is c.loop-word.invariant.1
      (rw c.as_slice.ensures.value at c.in_ok-known.ensures.known) c.both-all.ensures,
)
