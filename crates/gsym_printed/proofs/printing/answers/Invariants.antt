-- `gsym_printed::printing::answers`: what is written of the words that are left comes to what is written of all.
-- Assumes nothing.
use Rattle.std.proofs.Common.{◌≡◌, length}
use Rattle.gsym_printed.specs.Page.{put}
use Rattle.gsym_printed.specs.Answers.{answers_text}
use Rattle.gsym_printed.proofs.printing.answers.Given as goal

abbrev pub invariant-loop-word : goal.invariant-loop-word
invariant-loop-word l =
    put (l.room, l.at) (answers_text l.view l.file l.rest) ≡ put (l.fn.room, 0) (answers_text l.view l.file l.input)

abbrev pub decreases-loop-word : goal.decreases-loop-word
decreases-loop-word l = length l.rest
