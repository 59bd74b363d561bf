-- `gsym_printed::printing::answers`: no word is left, and what stands in the lent bytes is said once, of a text from
-- the front on.
-- Assumes nothing.
use Rattle.std.proofs.Common.{sym, ◌∙◌}
use Rattle.gsym_printed.specs.Answers.{answer_text}
use Rattle.gsym_printed.specs.Words.{words}
use Rattle.gsym_printed.proofs.Put.{put_none}
use Rattle.gsym_printed.proofs.Room.{is_written}
use Rattle.gsym_printed.proofs.printing.answers.Goals as goal

pub returns : goal.returns
returns c =
    is_written _ _ _ _
    (sym
    (put_none (answer_text c.args.view c.args.file.now) (c.loop-word.room, c.loop-word.at) (words c.loop-word.rest.now)
    c.in_default.ensures.none)
    ∙ c.loop-word.invariant)
