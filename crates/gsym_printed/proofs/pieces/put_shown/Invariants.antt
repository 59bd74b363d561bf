-- `gsym_printed::pieces::put_shown`: what is written of the rest comes to what is written of all.
-- Assumes nothing.
use Rattle.std.proofs.Common.{◌≡◌, length}
use Rattle.gsym_printed.specs.Page.{put}
use Rattle.gsym_printed.specs.Pieces.{shown_text}
use Rattle.gsym_printed.proofs.pieces.put_shown.Given as goal

abbrev pub invariant-loop-rest : goal.invariant-loop-rest
invariant-loop-rest l =
    put (l.room, l.at) (shown_text l.form l.rest) ≡ put (l.fn.room, l.fn.at) (shown_text l.form l.bytes)

abbrev pub decreases-loop-rest : goal.decreases-loop-rest
decreases-loop-rest l = length l.rest
