-- `gsym_form::line::open_text`: what is left, behind the bytes so far, is the text of all.
-- Assumes nothing.
use Rattle.std.proofs.Common.{length}
use Rattle.gsym_form.proofs.Texts.{IsLeft}
use Rattle.gsym_form.proofs.line.open_text.Given as goal

abbrev pub decreases-bytes : goal.decreases-bytes
decreases-bytes l = length l.rest

abbrev pub invariant-bytes : goal.invariant-bytes
invariant-bytes l = IsLeft l.initial.rest l.text.items l.rest
