-- `gsym_form::line::digits`: the digits left, behind the number so far, come to what all come to.
-- Assumes nothing.
use Rattle.std.proofs.Common.{◌≡◌, drop}
use Rattle.gsym_form.specs.Words.{digits_onto}
use Rattle.gsym_form.proofs.line.digits.Given as goal

abbrev pub invariant-loop-byte : goal.invariant-loop-byte
invariant-loop-byte l = digits_onto l.base l.number (drop l.byte-index l.word) ≡ digits_onto l.base 0 l.word
