-- `gsym_printed::words::number`: the digits left, behind the number so far, are the number of all.
-- Assumes nothing.
use Rattle.std.proofs.Common.{◌≡◌, drop}
use Rattle.gsym_printed.specs.Words.{hex_onto}
use Rattle.gsym_printed.proofs.words.number.Given as goal

abbrev pub invariant-loop-byte : goal.invariant-loop-byte
invariant-loop-byte l = hex_onto l.value (drop l.byte-index l.digits) ≡ hex_onto 0 l.digits
