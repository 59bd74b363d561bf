use Rattle.std.proofs.Common.{◌≡◌, drop}
use Rattle.gsym_form.specs.Said.{is_indented}
use Rattle.gsym_form.proofs.reading.is_indented.Given as goal

-- what the line says is what is left of it says
abbrev pub invariant-loop-byte : goal.invariant-loop-byte
invariant-loop-byte l = is_indented l.bytes ≡ is_indented (drop l.byte-index l.bytes)
