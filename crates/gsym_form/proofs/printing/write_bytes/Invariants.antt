-- Whoever writes the rest of the bytes has written all of them.
use Rattle.std.proofs.Common.{length}
use Rattle.std.specs.List.{flat_map}
use Rattle.gsym_output.proofs.Fronts.{Leads}
use Rattle.gsym_form.specs.Printed.{text_byte}
use Rattle.gsym_form.proofs.printing.write_bytes.Given as goal

abbrev pub invariant-loop-rest : goal.invariant-loop-rest
invariant-loop-rest g l =
    Leads (g.W.Write.contents l.fn.out) (g.W.Write.contents l.out) (flat_map text_byte l.rest)
    (flat_map text_byte l.bytes)

abbrev pub decreases-loop-rest : goal.decreases-loop-rest
decreases-loop-rest g l = length l.rest
