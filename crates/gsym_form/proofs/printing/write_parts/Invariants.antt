-- Whoever writes the lines of what is left has written all.
use Rattle.std.proofs.Common.{length, ◌==◌}
use Rattle.std.specs.List.{slice_split}
use Rattle.gsym_output.specs.Lines.{text_of}
use Rattle.gsym_output.proofs.Fronts.{Leads}
use Rattle.gsym_form.specs.Printed.{part_lines}
use Rattle.gsym_form.proofs.printing.write_parts.Given as goal

abbrev pub invariant-parts : goal.invariant-parts
invariant-parts g l =
    Leads (g.W.Write.contents l.fn.out) (g.W.Write.contents l.out)
    (text_of (part_lines (slice_split (λ c. c == 0) l.rest)))
    (text_of (part_lines (slice_split (λ c. c == 0) l.strings)))

abbrev pub decreases-parts : goal.decreases-parts
decreases-parts g l = length l.rest
