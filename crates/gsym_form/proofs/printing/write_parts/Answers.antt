-- `gsym_form::printing::write_parts`: a line more.
-- Assumes nothing.
use Rattle.std.proofs.Common.{ℕ, ◌==◌, List}
use Rattle.std.specs.List.{slice_split}
use Rattle.gsym_output.specs.Lines.{ended, text_of}
use Rattle.gsym_form.specs.Printed.{string_line, part_lines}
use Rattle.gsym_output.proofs.Fronts.{leads_on, leads_cut, writes_err}
use Rattle.gsym_form.proofs.DumpLines.{part_step}
use Rattle.gsym_form.proofs.printing.write_parts.Goals as goal

pub returns-in_err-write_string_line : goal.returns-in_err-write_string_line
returns-in_err-write_string_line g c =
    let text : List ℕ → List ℕ = λ bytes. text_of (part_lines (slice_split (λ c. c == 0) bytes)) in
    writes_err (g.W.Write.contents c.args.out.now) (g.W.Write.contents c.write_string_line.new.out)
    c.from_residual.result (text c.args.strings.now) c.from_residual.ensures.0
    (leads_cut (g.W.Write.contents c.args.out.now) (g.W.Write.contents c.parts.out)
    (g.W.Write.contents c.write_string_line.new.out) (ended (string_line c.in-Some.text.now))
    (text c.in-Some.behind.now) (text c.parts.rest.now) (text c.args.strings.now) c.parts.invariant
    (part_step c.parts.rest.now c.in-Some.text.now c.in-Some.behind.now c.in-Some.ensures.parts)
    c.in_err-write_string_line.ensures)

pub parts-preserved : goal.parts-preserved
parts-preserved g c =
    let text : List ℕ → List ℕ = λ bytes. text_of (part_lines (slice_split (λ c. c == 0) bytes)) in
    leads_on (g.W.Write.contents c.args.out.now) (g.W.Write.contents c.parts.out)
    (g.W.Write.contents c.write_string_line.new.out) (ended (string_line c.in-Some.text.now))
    (text c.in-Some.behind.now) (text c.parts.rest.now) (text c.args.strings.now) c.parts.invariant
    (part_step c.parts.rest.now c.in-Some.text.now c.in-Some.behind.now c.in-Some.ensures.parts)
    c.in_ok-write_string_line.ensures
