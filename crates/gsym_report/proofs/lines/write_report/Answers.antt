-- `gsym_report::lines::write_report`: the lines of an address more.
-- Assumes nothing.
use Rattle.std.proofs.Common.{arith, ap, ◌∙◌}
use Rattle.std.specs.Int.{from_bool}
use Rattle.gsym_report.specs.Report.{report_of}
use Rattle.gsym_output.proofs.Fronts.{leads_on, leads_cut, on_err}
use Rattle.gsym_report.proofs.LineTexts.{text-drop, counted-more, bool-most}
use Rattle.gsym_report.proofs.lines.write_report.Goals as goal

pub returns-in_err-write_address-clause-front : goal.returns-in_err-write_address-clause-front
returns-in_err-write_address-clause-front g c =
    on_err _ c.from_residual.result
    (leads_cut (g.W.Write.contents c.args.out.now) (g.W.Write.contents c.loop-index.out)
    (g.W.Write.contents c.write_address.new.out) _ _ _ (report_of c.args.file.now c.args.addresses.now)
    c.loop-index.invariant.text
    (text-drop c.args.file.now c.args.addresses.now c.loop-index.index _ c.loop-index-test.true)
    c.in_err-write_address.ensures.lines)

pub loop-index-preserved : goal.loop-index-preserved
loop-index-preserved g c = record {
  text =
      leads_on (g.W.Write.contents c.args.out.now) (g.W.Write.contents c.loop-index.out)
      (g.W.Write.contents c.write_address.new.out) _ _ _ (report_of c.args.file.now c.args.addresses.now)
      c.loop-index.invariant.text
      (text-drop c.args.file.now c.args.addresses.now c.loop-index.index _ c.loop-index-test.true)
      c.in_ok-write_address.ensures.lines;
  counted =
      counted-more c.args.file.now c.args.addresses.now c.loop-index.index c.loop-index.refused c.from.result _
      c.loop-index-test.true c.loop-index.invariant.counted
      (c.from.ensures ∙ ap from_bool c.in_ok-write_address.ensures.refused);
  within =
      omega (arith, c.loop-index.invariant.within, c.from.ensures, bool-most c.in_ok-write_address.field-0);
}
