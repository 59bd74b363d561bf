-- `gsym_form::printing::write_address`: part by part.
-- Assumes nothing.
use Rattle.std.proofs.Common.{◌++◌, codes}
use Rattle.gsym_form.specs.Printed.{hexadecimal}
use Rattle.gsym_output.proofs.Fronts.{front_of, writes_err}
use Rattle.gsym_form.proofs.printing.write_address.Goals as goal

pub returns-in_err-write_text : goal.returns-in_err-write_text
returns-in_err-write_text g c =
    let a = g.W.Write.contents c.args.out.now in
    let b = g.W.Write.contents c.write_text.new.out in
    let word = codes "entry " in
    let addr = hexadecimal c.args.addr in
    writes_err a b c.from_residual.result (word ++ addr) c.from_residual.ensures.0
    (front_of a b word addr c.in_err-write_text.ensures)
