-- `gsym_form::printing::write_string`: part by part.
-- Assumes nothing.
use Rattle.std.proofs.Common.{◌++◌, codes, decimal}
use Rattle.gsym_form.specs.Printed.{text_behind}
use Rattle.std.proofs.KnownBytes.{Appends-trans}
use Rattle.gsym_output.proofs.Fronts.{front_of, front_then, writes_then, writes_err}
use Rattle.gsym_form.proofs.printing.write_string.Goals as goal

pub returns-in_err-write_decimal : goal.returns-in_err-write_decimal
returns-in_err-write_decimal g c =
    let a = g.W.Write.contents c.args.out.now in
    let b = g.W.Write.contents c.write_text.new.out in
    let d = g.W.Write.contents c.write_decimal.new.out in
    let blank = codes " " in
    let offset = decimal c.args.offset.0 in
    let text = text_behind c.args.file.now c.args.text in
    writes_err a d c.from_residual-in_err-write_decimal.result ((blank ++ offset) ++ text)
    c.from_residual-in_err-write_decimal.ensures.0
    (front_of a d (blank ++ offset) text
    (front_then a b d blank offset c.in_ok-write_text.ensures c.in_err-write_decimal.ensures))

pub returns : goal.returns
returns g c =
    let a = g.W.Write.contents c.args.out.now in
    let b = g.W.Write.contents c.write_text.new.out in
    let d = g.W.Write.contents c.write_decimal.new.out in
    let e = g.W.Write.contents c.write_text_behind.new.out in
    let blank = codes " " in
    let offset = decimal c.args.offset.0 in
    let text = text_behind c.args.file.now c.args.text in
    writes_then a d e c.write_text_behind.result (blank ++ offset) text
    (Appends-trans a b d blank offset c.in_ok-write_text.ensures c.in_ok-write_decimal.ensures)
    c.write_text_behind.ensures
