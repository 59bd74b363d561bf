-- `gsym_form::printing::write_quoted`: part by part.
-- Assumes nothing.
use Rattle.std.proofs.Common.{◌++◌, codes}
use Rattle.std.specs.List.{flat_map}
use Rattle.gsym_form.specs.Printed.{text_byte}
use Rattle.std.proofs.KnownBytes.{Appends-trans}
use Rattle.gsym_output.proofs.Fronts.{front_of, front_then, writes_then, writes_err}
use Rattle.gsym_form.proofs.printing.write_quoted.Goals as goal

pub returns-in_err-write_bytes : goal.returns-in_err-write_bytes
returns-in_err-write_bytes g c =
    let a = g.W.Write.contents c.args.out.now in
    let b = g.W.Write.contents c.write_text.new.out in
    let d = g.W.Write.contents c.write_bytes.new.out in
    let mark = codes "\"" in
    let bytes = flat_map text_byte c.args.bytes.now in
    writes_err a d c.from_residual-in_err-write_bytes.result ((mark ++ bytes) ++ mark)
    c.from_residual-in_err-write_bytes.ensures.0
    (front_of a d (mark ++ bytes) mark
    (front_then a b d mark bytes c.in_ok-write_text.ensures c.in_err-write_bytes.ensures))

pub returns : goal.returns
returns g c =
    let a = g.W.Write.contents c.args.out.now in
    let b = g.W.Write.contents c.write_text.new.out in
    let d = g.W.Write.contents c.write_bytes.new.out in
    let e = g.W.Write.contents c.write_text-2.new.out in
    let mark = codes "\"" in
    let bytes = flat_map text_byte c.args.bytes.now in
    writes_then a d e c.write_text-2.result (mark ++ bytes) mark
    (Appends-trans a b d mark bytes c.in_ok-write_text.ensures c.in_ok-write_bytes.ensures) c.write_text-2.ensures
