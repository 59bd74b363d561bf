-- `gsym_form::printing::write_item`: part by part.
-- Assumes nothing.
use Rattle.std.proofs.Common.{◌++◌, codes, decimal}
use Rattle.gsym_form.specs.Printed.{bytes_behind}
use Rattle.std.proofs.KnownBytes.{Appends-trans}
use Rattle.gsym_output.proofs.Fronts.{front_of, front_then, writes_then, writes_err}
use Rattle.gsym_form.proofs.printing.write_item.Goals as goal

pub returns-in_err-write_decimal : goal.returns-in_err-write_decimal
returns-in_err-write_decimal g c =
    let a = g.W.Write.contents c.args.out.now in
    let b = g.W.Write.contents c.write_text.new.out in
    let d = g.W.Write.contents c.write_decimal.new.out in
    let blanks = codes "  " in
    let kind = decimal c.args.item.kind in
    let bytes = bytes_behind c.args.item.bytes.now in
    let newline = codes "\n" in
    writes_err a d c.from_residual-in_err-write_decimal.result (((blanks ++ kind) ++ bytes) ++ newline)
    c.from_residual-in_err-write_decimal.ensures.0
    (front_of a d ((blanks ++ kind) ++ bytes) newline
    (front_of a d (blanks ++ kind) bytes
    (front_then a b d blanks kind c.in_ok-write_text.ensures c.in_err-write_decimal.ensures)))

pub returns-in_err-write_bytes_behind : goal.returns-in_err-write_bytes_behind
returns-in_err-write_bytes_behind g c =
    let a = g.W.Write.contents c.args.out.now in
    let b = g.W.Write.contents c.write_text.new.out in
    let d = g.W.Write.contents c.write_decimal.new.out in
    let e = g.W.Write.contents c.write_bytes_behind.new.out in
    let blanks = codes "  " in
    let kind = decimal c.args.item.kind in
    let bytes = bytes_behind c.args.item.bytes.now in
    let newline = codes "\n" in
    writes_err a e c.from_residual-in_err-write_bytes_behind.result (((blanks ++ kind) ++ bytes) ++ newline)
    c.from_residual-in_err-write_bytes_behind.ensures.0
    (front_of a e ((blanks ++ kind) ++ bytes) newline
    (front_then a d e (blanks ++ kind) bytes
    (Appends-trans a b d blanks kind c.in_ok-write_text.ensures c.in_ok-write_decimal.ensures)
    c.in_err-write_bytes_behind.ensures))

pub returns : goal.returns
returns g c =
    let a = g.W.Write.contents c.args.out.now in
    let b = g.W.Write.contents c.write_text.new.out in
    let d = g.W.Write.contents c.write_decimal.new.out in
    let e = g.W.Write.contents c.write_bytes_behind.new.out in
    let h = g.W.Write.contents c.write_text-2.new.out in
    let blanks = codes "  " in
    let kind = decimal c.args.item.kind in
    let bytes = bytes_behind c.args.item.bytes.now in
    let newline = codes "\n" in
    writes_then a e h c.write_text-2.result ((blanks ++ kind) ++ bytes) newline
    (Appends-trans a d e (blanks ++ kind) bytes
    (Appends-trans a b d blanks kind c.in_ok-write_text.ensures c.in_ok-write_decimal.ensures)
    c.in_ok-write_bytes_behind.ensures) c.write_text-2.ensures
