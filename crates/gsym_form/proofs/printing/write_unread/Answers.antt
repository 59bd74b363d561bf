-- `gsym_form::printing::write_unread`: part by part.
-- Assumes nothing.
use Rattle.std.proofs.Common.{◌++◌, codes}
use Rattle.gsym_form.specs.Printed.{hexadecimal}
use Rattle.std.proofs.KnownBytes.{Appends-trans}
use Rattle.gsym_output.proofs.Fronts.{front_of, front_then, writes_then, writes_err}
use Rattle.gsym_form.proofs.printing.write_unread.Goals as goal

pub returns-in_err-write_address : goal.returns-in_err-write_address
returns-in_err-write_address g c =
    let a = g.W.Write.contents c.args.out.now in
    let b = g.W.Write.contents c.write_address.new.out in
    let addr = codes "entry " ++ hexadecimal c.args.addr in
    let why = codes " ?5" in
    let newline = codes "\n" in
    writes_err a b c.from_residual.result ((addr ++ why) ++ newline) c.from_residual.ensures.0
    (front_of a b (addr ++ why) newline (front_of a b addr why c.in_err-write_address.ensures))

pub returns-in_err-write_text : goal.returns-in_err-write_text
returns-in_err-write_text g c =
    let a = g.W.Write.contents c.args.out.now in
    let b = g.W.Write.contents c.write_address.new.out in
    let d = g.W.Write.contents c.write_text.new.out in
    let addr = codes "entry " ++ hexadecimal c.args.addr in
    let why = codes " ?5" in
    let newline = codes "\n" in
    writes_err a d c.from_residual-in_err-write_text.result ((addr ++ why) ++ newline)
    c.from_residual-in_err-write_text.ensures.0
    (front_of a d (addr ++ why) newline
    (front_then a b d addr why c.in_ok-write_address.ensures c.in_err-write_text.ensures))

pub returns : goal.returns
returns g c =
    let a = g.W.Write.contents c.args.out.now in
    let b = g.W.Write.contents c.write_address.new.out in
    let d = g.W.Write.contents c.write_text.new.out in
    let e = g.W.Write.contents c.write_text-2.new.out in
    let addr = codes "entry " ++ hexadecimal c.args.addr in
    let why = codes " ?5" in
    let newline = codes "\n" in
    writes_then a d e c.write_text-2.result (addr ++ why) newline
    (Appends-trans a b d addr why c.in_ok-write_address.ensures c.in_ok-write_text.ensures) c.write_text-2.ensures
