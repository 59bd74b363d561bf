-- `gsym_form::printing::write_entry_line`: part by part.
-- Assumes nothing.
use Rattle.std.proofs.Common.{◌++◌, codes, decimal}
use Rattle.gsym_parser.specs.Texts.{name_at}
use Rattle.gsym_parser.specs.View.{view}
use Rattle.gsym_form.specs.Printed.{hexadecimal, string_shown}
use Rattle.std.proofs.KnownBytes.{Appends-trans}
use Rattle.gsym_output.proofs.Fronts.{front_of, front_then, writes_then, writes_err}
use Rattle.gsym_form.proofs.printing.write_entry_line.Goals as goal

pub returns-in_err-write_address : goal.returns-in_err-write_address
returns-in_err-write_address g c =
    let v = view c.args.context.now in
    let i = c.args.info in
    let a = g.W.Write.contents c.args.out.now in
    let b = g.W.Write.contents c.write_address.new.out in
    let addr = codes "entry " ++ hexadecimal c.args.addr in
    let blank = codes " " in
    let size = decimal i.size in
    let name = string_shown v.file i.name (name_at v i.name) in
    let newline = codes "\n" in
    writes_err a b c.from_residual.result ((((addr ++ blank) ++ size) ++ name) ++ newline) c.from_residual.ensures.0
    (front_of a b (((addr ++ blank) ++ size) ++ name) newline
    (front_of a b ((addr ++ blank) ++ size) name
    (front_of a b (addr ++ blank) size (front_of a b addr blank c.in_err-write_address.ensures))))

pub returns-in_err-write_text : goal.returns-in_err-write_text
returns-in_err-write_text g c =
    let v = view c.args.context.now in
    let i = c.args.info in
    let a = g.W.Write.contents c.args.out.now in
    let b = g.W.Write.contents c.write_address.new.out in
    let d = g.W.Write.contents c.write_text.new.out in
    let addr = codes "entry " ++ hexadecimal c.args.addr in
    let blank = codes " " in
    let size = decimal i.size in
    let name = string_shown v.file i.name (name_at v i.name) in
    let newline = codes "\n" in
    writes_err a d c.from_residual-in_err-write_text.result ((((addr ++ blank) ++ size) ++ name) ++ newline)
    c.from_residual-in_err-write_text.ensures.0
    (front_of a d (((addr ++ blank) ++ size) ++ name) newline
    (front_of a d ((addr ++ blank) ++ size) name
    (front_of a d (addr ++ blank) size
    (front_then a b d addr blank c.in_ok-write_address.ensures c.in_err-write_text.ensures))))

pub returns-in_err-write_decimal : goal.returns-in_err-write_decimal
returns-in_err-write_decimal g c =
    let v = view c.args.context.now in
    let i = c.args.info in
    let a = g.W.Write.contents c.args.out.now in
    let b = g.W.Write.contents c.write_address.new.out in
    let d = g.W.Write.contents c.write_text.new.out in
    let e = g.W.Write.contents c.write_decimal.new.out in
    let addr = codes "entry " ++ hexadecimal c.args.addr in
    let blank = codes " " in
    let size = decimal i.size in
    let name = string_shown v.file i.name (name_at v i.name) in
    let newline = codes "\n" in
    writes_err a e c.from_residual-in_err-write_decimal.result ((((addr ++ blank) ++ size) ++ name) ++ newline)
    c.from_residual-in_err-write_decimal.ensures.0
    (front_of a e (((addr ++ blank) ++ size) ++ name) newline
    (front_of a e ((addr ++ blank) ++ size) name
    (front_then a d e (addr ++ blank) size
    (Appends-trans a b d addr blank c.in_ok-write_address.ensures c.in_ok-write_text.ensures)
    c.in_err-write_decimal.ensures)))

pub returns-in_err-write_string : goal.returns-in_err-write_string
returns-in_err-write_string g c =
    let v = view c.args.context.now in
    let i = c.args.info in
    let a = g.W.Write.contents c.args.out.now in
    let b = g.W.Write.contents c.write_address.new.out in
    let d = g.W.Write.contents c.write_text.new.out in
    let e = g.W.Write.contents c.write_decimal.new.out in
    let h = g.W.Write.contents c.write_string.new.out in
    let addr = codes "entry " ++ hexadecimal c.args.addr in
    let blank = codes " " in
    let size = decimal i.size in
    let name = string_shown v.file i.name (name_at v i.name) in
    let newline = codes "\n" in
    writes_err a h c.from_residual-in_err-write_string.result ((((addr ++ blank) ++ size) ++ name) ++ newline)
    c.from_residual-in_err-write_string.ensures.0
    (front_of a h (((addr ++ blank) ++ size) ++ name) newline
    (front_then a e h ((addr ++ blank) ++ size) name
    (Appends-trans a d e (addr ++ blank) size
    (Appends-trans a b d addr blank c.in_ok-write_address.ensures c.in_ok-write_text.ensures)
    c.in_ok-write_decimal.ensures) (rw c.name_at-name.ensures at c.in_err-write_string.ensures)))

pub returns : goal.returns
returns g c =
    let v = view c.args.context.now in
    let i = c.args.info in
    let a = g.W.Write.contents c.args.out.now in
    let b = g.W.Write.contents c.write_address.new.out in
    let d = g.W.Write.contents c.write_text.new.out in
    let e = g.W.Write.contents c.write_decimal.new.out in
    let h = g.W.Write.contents c.write_string.new.out in
    let j = g.W.Write.contents c.write_text-2.new.out in
    let addr = codes "entry " ++ hexadecimal c.args.addr in
    let blank = codes " " in
    let size = decimal i.size in
    let name = string_shown v.file i.name (name_at v i.name) in
    let newline = codes "\n" in
    writes_then a h j c.write_text-2.result (((addr ++ blank) ++ size) ++ name) newline
    (Appends-trans a e h ((addr ++ blank) ++ size) name
    (Appends-trans a d e (addr ++ blank) size
    (Appends-trans a b d addr blank c.in_ok-write_address.ensures c.in_ok-write_text.ensures)
    c.in_ok-write_decimal.ensures) (rw c.name_at-name.ensures at c.in_ok-write_string.ensures))
    c.write_text-2.ensures
