-- `gsym_form::printing::write_bytes_line`: part by part.
-- Assumes nothing.
use Rattle.std.proofs.Common.{◌++◌, codes}
use Rattle.gsym_form.specs.Printed.{quoted}
use Rattle.std.proofs.KnownBytes.{Appends-trans}
use Rattle.gsym_output.proofs.Fronts.{front_of, front_then, writes_then, writes_err}
use Rattle.gsym_form.proofs.printing.write_bytes_line.Goals as goal

pub returns-in_err-write_text : goal.returns-in_err-write_text
returns-in_err-write_text g c =
    let a = g.W.Write.contents c.args.out.now in
    let b = g.W.Write.contents c.write_text.new.out in
    let word = codes "bytes " in
    let text = quoted c.args.bytes.now in
    let newline = codes "\n" in
    writes_err a b c.from_residual.result ((word ++ text) ++ newline) c.from_residual.ensures.0
    (front_of a b (word ++ text) newline (front_of a b word text c.in_err-write_text.ensures))

pub returns-in_err-write_quoted : goal.returns-in_err-write_quoted
returns-in_err-write_quoted g c =
    let a = g.W.Write.contents c.args.out.now in
    let b = g.W.Write.contents c.write_text.new.out in
    let d = g.W.Write.contents c.write_quoted.new.out in
    let word = codes "bytes " in
    let text = quoted c.args.bytes.now in
    let newline = codes "\n" in
    writes_err a d c.from_residual-in_err-write_quoted.result ((word ++ text) ++ newline)
    c.from_residual-in_err-write_quoted.ensures.0
    (front_of a d (word ++ text) newline
    (front_then a b d word text c.in_ok-write_text.ensures c.in_err-write_quoted.ensures))

pub returns : goal.returns
returns g c =
    let a = g.W.Write.contents c.args.out.now in
    let b = g.W.Write.contents c.write_text.new.out in
    let d = g.W.Write.contents c.write_quoted.new.out in
    let e = g.W.Write.contents c.write_text-2.new.out in
    let word = codes "bytes " in
    let text = quoted c.args.bytes.now in
    let newline = codes "\n" in
    writes_then a d e c.write_text-2.result (word ++ text) newline
    (Appends-trans a b d word text c.in_ok-write_text.ensures c.in_ok-write_quoted.ensures) c.write_text-2.ensures
