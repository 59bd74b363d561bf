-- `gsym_form::printing::write_file`: part by part.
-- Assumes nothing.
use Rattle.std.proofs.Common.{◌++◌, codes}
use Rattle.gsym_parser.specs.Texts.{text_at}
use Rattle.gsym_parser.specs.View.{view}
use Rattle.gsym_form.specs.Printed.{string_shown}
use Rattle.std.proofs.KnownBytes.{Appends-trans}
use Rattle.gsym_output.proofs.Fronts.{front_of, front_then, writes_then, writes_err}
use Rattle.gsym_form.proofs.printing.write_file.Goals as goal

pub returns-in_err-write_text : goal.returns-in_err-write_text
returns-in_err-write_text g c =
    let v = view c.args.context.now in
    let f = c.args.file in
    let a = g.W.Write.contents c.args.out.now in
    let b = g.W.Write.contents c.write_text.new.out in
    let word = codes "file" in
    let directory = string_shown v.file f.directory (text_at v f.directory) in
    let filename = string_shown v.file f.filename (text_at v f.filename) in
    let newline = codes "\n" in
    writes_err a b c.from_residual.result (((word ++ directory) ++ filename) ++ newline) c.from_residual.ensures.0
    (front_of a b ((word ++ directory) ++ filename) newline
    (front_of a b (word ++ directory) filename (front_of a b word directory c.in_err-write_text.ensures)))

pub returns-in_err-write_string : goal.returns-in_err-write_string
returns-in_err-write_string g c =
    let v = view c.args.context.now in
    let f = c.args.file in
    let a = g.W.Write.contents c.args.out.now in
    let b = g.W.Write.contents c.write_text.new.out in
    let d = g.W.Write.contents c.write_string.new.out in
    let word = codes "file" in
    let directory = string_shown v.file f.directory (text_at v f.directory) in
    let filename = string_shown v.file f.filename (text_at v f.filename) in
    let newline = codes "\n" in
    writes_err a d c.from_residual-in_err-write_string.result (((word ++ directory) ++ filename) ++ newline)
    c.from_residual-in_err-write_string.ensures.0
    (front_of a d ((word ++ directory) ++ filename) newline
    (front_of a d (word ++ directory) filename
    (front_then a b d word directory c.in_ok-write_text.ensures
    (rw c.text_at-directory.ensures.exact at c.in_err-write_string.ensures))))

pub returns-in_err-write_string-2 : goal.returns-in_err-write_string-2
returns-in_err-write_string-2 g c =
    let v = view c.args.context.now in
    let f = c.args.file in
    let a = g.W.Write.contents c.args.out.now in
    let b = g.W.Write.contents c.write_text.new.out in
    let d = g.W.Write.contents c.write_string.new.out in
    let e = g.W.Write.contents c.write_string-2.new.out in
    let word = codes "file" in
    let directory = string_shown v.file f.directory (text_at v f.directory) in
    let filename = string_shown v.file f.filename (text_at v f.filename) in
    let newline = codes "\n" in
    writes_err a e c.from_residual-in_err-write_string-2.result (((word ++ directory) ++ filename) ++ newline)
    c.from_residual-in_err-write_string-2.ensures.0
    (front_of a e ((word ++ directory) ++ filename) newline
    (front_then a d e (word ++ directory) filename
    (Appends-trans a b d word directory c.in_ok-write_text.ensures
    (rw c.text_at-directory.ensures.exact at c.in_ok-write_string.ensures))
    (rw c.text_at-filename.ensures.exact at c.in_err-write_string-2.ensures)))

pub returns : goal.returns
returns g c =
    let v = view c.args.context.now in
    let f = c.args.file in
    let a = g.W.Write.contents c.args.out.now in
    let b = g.W.Write.contents c.write_text.new.out in
    let d = g.W.Write.contents c.write_string.new.out in
    let e = g.W.Write.contents c.write_string-2.new.out in
    let h = g.W.Write.contents c.write_text-2.new.out in
    let word = codes "file" in
    let directory = string_shown v.file f.directory (text_at v f.directory) in
    let filename = string_shown v.file f.filename (text_at v f.filename) in
    let newline = codes "\n" in
    writes_then a e h c.write_text-2.result ((word ++ directory) ++ filename) newline
    (Appends-trans a d e (word ++ directory) filename
    (Appends-trans a b d word directory c.in_ok-write_text.ensures
    (rw c.text_at-directory.ensures.exact at c.in_ok-write_string.ensures))
    (rw c.text_at-filename.ensures.exact at c.in_ok-write_string-2.ensures)) c.write_text-2.ensures
