-- `gsym_form::printing::write_entry`: its line, and those of its items.
-- Assumes nothing.
use Rattle.std.proofs.Common.{◌∙◌, subst, sym, ap}
use Rattle.std.specs.Option.{option_map}
use Rattle.gsym_output.specs.Lines.{ended, text_of}
use Rattle.gsym_output.specs.Writing.{AppendsFront}
use Rattle.gsym_parser.specs.Entries.{info_at, info_view}
use Rattle.gsym_parser.specs.View.{view}
use Rattle.gsym_form.specs.Printed.{info_lines, entry_line, item_lines}
use Rattle.gsym_output.proofs.Fronts.{front_of, front_then, writes_err}
use Rattle.gsym_form.proofs.DumpLines.{info_text}
use Rattle.gsym_form.proofs.printing.write_entry.Goals as goal

pub returns-in_err-write_entry_line-clause-lines : goal.returns-in_err-write_entry_line-clause-lines
returns-in_err-write_entry_line-clause-lines g c =
    let a = g.W.Write.contents c.args.out.now in
    let b = g.W.Write.contents c.write_entry_line.new.out in
    let v = view c.args.context.now in
    let line = ended (entry_line v c.args.addr (info_view c.in-Some.info)) in
    let items = text_of (item_lines c.in-Some.info.«data».now) in
    let read = info_at v c.args.index in
    writes_err a b c.from_residual-in_err-write_entry_line.result (text_of (info_lines v c.args.addr read))
    c.from_residual-in_err-write_entry_line.ensures.0
    (subst (AppendsFront a b)
    (sym (info_text v c.args.addr read (info_view c.in-Some.info)
    (sym (ap (option_map info_view) c.in-Some.is) ∙ c.addr_info.ensures.exact)))
    (front_of a b line items c.in_err-write_entry_line.ensures))

pub returns-in_err-write_items-clause-lines : goal.returns-in_err-write_items-clause-lines
returns-in_err-write_items-clause-lines g c =
    let a = g.W.Write.contents c.args.out.now in
    let b = g.W.Write.contents c.write_entry_line.new.out in
    let d = g.W.Write.contents c.write_items.new.out in
    let v = view c.args.context.now in
    let line = ended (entry_line v c.args.addr (info_view c.in-Some.info)) in
    let items = text_of (item_lines c.in-Some.info.«data».now) in
    let read = info_at v c.args.index in
    writes_err a d c.from_residual-in_err-write_items.result (text_of (info_lines v c.args.addr read))
    c.from_residual-in_err-write_items.ensures.0
    (subst (AppendsFront a d)
    (sym (info_text v c.args.addr read (info_view c.in-Some.info)
    (sym (ap (option_map info_view) c.in-Some.is) ∙ c.addr_info.ensures.exact)))
    (front_then a b d line items c.in_ok-write_entry_line.ensures c.in_err-write_items.ensures))
