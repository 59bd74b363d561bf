-- `gsym_form::printing::write_items`: a line more, and that of the list's end.
-- Assumes nothing.
use Rattle.std.proofs.Common.{ℕ, List, map, ◌++◌, sym, ◌∙◌, subst}
use Rattle.gsym_output.specs.Lines.{ended, text_of}
use Rattle.gsym_output.specs.Writing.{Writes}
use Rattle.gsym_parser.specs.declared.items.Items.{Items}
use Rattle.gsym_parser.specs.Items.{item_view, items_left}
use Rattle.gsym_form.specs.Printed.{item_line, item_lines, open_line}
use Rattle.gsym_output.proofs.Fronts.{leads_on, leads_cut, leads_writes, writes_err}
use Rattle.gsym_form.proofs.DumpLines.{items_more, items_open}
use Rattle.gsym_form.proofs.printing.write_items.Goals as goal

pub items-preserved : goal.items-preserved
items-preserved g c =
    let bytes = c.args.bytes.now in
    let text : Items → List ℕ = λ items. text_of (map item_line (items_left items) ++ open_line bytes) in
    record {
      text =
          leads_on (g.W.Write.contents c.args.out.now) (g.W.Write.contents c.items.out)
          (g.W.Write.contents c.write_item.new.out) (ended (item_line (item_view c.in-Some.item)))
          (text c.next.new.self) (text c.items.items) (text_of (item_lines bytes)) c.items.invariant.text
          (items_more bytes (items_left c.items.items) (items_left c.next.new.self) (item_view c.in-Some.item)
          c.in-Some.ensures.steps.0)
          c.in_ok-write_item.ensures;
      closed = c.in-Some.ensures.steps.1 ∙ c.items.invariant.closed;
    }

pub returns-in_err-write_item : goal.returns-in_err-write_item
returns-in_err-write_item g c =
    let bytes = c.args.bytes.now in
    let text : Items → List ℕ = λ items. text_of (map item_line (items_left items) ++ open_line bytes) in
    writes_err (g.W.Write.contents c.args.out.now) (g.W.Write.contents c.write_item.new.out) c.from_residual.result
    (text_of (item_lines bytes)) c.from_residual.ensures.0
    (leads_cut (g.W.Write.contents c.args.out.now) (g.W.Write.contents c.items.out)
    (g.W.Write.contents c.write_item.new.out) (ended (item_line (item_view c.in-Some.item))) (text c.next.new.self)
    (text c.items.items) (text_of (item_lines bytes)) c.items.invariant.text
    (items_more bytes (items_left c.items.items) (items_left c.next.new.self) (item_view c.in-Some.item)
    c.in-Some.ensures.steps.0)
    c.in_err-write_item.ensures)

pub returns : goal.returns
returns g c =
    let bytes = c.args.bytes.now in
    let left = items_left c.items.items in
    let ended = c.in_default.ensures.steps in
    leads_writes (g.W.Write.contents c.args.out.now) (g.W.Write.contents c.items.out)
    (g.W.Write.contents c.write_text.new.out) c.write_text.result (text_of (map item_line left ++ open_line bytes))
    (text_of (item_lines bytes)) c.items.invariant.text
    (subst
    (Writes (g.W.Write.contents c.items.out) (g.W.Write.contents c.write_text.new.out) c.write_text.result)
    (sym (items_open bytes left ended.0.0
    (sym c.items.invariant.closed ∙ sym ended.1 ∙ sym (c.is_closed.ensures.closed ended.0.1) ∙ c.if-is_closed.false)))
    c.write_text.ensures)
