-- `gsym_form::reading::Reading::read_item`: the last entry has an item more.
-- Assumes nothing.
use Rattle.std.proofs.Common.{◌<◌, ◌-◌, ◌++◌, ap, refl, ◌∙◌, arith}
use Rattle.std.specs.Prelude.{Ok}
use Rattle.gsym_form.specs.Kept.{reading_said}
use Rattle.gsym_form.specs.Said.{with_entries}
use Rattle.gsym_form.proofs.Places.{item_add, item_placed, item_line_said, got, has_some}
use Rattle.gsym_form.proofs.reading.Reading.read_item.Goals as goal

pub returns-clause-says : goal.returns-clause-says
returns-clause-says c =
    let some : 0 < c.args.self.now.form.entries.len = c.in-Some.ensures.variant.0 refl in
    item_line_said c.args.number (reading_said c.args.self.now) c.args.line.now.rest.now _ _ c.in_ok-kind.kind
    c.in_ok-bytes.bytes.items (has_some _ c.args.self.now.form.entries.items (omega arith)) c.in_ok-kind.ensures
    c.in_ok-bytes.ensures c.in_ok-over.ensures
    ∙ ap (λ es. Ok (with_entries (reading_said c.args.self.now) es)) (item_add
    c.args.self.now.form.bytes.items c.in_ok-bytes.bytes.items c.extend_from_slice.new.self.items
    c.args.self.now.form.items.items c.add.new.list.items
    (record {
      kind = c.in_ok-kind.kind;
      line = c.args.number;
      first = c.len-first.result;
      end = c.len-end.result;
    })
    c.args.self.now.form.entries.items c.in-Some.entry.now c.args.self.now.form.entries.len c.len-entry.result
    c.requires
    (c.in_ok-extend_from_slice.ensures.items ∙ ap (λ l. c.args.self.now.form.bytes.items ++ l) c.deref.ensures.value)
    c.in_ok-add.ensures (c.len-first.ensures ∙ c.args.self.now.form.bytes.ok.0)
    (c.len-end.ensures ∙ c.extend_from_slice.new.self.ok.0) c.args.self.now.form.entries.ok.0
    (got c.args.self.now.form.entries.items (c.args.self.now.form.entries.len - 1) c.in-Some.entry.now (omega arith)
    c.in-Some.ensures.value)
    (c.len-entry.ensures ∙ c.add.new.list.ok.0))

pub returns-clause-whole : goal.returns-clause-whole
returns-clause-whole c =
    let some : 0 < c.args.self.now.form.entries.len = c.in-Some.ensures.variant.0 refl in
    item_placed
    c.args.self.now.form.bytes.items c.in_ok-bytes.bytes.items c.extend_from_slice.new.self.items
    c.args.self.now.form.items.items c.add.new.list.items
    (record {
      kind = c.in_ok-kind.kind;
      line = c.args.number;
      first = c.len-first.result;
      end = c.len-end.result;
    })
    c.args.self.now.form.entries.items c.in-Some.entry.now c.args.self.now.form.entries.len c.len-entry.result
    c.requires
    (c.in_ok-extend_from_slice.ensures.items ∙ ap (λ l. c.args.self.now.form.bytes.items ++ l) c.deref.ensures.value)
    c.in_ok-add.ensures (c.len-first.ensures ∙ c.args.self.now.form.bytes.ok.0)
    (c.len-end.ensures ∙ c.extend_from_slice.new.self.ok.0) c.args.self.now.form.entries.ok.0
    (got c.args.self.now.form.entries.items (c.args.self.now.form.entries.len - 1) c.in-Some.entry.now (omega arith)
    c.in-Some.ensures.value)
    (c.len-entry.ensures ∙ c.add.new.list.ok.0)
