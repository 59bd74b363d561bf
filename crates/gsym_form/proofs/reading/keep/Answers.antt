-- `gsym_form::reading::keep`: a text that was not known is.
-- Assumes nothing.
use Rattle.gsym_form.proofs.Strings.{texts_insert, not_known}
use Rattle.gsym_form.proofs.reading.keep.Goals as goal

pub returns : goal.returns
returns c =
    texts_insert c.args.offsets.now c.insert.new.self c.in_ok-copy.field-0 c.args.text.now c.args.offset
    (not_known c.get.result c.is_some.result _ c.is_some.ensures c.if-is_some.false c.get.ensures.value)
    c.in_ok-copy.ensures c.in_ok-insert.ensures.updates
