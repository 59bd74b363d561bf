-- `gsym_form::reading::is_string_at`: no such place, no such text there, and what stands behind the text.
-- Assumes nothing.
use Rattle.std.proofs.Common.{sym, ◌∙◌, arith}
use Rattle.gsym_form.proofs.Strings.{not_at, not_begun, begun, from_on, by_lent}
use Rattle.gsym_form.proofs.reading.is_string_at.Goals as goal

pub returns-in_default : goal.returns-in_default
returns-in_default c =
    sym (not_at c.args.strings.now c.args.text.now c.args.offset (omega (arith, c.in_default.ensures.lookup)))

pub returns-in-Some-strip_prefix : goal.returns-in-Some-strip_prefix
returns-in-Some-strip_prefix c =
    c.eq.ensures ∙ by_lent c.first.result _
    ∙ sym (begun c.args.strings.now c.args.text.now c.in-Some.from.now c.args.offset c.in-Some-strip_prefix.rest.now _
    (from_on c.args.strings.now c.in-Some.from.now c.args.offset c.in-Some.ensures.lookup.0.2)
    c.in-Some-strip_prefix.ensures.cases.0 c.in-Some-strip_prefix.ensures.cases.1 c.first.ensures.value)

pub returns-in-None : goal.returns-in-None
returns-in-None c =
    sym (not_begun c.args.strings.now c.args.text.now c.in-Some.from.now c.args.offset
    (from_on c.args.strings.now c.in-Some.from.now c.args.offset c.in-Some.ensures.lookup.0.2) c.in-None.ensures.cases)
