-- `gsym_form::reading::is_indented`: a carriage return is passed over, the first other byte says it, and past the last
-- byte there is none.
-- Assumes nothing.
use Rattle.std.proofs.Common.{sym, ◌∙◌, ap, nat_eq, get_or}
use Rattle.std.specs.Prelude.{◌||◌}
use Rattle.gsym_form.proofs.LinesSaid.{indented_return, indented_other, indented_past, another}
use Rattle.gsym_form.proofs.reading.is_indented.Goals as goal

pub returns-then-byte-eq32 : goal.returns-then-byte-eq32
returns-then-byte-eq32 c =
    sym (c.loop-byte.invariant
    ∙ indented_other c.args.bytes.now c.loop-byte.byte-index c.loop-byte-test.true c.if-byte-ne13.true
    ∙ ap (λ b. nat_eq b 32 || nat_eq b 9) c.if-byte-eq32.true ∙ sym (ap (λ b. nat_eq b 32) c.if-byte-eq32.true))

pub returns-else-byte-eq32 : goal.returns-else-byte-eq32
returns-else-byte-eq32 c =
    sym (c.loop-byte.invariant
    ∙ indented_other c.args.bytes.now c.loop-byte.byte-index c.loop-byte-test.true c.if-byte-ne13.true
    ∙ ap (λ x. x || nat_eq (get_or c.args.bytes.now c.loop-byte.byte-index 0) 9)
    (another (get_or c.args.bytes.now c.loop-byte.byte-index 0) 32 c.if-byte-eq32.false))

pub loop-byte-preserved : goal.loop-byte-preserved
loop-byte-preserved c =
    c.loop-byte.invariant
    ∙ indented_return c.args.bytes.now c.loop-byte.byte-index c.loop-byte-test.true c.if-byte-ne13.false

pub returns : goal.returns
returns c =
    sym (c.loop-byte.invariant ∙ indented_past c.args.bytes.now c.loop-byte.byte-index c.loop-byte-test.false)
