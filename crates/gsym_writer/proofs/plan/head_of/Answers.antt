-- `gsym_writer::plan::head_of`: the numbers are those of what is given.
-- Assumes nothing.
use Rattle.std.proofs.Common.{refl, sym, arith}
use Rattle.std.proofs.lemmas.List.{length-map}
use Rattle.gsym_writer.specs.View.{entry_view, view}
use Rattle.gsym_writer.proofs.Heads.{place_fails, head_is}
use Rattle.gsym_writer.proofs.plan.head_of.Goals as goal

pub returns-then-place-gt-MOST-clause-none : goal.returns-then-place-gt-MOST-clause-none
returns-then-place-gt-MOST-clause-none c =
    place_fails (view c.args.content) _ c.base_of-base.result.0 c.least_size-size.result c.strings_start-place.result
    (sym (length-map c.args.content.entries.now entry_view)) c.base_of-base.ensures c.least_size-size.ensures.value
    (rw c.from.ensures at c.strings_start-place.ensures) (omega (arith, c.if-place-gt-MOST.true))

pub returns-clause-some : goal.returns-clause-some
returns-clause-some c =
    head_is (view c.args.content) _ c.base_of-base.ensures c.least_size-size.ensures.value
    (rw c.from.ensures at c.strings_start-place.ensures) (sym (length-map c.args.content.entries.now entry_view))
    refl (omega (arith, c.if-not-counts_fit.ensures.fit)) (omega (arith, c.if-not-counts_fit.ensures.fit))
    (omega (arith, c.if-place-gt-MOST.false)) (omega (arith, c.if-not-counts_fit.ensures.fit))
