-- `gsym_writer::plan::data_end`: the place of an entry more, one that is too far, and none.
-- Assumes nothing.
use Rattle.std.proofs.Common.{◌≡◌, ◌∙◌, sym, arith, ap, Some}
use Rattle.gsym_writer.specs.Ends.{told_len}
use Rattle.gsym_writer.proofs.Left.{no_entry}
use Rattle.gsym_writer.proofs.Planned.{place_fails, place_passes, end_passes, places_pass, end_is}
use Rattle.gsym_writer.proofs.plan.data_end.Goals as goal

pub returns-then-end-gt-MOST : goal.returns-then-end-gt-MOST
returns-then-end-gt-MOST c =
    rw (sym c.loop-entry.invariant.places
    ∙ place_fails c.args.entries.now c.loop-entry.end c.loop-entry.entry-index no_entry c.loop-entry-test.true
    (omega (arith, c.if-end-gt-MOST.true)))

pub returns-then-place-gt-MOST : goal.returns-then-place-gt-MOST
returns-then-place-gt-MOST c =
    rw (sym c.loop-entry.invariant.places
    ∙ place_fails c.args.entries.now c.loop-entry.end c.loop-entry.entry-index no_entry c.loop-entry-test.true
    (omega (arith, c.if-place-gt-MOST.true, c.next_multiple_of-place.ensures.value)))

pub loop-entry-preserved : goal.loop-entry-preserved
loop-entry-preserved c = record {
  places =
      place_passes c.args.entries.now c.loop-entry.end c.loop-entry.entry-index no_entry c.loop-entry-test.true _ _ _
      c.next_multiple_of-place.ensures.value c.data_len.ensures c.saturating_add-end.ensures
      (omega (arith, c.if-place-gt-MOST.false)) ∙ c.loop-entry.invariant.places;
  told =
      end_passes c.args.entries.now c.loop-entry.end c.loop-entry.entry-index no_entry c.loop-entry-test.true _ _ _
      c.next_multiple_of-place.ensures.value c.data_len.ensures c.saturating_add-end.ensures
      ∙ c.loop-entry.invariant.told;
  within = omega arith;
}

pub returns : goal.returns
returns c =
    let within : c.loop-entry.end ≡ told_len c.loop-entry.end = omega (arith, c.loop-entry.invariant.within) in
    rw (
      sym c.loop-entry.invariant.places
          ∙ places_pass c.args.entries.now c.loop-entry.end c.loop-entry.entry-index c.loop-entry-test.false,
      sym c.loop-entry.invariant.told
          ∙ ap told_len (end_is c.args.entries.now c.loop-entry.end c.loop-entry.entry-index c.loop-entry-test.false),
    ) (ap Some within)
