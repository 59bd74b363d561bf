-- `gsym_writer::judge::judge_sums`: an entry more, one whose sum doesn't fit, and none.
-- Assumes nothing.
use Rattle.std.proofs.Common.{◌∙◌, sym}
use Rattle.std.proofs.lemmas.List.Elements.{All-more}
use Rattle.gsym_layout.specs.Writable.{IsOf32}
use Rattle.gsym_writer.specs.declared.Entry.{Entry}
use Rattle.gsym_writer.specs.declared.error.WriteError.TheVariants.{SumTooLarge}
use Rattle.gsym_writer.specs.View.{entry_view}
use Rattle.gsym_writer.specs.Writing.{sum_fits}
use Rattle.gsym_writer.proofs.Left.{no_entry}
use Rattle.gsym_writer.proofs.Judged.{pass_more, pass_fails, pass_end, all_taken}
use Rattle.gsym_writer.proofs.judge.judge_sums.Goals as goal

pub returns-then-not-sum_fits-clause-exact : goal.returns-then-not-sum_fits-clause-exact
returns-then-not-sum_fits-clause-exact c =
    sym (pass_fails sum_fits entry_view c.args.entries.now c.loop-entry.entry SumTooLarge no_entry
    c.loop-entry-test.true (sym c.if-not-sum_fits.ensures.exact)) ∙ c.loop-entry.invariant.exact

pub loop-entry-preserved : goal.loop-entry-preserved
loop-entry-preserved c = record {
  exact =
      sym (pass_more sum_fits entry_view c.args.entries.now c.loop-entry.entry SumTooLarge no_entry
      c.loop-entry-test.true (sym c.if-not-sum_fits.ensures.exact)) ∙ c.loop-entry.invariant.exact;
  typed =
      All-more (λ (e : Entry). IsOf32 e.size) c.args.entries.now c.loop-entry.entry no_entry c.loop-entry-test.true
      c.loop-entry.invariant.typed c.sum_fits.ensures.typed;
}

pub returns-clause-exact : goal.returns-clause-exact
returns-clause-exact c =
    sym (pass_end sum_fits entry_view c.args.entries.now c.loop-entry.entry SumTooLarge c.loop-entry-test.false)
    ∙ c.loop-entry.invariant.exact

pub returns-clause-typed : goal.returns-clause-typed
returns-clause-typed c =
    all_taken (λ e. IsOf32 e.size) entry_view c.args.entries.now c.loop-entry.entry c.loop-entry-test.false
    c.loop-entry.invariant.typed
