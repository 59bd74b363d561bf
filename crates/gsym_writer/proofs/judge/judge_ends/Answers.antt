-- `gsym_writer::judge::judge_ends`: an entry more, one of which an item has type 0, and none.
-- Assumes nothing.
use Rattle.std.proofs.Common.{◌∙◌, sym}
use Rattle.std.specs.List.{All}
use Rattle.std.proofs.lemmas.List.Elements.{All-more}
use Rattle.gsym_layout.specs.Writable.{IsOf32}
use Rattle.gsym_writer.specs.declared.Entry.{Entry}
use Rattle.gsym_writer.specs.declared.error.WriteError.TheVariants.{EndItem}
use Rattle.gsym_writer.specs.View.{entry_view}
use Rattle.gsym_writer.specs.Writing.{has_no_end}
use Rattle.gsym_writer.proofs.Left.{no_entry}
use Rattle.gsym_writer.proofs.Judged.{pass_more, pass_fails, pass_end, all_taken}
use Rattle.gsym_writer.proofs.judge.judge_ends.Goals as goal

pub returns-then-not-has_no_end-clause-exact : goal.returns-then-not-has_no_end-clause-exact
returns-then-not-has_no_end-clause-exact c =
    sym (pass_fails has_no_end entry_view c.args.entries.now c.loop-entry.entry EndItem no_entry
    c.loop-entry-test.true (sym c.if-not-has_no_end.ensures.exact)) ∙ c.loop-entry.invariant.exact

pub loop-entry-preserved : goal.loop-entry-preserved
loop-entry-preserved c = record {
  exact =
      sym (pass_more has_no_end entry_view c.args.entries.now c.loop-entry.entry EndItem no_entry
      c.loop-entry-test.true (sym c.if-not-has_no_end.ensures.exact)) ∙ c.loop-entry.invariant.exact;
  typed =
      All-more (λ (e : Entry). All (λ item. IsOf32 item.kind) (entry_view e).items) c.args.entries.now
      c.loop-entry.entry no_entry c.loop-entry-test.true c.loop-entry.invariant.typed
      c.if-not-has_no_end.ensures.typed;
}

pub returns-clause-exact : goal.returns-clause-exact
returns-clause-exact c =
    sym (pass_end has_no_end entry_view c.args.entries.now c.loop-entry.entry EndItem c.loop-entry-test.false)
    ∙ c.loop-entry.invariant.exact

pub returns-clause-typed : goal.returns-clause-typed
returns-clause-typed c =
    all_taken (λ e. All (λ item. IsOf32 item.kind) e.items) entry_view c.args.entries.now c.loop-entry.entry
    c.loop-entry-test.false c.loop-entry.invariant.typed
