-- `gsym_writer::judge::judge_names`: an entry more, one whose name doesn't read, and none.
-- Assumes nothing.
use Rattle.std.proofs.Common.{◌∙◌, sym}
use Rattle.gsym_resolver.specs.SharedTables.{reads_name}
use Rattle.gsym_writer.specs.declared.error.WriteError.TheVariants.{UnreadName}
use Rattle.gsym_writer.specs.View.{entry_view, view}
use Rattle.gsym_writer.specs.Writing.{name_reads}
use Rattle.gsym_writer.proofs.Left.{no_entry}
use Rattle.gsym_writer.proofs.Judged.{pass_more, pass_fails, pass_end}
use Rattle.gsym_writer.proofs.judge.judge_names.Goals as goal

pub returns-then-not-reads_name : goal.returns-then-not-reads_name
unfolding reads_name
returns-then-not-reads_name c =
    sym (pass_fails (name_reads (view c.args.content).tables) entry_view c.args.content.entries.now c.loop-entry.entry
    UnreadName no_entry c.loop-entry-test.true (sym c.if-not-reads_name.ensures)) ∙ c.loop-entry.invariant

pub loop-entry-preserved : goal.loop-entry-preserved
unfolding reads_name
loop-entry-preserved c =
    sym (pass_more (name_reads (view c.args.content).tables) entry_view c.args.content.entries.now c.loop-entry.entry
    UnreadName no_entry c.loop-entry-test.true (sym c.if-not-reads_name.ensures)) ∙ c.loop-entry.invariant

pub returns : goal.returns
returns c =
    sym (pass_end (name_reads (view c.args.content).tables) entry_view c.args.content.entries.now c.loop-entry.entry
    UnreadName c.loop-entry-test.false) ∙ c.loop-entry.invariant
