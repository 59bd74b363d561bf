-- `gsym_writer::judge::judge_files`: a file more, one of which a string doesn't read, and none.
-- Assumes nothing.
use Rattle.std.proofs.Common.{◌∙◌, sym}
use Rattle.gsym_resolver.specs.SharedTables.{reads_text}
use Rattle.gsym_writer.specs.View.{view}
use Rattle.gsym_writer.specs.Writing.{file_reads}
use Rattle.gsym_writer.proofs.Left.{no_file}
use Rattle.gsym_writer.proofs.Judged.{file_more, file_fails, file_end}
use Rattle.gsym_writer.proofs.judge.judge_files.Goals as goal

pub returns-then-not-reads_file : goal.returns-then-not-reads_file
unfolding reads_text
returns-then-not-reads_file c =
    sym (file_fails (file_reads (view c.args.content).tables) c.args.content.files.now c.loop-file.file
    no_file c.loop-file-test.true (sym c.if-not-reads_file.ensures)) ∙ c.loop-file.invariant

pub loop-file-preserved : goal.loop-file-preserved
unfolding reads_text
loop-file-preserved c =
    sym (file_more (file_reads (view c.args.content).tables) c.args.content.files.now c.loop-file.file
    no_file c.loop-file-test.true (sym c.if-not-reads_file.ensures)) ∙ c.loop-file.invariant

pub returns : goal.returns
returns c =
    sym (file_end (file_reads (view c.args.content).tables) c.args.content.files.now c.loop-file.file
    c.loop-file-test.false) ∙ c.loop-file.invariant
