-- The files that are left are judged as all are.
-- Assumes nothing.
use Rattle.std.proofs.Common.{◌≡◌, drop}
use Rattle.gsym_writer.specs.declared.error.WriteError.TheVariants.{UnreadFile}
use Rattle.gsym_writer.specs.View.{view}
use Rattle.gsym_writer.specs.Writing.{all_pass, file_reads}
use Rattle.gsym_writer.proofs.judge.judge_files.Given as goal

abbrev pub invariant-loop-file : goal.invariant-loop-file
invariant-loop-file l =
    all_pass (file_reads (view l.content).tables) UnreadFile l.file (drop l.file l.content.files.now)
    ≡ all_pass (file_reads (view l.content).tables) UnreadFile 0 (view l.content).tables.files
