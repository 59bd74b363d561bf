-- `gsym_writer::write`: what is refused, and what a written file says.
-- Assumes nothing.
use Rattle.std.proofs.Common.{◌↔◌, length}
use Rattle.std.specs.Prelude.{IsOk}
use Rattle.gsym_verify.specs.Check.{check_of}
use Rattle.gsym_layout.specs.ReadBack.{SaysGiven, AnswersGiven, FoundAtOwn, ItemsInFull}
use Rattle.gsym_layout.proofs.ReadBack.{says_given}
use Rattle.gsym_layout.proofs.Answering.{answers_given, found_at_own}
use Rattle.gsym_layout.proofs.Passes.{written_passes}
use Rattle.gsym_writer.specs.View.{view}
use Rattle.gsym_writer.proofs.Refusals.{refused, sound}
use Rattle.gsym_writer.proofs.Says.{written_says}
use Rattle.gsym_writer.proofs.write.Goals as goal

pub returns-clause-refused : goal.returns-clause-refused
returns-clause-refused c =
    refused (view c.args.content) (length c.args.out.now) c.write_judged.result c.write_judged.ensures.exact

pub returns-clause-sound : goal.returns-clause-sound
returns-clause-sound c =
    sound (view c.args.content) (length c.args.out.now) c.write_judged.result c.write_judged.ensures.exact

pub returns-clause-says : goal.returns-clause-says
returns-clause-says c =
    written_says (view c.args.content) (length c.args.out.now) c.args.out.now c.write_judged.new.out
    (SaysGiven (view c.args.content)) (says_given (view c.args.content)) c.write_judged.result
    c.write_judged.ensures.exact c.write_judged.ensures.written c.write_judged.ensures.typed

pub returns-clause-answers : goal.returns-clause-answers
returns-clause-answers c =
    written_says (view c.args.content) (length c.args.out.now) c.args.out.now c.write_judged.new.out
    (AnswersGiven (view c.args.content)) (answers_given (view c.args.content)) c.write_judged.result
    c.write_judged.ensures.exact c.write_judged.ensures.written c.write_judged.ensures.typed

pub returns-clause-own : goal.returns-clause-own
returns-clause-own c =
    written_says (view c.args.content) (length c.args.out.now) c.args.out.now c.write_judged.new.out
    (FoundAtOwn (view c.args.content)) (found_at_own (view c.args.content)) c.write_judged.result
    c.write_judged.ensures.exact c.write_judged.ensures.written c.write_judged.ensures.typed

pub returns-clause-passes : goal.returns-clause-passes
returns-clause-passes c =
    written_says (view c.args.content) (length c.args.out.now) c.args.out.now c.write_judged.new.out
    (λ file. IsOk (check_of file) ↔ ItemsInFull (view c.args.content)) (written_passes (view c.args.content))
    c.write_judged.result c.write_judged.ensures.exact c.write_judged.ensures.written c.write_judged.ensures.typed
