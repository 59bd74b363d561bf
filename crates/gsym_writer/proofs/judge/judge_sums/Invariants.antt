-- The entries that are left are judged as all are; the sizes of those before are of 32 bits.
-- Assumes nothing.
use Rattle.std.proofs.Common.{◌≡◌, drop, take}
use Rattle.std.specs.List.{All}
use Rattle.gsym_layout.specs.Writable.{IsOf32}
use Rattle.gsym_writer.specs.declared.Entry.{Entry}
use Rattle.gsym_writer.specs.declared.error.WriteError.TheVariants.{SumTooLarge}
use Rattle.gsym_writer.specs.View.{entries_view}
use Rattle.gsym_writer.specs.Writing.{all_pass, sum_fits}
use Rattle.gsym_writer.proofs.judge.judge_sums.Given as goal

abbrev pub invariant-loop-entry : goal.invariant-loop-entry
invariant-loop-entry l = record {
  exact : all_pass sum_fits SumTooLarge l.entry (entries_view (drop l.entry l.entries))
      ≡ all_pass sum_fits SumTooLarge 0 (entries_view l.entries);
  typed : All (λ (e : Entry). IsOf32 e.size) (take l.entry l.entries);
}
