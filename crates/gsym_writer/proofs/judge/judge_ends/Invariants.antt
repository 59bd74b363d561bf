-- The entries that are left are judged as all are; the types of the items of those before are of 32 bits.
-- Assumes nothing.
use Rattle.std.proofs.Common.{◌≡◌, drop, take}
use Rattle.std.specs.List.{All}
use Rattle.gsym_layout.specs.Writable.{IsOf32}
use Rattle.gsym_writer.specs.declared.Entry.{Entry}
use Rattle.gsym_writer.specs.declared.error.WriteError.TheVariants.{EndItem}
use Rattle.gsym_writer.specs.View.{entry_view, entries_view}
use Rattle.gsym_writer.specs.Writing.{all_pass, has_no_end}
use Rattle.gsym_writer.proofs.judge.judge_ends.Given as goal

abbrev pub invariant-loop-entry : goal.invariant-loop-entry
invariant-loop-entry l = record {
  exact : all_pass has_no_end EndItem l.entry (entries_view (drop l.entry l.entries))
      ≡ all_pass has_no_end EndItem 0 (entries_view l.entries);
  typed : All (λ (e : Entry). All (λ item. IsOf32 item.kind) (entry_view e).items) (take l.entry l.entries);
}
