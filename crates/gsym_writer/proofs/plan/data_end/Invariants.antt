-- The places of the data of the entries that are left are tested as all are, and they end where all do.
-- Assumes nothing.
use Rattle.std.proofs.Common.{◌≡◌, ◌≤◌, drop}
use Rattle.std.specs.List.{list_all}
use Rattle.gsym_inline.specs.Limits.{most_address}
use Rattle.gsym_layout.specs.Layout.{places_from}
use Rattle.gsym_writer.specs.Ends.{end_from, told_len}
use Rattle.gsym_writer.specs.View.{entries_view}
use Rattle.gsym_writer.specs.Writing.{is_of_32}
use Rattle.gsym_writer.proofs.plan.data_end.Given as goal

abbrev pub invariant-loop-entry : goal.invariant-loop-entry
invariant-loop-entry l = record {
  places : list_all is_of_32 (places_from l.end (entries_view (drop l.entry-index l.entries)))
      ≡ list_all is_of_32 (places_from l.start (entries_view l.entries));
  told : told_len (end_from l.end (entries_view (drop l.entry-index l.entries)))
      ≡ told_len (end_from l.start (entries_view l.entries));
  within : l.end ≤ most_address;
}
