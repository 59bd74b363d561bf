-- The places of the data of the entries that are left are yet to be put; each is of 32 bits.
-- Assumes nothing.
use Rattle.std.proofs.Common.{◌+◌, ◌<◌, ◌^◌, drop, length}
use Rattle.std.specs.List.{All}
use Rattle.std.specs.Int.{w32}
use Rattle.gsym_layout.specs.Layout.{numbers, places_from, data_from}
use Rattle.gsym_layout.specs.Writable.{IsOf32}
use Rattle.gsym_writer.specs.View.{entries_view}
use Rattle.gsym_writer.proofs.Behind.{Puts}
use Rattle.gsym_writer.proofs.put.put_places.Given as goal

abbrev pub invariant-loop-entry : goal.invariant-loop-entry
invariant-loop-entry l = record {
  puts : Puts l.fn.out l.out l.fn.at l.place
      (numbers w32 (places_from l.end (entries_view (drop l.entry-index l.entries))))
      (numbers w32 (places_from l.data (entries_view l.entries)));
  of_32 : All IsOf32 (places_from l.end (entries_view (drop l.entry-index l.entries)));
  fits : l.end + length (data_from l.end (entries_view (drop l.entry-index l.entries))) < 2 ^ 64;
}
