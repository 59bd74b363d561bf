-- `gsym_writer::put::put_places`: a place more.
-- Assumes nothing.
use Rattle.std.proofs.Common.{ap, arith}
use Rattle.std.specs.Int.{w32, to_le_bytes}
use Rattle.gsym_layout.specs.Layout.{numbers, data_start}
use Rattle.gsym_writer.proofs.Behind.{puts_room, puts_all}
use Rattle.gsym_writer.proofs.Left.{no_entry, places_more, places_end, place_of_32, places_of_32, place_put}
use Rattle.gsym_writer.proofs.Lengths.{ends_more, end_more, fits_more}
use Rattle.gsym_writer.proofs.put.put_places.Goals as goal

pub next_multiple_of-start-requires-clause-fits : goal.next_multiple_of-start-requires-clause-fits
next_multiple_of-start-requires-clause-fits c =
    omega (
      arith,
      c.loop-entry.invariant.fits,
      ends_more c.args.entries.now c.loop-entry.end c.loop-entry.entry-index no_entry c.loop-entry-test.true,
    )

pub overflow_cast-start : goal.overflow_cast-start
overflow_cast-start c =
    omega (
      arith,
      c.next_multiple_of-start.ensures.value,
      place_of_32 c.args.entries.now c.loop-entry.end c.loop-entry.entry-index no_entry c.loop-entry-test.true
          c.loop-entry.invariant.of_32,
    )

pub put_u32-place-requires : goal.put_u32-place-requires
put_u32-place-requires c =
    puts_room c.loop-entry.invariant.puts (to_le_bytes w32 (data_start c.loop-entry.end)) _
    (places_more c.args.entries.now c.loop-entry.entry-index c.loop-entry.end no_entry c.loop-entry-test.true)
    c.requires.room

pub overflow_add-end : goal.overflow_add-end
overflow_add-end c =
    omega (
      arith,
      c.loop-entry.invariant.fits,
      ends_more c.args.entries.now c.loop-entry.end c.loop-entry.entry-index no_entry c.loop-entry-test.true,
      end_more c.args.entries.now c.loop-entry.end c.loop-entry.entry-index no_entry
          c.next_multiple_of-start.result c.data_len.result c.loop-entry-test.true
          c.next_multiple_of-start.ensures.value c.data_len.ensures c.loop-entry.invariant.fits,
    )

pub loop-entry-preserved : goal.loop-entry-preserved
loop-entry-preserved c =
    let end =
    end_more c.args.entries.now c.loop-entry.end c.loop-entry.entry-index no_entry
    c.next_multiple_of-start.result c.data_len.result c.loop-entry-test.true
    c.next_multiple_of-start.ensures.value c.data_len.ensures c.loop-entry.invariant.fits in
    record {
      puts =
          place_put c.args.entries.now c.loop-entry.end c.loop-entry.entry-index no_entry _ _ _ _
          c.loop-entry.invariant.puts c.loop-entry-test.true c.next_multiple_of-start.ensures.value end
          c.put_u32-place.ensures.next c.put_u32-place.ensures.written c.put_u32-place.ensures.rest
          c.put_u32-place.auto.out;
      of_32 =
          places_of_32 c.args.entries.now c.loop-entry.end c.loop-entry.entry-index no_entry _ c.loop-entry-test.true
          end c.loop-entry.invariant.of_32;
      fits =
          fits_more c.args.entries.now c.loop-entry.end c.loop-entry.entry-index no_entry _ c.loop-entry-test.true
          end c.loop-entry.invariant.fits;
    }

pub returns-clause-next : goal.returns-clause-next
returns-clause-next c =
    (puts_all c.loop-entry.invariant.puts
    (ap (numbers w32)
    (places_end c.args.entries.now c.loop-entry.entry-index c.loop-entry.end c.loop-entry-test.false))).0

pub returns-clause-written : goal.returns-clause-written
returns-clause-written c =
    (puts_all c.loop-entry.invariant.puts
    (ap (numbers w32)
    (places_end c.args.entries.now c.loop-entry.entry-index c.loop-entry.end c.loop-entry-test.false))).1
