-- `gsym_writer::put::put_all_data`: the data of an entry more.
-- Assumes nothing.
use Rattle.std.proofs.Common.{◌∙◌, refl}
use Rattle.gsym_writer.proofs.Behind.{puts_room, puts_all}
use Rattle.gsym_writer.proofs.Left.{no_entry, data_ended, zeros_room, zeros_put, data_put}
use Rattle.gsym_writer.proofs.put.put_all_data.Goals as goal

pub put_zeros-start-requires-clause-room : goal.put_zeros-start-requires-clause-room
put_zeros-start-requires-clause-room c =
    zeros_room c.args.entries.now c.loop-entry.place c.loop-entry.entry-index no_entry _ c.loop-entry.invariant
    c.loop-entry-test.true c.next_multiple_of.ensures.value c.requires.room

pub put_data-place-requires-clause-room : goal.put_data-place-requires-clause-room
put_data-place-requires-clause-room c =
    puts_room
    (zeros_put c.args.entries.now c.loop-entry.place c.loop-entry.entry-index no_entry _ _ _ c.loop-entry.invariant
    c.loop-entry-test.true c.next_multiple_of.ensures.value c.put_zeros-start.ensures.next
    c.put_zeros-start.ensures.written c.put_zeros-start.ensures.rest c.put_zeros-start.auto.out) _ _ refl
    c.requires.room

pub loop-entry-preserved : goal.loop-entry-preserved
loop-entry-preserved c =
    data_put c.args.entries.now c.loop-entry.place c.loop-entry.entry-index no_entry _ _ _
    (zeros_put c.args.entries.now c.loop-entry.place c.loop-entry.entry-index no_entry _ _ _ c.loop-entry.invariant
    c.loop-entry-test.true c.next_multiple_of.ensures.value c.put_zeros-start.ensures.next
    c.put_zeros-start.ensures.written c.put_zeros-start.ensures.rest c.put_zeros-start.auto.out)
    (c.put_zeros-start.ensures.next ∙ c.next_multiple_of.ensures.value) c.put_data-place.ensures.next
    c.put_data-place.ensures.written c.put_data-place.ensures.rest c.put_data-place.auto.out

pub returns-clause-next : goal.returns-clause-next
returns-clause-next c =
    (puts_all c.loop-entry.invariant
    (data_ended c.args.entries.now c.loop-entry.entry-index c.loop-entry.place c.loop-entry-test.false)).0

pub returns-clause-written : goal.returns-clause-written
returns-clause-written c =
    (puts_all c.loop-entry.invariant
    (data_ended c.args.entries.now c.loop-entry.entry-index c.loop-entry.place c.loop-entry-test.false)).1
