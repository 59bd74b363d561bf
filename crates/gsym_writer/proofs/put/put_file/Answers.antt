-- `gsym_writer::put::put_file`: part by part.
-- Assumes nothing.
use Rattle.std.proofs.Common.{arith, length, refl}
use Rattle.gsym_writer.specs.View.{view}
use Rattle.gsym_writer.proofs.Behind.{puts_more, puts_room, puts_all}
use Rattle.gsym_writer.proofs.Whole.{short, width_is, places_of_32, whole_fits, header_room}
use Rattle.gsym_writer.proofs.Whole.{after_header, after_strings}
use Rattle.gsym_writer.proofs.put.put_file.Goals as goal

pub put_header-at-requires : goal.put_header-at-requires
put_header-at-requires c = header_room (view c.args.content) c.args.head c.requires.head _ c.requires.room

pub put_index-at-requires-clause-size : goal.put_index-at-requires-clause-size
put_index-at-requires-clause-size c =
    width_is (view c.args.content) c.args.head c.requires.head c.from.result c.from.ensures

pub put_index-at-requires-clause-room : goal.put_index-at-requires-clause-room
put_index-at-requires-clause-room c =
    let headed =
    after_header (view c.args.content) c.args.head c.requires.head c.args.out.now _ c.from.result _
    c.put_header-at.ensures.next c.from.ensures c.put_header-at.ensures.written c.put_header-at.ensures.rest
    c.put_header-at.auto.out in
    puts_room headed _ _ refl (omega (arith, c.requires.room))

pub put_index-at-requires-clause-of_32 : goal.put_index-at-requires-clause-of_32
put_index-at-requires-clause-of_32 c =
    places_of_32 (view c.args.content) c.args.head c.requires.head c.requires.of_32

pub put_index-at-requires-clause-fits : goal.put_index-at-requires-clause-fits
put_index-at-requires-clause-fits c =
    whole_fits (view c.args.content) c.args.head c.requires.head (length c.args.out.now) c.requires.room (omega arith)

pub put_shared-at-requires-clause-room : goal.put_shared-at-requires-clause-room
put_shared-at-requires-clause-room c =
    let headed =
    after_header (view c.args.content) c.args.head c.requires.head c.args.out.now _ c.from.result _
    c.put_header-at.ensures.next c.from.ensures c.put_header-at.ensures.written c.put_header-at.ensures.rest
    c.put_header-at.auto.out in
    let indexed =
    puts_more headed _ _ _ _ c.put_index-at.ensures.next c.put_index-at.ensures.written c.put_index-at.ensures.rest
    c.put_index-at.auto.out refl in
    puts_room indexed _ _ refl (omega (arith, c.requires.room))

pub put_all_data-requires-clause-room : goal.put_all_data-requires-clause-room
put_all_data-requires-clause-room c =
    let headed =
    after_header (view c.args.content) c.args.head c.requires.head c.args.out.now _ c.from.result _
    c.put_header-at.ensures.next c.from.ensures c.put_header-at.ensures.written c.put_header-at.ensures.rest
    c.put_header-at.auto.out in
    let indexed =
    puts_more headed _ _ _ _ c.put_index-at.ensures.next c.put_index-at.ensures.written c.put_index-at.ensures.rest
    c.put_index-at.auto.out refl in
    let shared =
    after_strings (view c.args.content) c.args.head c.requires.head c.args.out.now c.put_shared-at.new.out
    c.put_shared-at.result
    (puts_more indexed _ _ _ _ c.put_shared-at.ensures.next c.put_shared-at.ensures.written
    c.put_shared-at.ensures.rest c.put_shared-at.auto.out refl) in
    puts_room shared _ _ refl (omega (arith, c.requires.room))

pub put_all_data-requires-clause-short : goal.put_all_data-requires-clause-short
put_all_data-requires-clause-short c = short c.args.content.entries.now c.requires.of_32.lengths

pub returns : goal.returns
returns c =
    let headed =
    after_header (view c.args.content) c.args.head c.requires.head c.args.out.now _ c.from.result _
    c.put_header-at.ensures.next c.from.ensures c.put_header-at.ensures.written c.put_header-at.ensures.rest
    c.put_header-at.auto.out in
    let indexed =
    puts_more headed _ _ _ _ c.put_index-at.ensures.next c.put_index-at.ensures.written c.put_index-at.ensures.rest
    c.put_index-at.auto.out refl in
    let shared =
    after_strings (view c.args.content) c.args.head c.requires.head c.args.out.now c.put_shared-at.new.out
    c.put_shared-at.result
    (puts_more indexed _ _ _ _ c.put_shared-at.ensures.next c.put_shared-at.ensures.written
    c.put_shared-at.ensures.rest c.put_shared-at.auto.out refl) in
    let put =
    puts_more shared _ _ _ _ c.put_all_data.ensures.next c.put_all_data.ensures.written c.put_all_data.ensures.rest
    c.put_all_data.auto.out refl in
    let all = puts_all put refl in
    record { next = omega (arith, all.0); written = all.1; rest = put.rest }
