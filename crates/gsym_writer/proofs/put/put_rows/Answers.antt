-- `gsym_writer::put::put_rows`: a row more.
-- Assumes nothing.
use Rattle.std.proofs.Common.{get_or}
use Rattle.gsym_layout.specs.Layout.{row_bytes}
use Rattle.gsym_writer.proofs.Behind.{puts_more, puts_room}
use Rattle.gsym_writer.proofs.Left.{no_file, rows_more}
use Rattle.gsym_writer.proofs.put.put_rows.Goals as goal

pub put_row-place-requires : goal.put_row-place-requires
put_row-place-requires c =
    puts_room c.loop-file.invariant (row_bytes (get_or c.args.files.now c.loop-file.file-index no_file)) _
    (rows_more c.args.files.now c.loop-file.file-index no_file c.loop-file-test.true) c.requires

pub loop-file-preserved : goal.loop-file-preserved
loop-file-preserved c =
    puts_more c.loop-file.invariant _ _ _ _ c.put_row-place.ensures.next c.put_row-place.ensures.written
    c.put_row-place.ensures.rest c.put_row-place.auto.out
    (rows_more c.args.files.now c.loop-file.file-index _ c.loop-file-test.true)
