-- `gsym_write_c::write_rows`: the items are as many as their rows, and the writer is given what the rows give.
-- Assumes nothing.
use Rattle.std.proofs.Common.{arith}
use Rattle.gsym_write_c.specs.Rows.{rows_of, given_of}
use Rattle.gsym_write_c.proofs.Lists.{length-viewed, items-enough}
use Rattle.gsym_write_c.proofs.Written.{content-viewed, is-file}
use Rattle.gsym_write_c.proofs.write_rows.Goals as goal

pub entries_list-requires : goal.entries_list-requires
entries_list-requires c =
    omega (
      arith,
      length-viewed c.in_ok-items.items.items c.args.items.now c.args.bytes.now c.in_ok-items.ensures,
      items-enough c.args.entries.now c.args.items.now c.args.bytes.now c.args.files.now c.args.strings.now c.requires,
      c.deref.ensures.len,
    )

pub returns-clause-file : goal.returns-clause-file
returns-clause-file c =
    is-file _
    (given_of (rows_of c.args.entries.now c.args.items.now c.args.bytes.now c.args.files.now c.args.strings.now))
    c.write.result c.write.new.out
    (content-viewed
    (rows_of c.args.entries.now c.args.items.now c.args.bytes.now c.args.files.now c.args.strings.now)
    c.in_ok-items.items.items c.deref.result.now c.in_ok-entries.entries.items c.deref-2.result.now
    c.in_ok-files.files.items c.deref-3.result.now c.in_ok-items.ensures c.deref.ensures.value
    c.in_ok-entries.ensures c.deref-2.ensures.value c.in_ok-files.ensures c.deref-3.ensures.value)
    c.write.ensures.says c.write.ensures.answers c.write.ensures.own c.write.ensures.passes
