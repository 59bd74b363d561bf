-- `gsym_linetab::quick::near_row` meets its contract: the row behind a change of the line is the next one.
-- Assumes nothing.
use Rattle.gsym_linetab.proofs.Quickly.{row_behind}
use Rattle.gsym_linetab.proofs.quick.near_row.Goals as goal

pub returns : goal.returns
returns c =
    row_behind c.args.plan.header c.args.ops.now c.args.state c.in_ok-moved.moved c.pc_row.result
    c.in_ok-moved.ensures (c.pc_row.ensures c.args.plan.header)
