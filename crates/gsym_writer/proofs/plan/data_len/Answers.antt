-- `gsym_writer::plan::data_len`: an item more, and none.
-- Assumes nothing.
use Rattle.std.proofs.Common.{arith}
use Rattle.gsym_writer.proofs.Lengths.{told_more, told_end}
use Rattle.gsym_writer.proofs.plan.data_len.Goals as goal

pub loop-item-preserved : goal.loop-item-preserved
loop-item-preserved c = record {
  told =
      told_more c.args.items.now c.loop-item.item-index _ c.loop-item.len _ _ _ c.loop-item-test.true
      c.loop-item.invariant.told c.saturating_add.ensures c.saturating_add-len.ensures;
  within = omega arith;
}

pub returns : goal.returns
returns c =
    told_end c.args.items.now c.loop-item.item-index c.loop-item.len _ c.loop-item-test.false
    c.loop-item.invariant.within c.loop-item.invariant.told
