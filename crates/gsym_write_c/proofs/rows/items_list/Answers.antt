-- `gsym_write_c::rows::items_list`: an item more, and all of them.
-- Assumes nothing.
use Rattle.std.proofs.Common.{arith, refl}
use Rattle.std.proofs.lemmas.List.Sums.{sum_by-drop_more}
use Rattle.gsym_write_c.specs.declared.GsymItem.{GsymItem}
use Rattle.gsym_write_c.proofs.Lists.{items-kept, items-all}
use Rattle.gsym_write_c.proofs.rows.items_list.Goals as goal

pub loop-row-preserved : goal.loop-row-preserved
loop-row-preserved c = (
  items-kept c.args.rows.now c.loop-row.row-index (record { len = 0; kind = 0 }) c.args.bytes.now
      c.loop-row.rest.now c.split_at.result.1.now c.loop-row.list.items c.push.new.self.items _ c.loop-row-test.true
      c.in_ok-push.ensures.items refl c.split_at.ensures.front c.split_at.ensures.back c.loop-row.invariant.0,
  omega (
    arith,
    sum_by-drop_more (λ (i : GsymItem). i.len) c.args.rows.now c.loop-row.row-index
        (record { len = 0; kind = 0 }) c.loop-row-test.true,
    c.loop-row.invariant.1,
    c.split_at.ensures.back_len,
  ),
)

pub returns : goal.returns
returns c =
    items-all c.args.rows.now c.loop-row.row-index c.args.bytes.now c.loop-row.rest.now c.loop-row.list.items
    c.loop-row-test.false c.loop-row.invariant.0
