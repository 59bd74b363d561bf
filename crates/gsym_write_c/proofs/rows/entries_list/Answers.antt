-- `gsym_write_c::rows::entries_list`: an entry more, and all of them.
-- Assumes nothing.
use Rattle.std.proofs.Common.{arith, refl}
use Rattle.std.proofs.lemmas.List.Sums.{sum_by-drop_more}
use Rattle.gsym_write_c.specs.declared.GsymEntry.{GsymEntry}
use Rattle.gsym_write_c.proofs.Lists.{entries-kept, entries-all, part_is}
use Rattle.gsym_write_c.proofs.rows.entries_list.Goals as goal

pub loop-row-preserved : goal.loop-row-preserved
loop-row-preserved c = (
  entries-kept c.args.rows.now c.loop-row.row-index (record { addr = 0; items = 0; size = 0; name = 0 })
      c.args.items.now c.loop-row.start c.loop-row.list.items c.push.new.self.items _ c.loop-row-test.true
      c.in_ok-push.ensures.items refl refl refl
      (part_is _ c.loop-row.start c.args.items.now) c.loop-row.invariant.0,
  omega (
    arith,
    sum_by-drop_more (λ (e : GsymEntry). e.items) c.args.rows.now c.loop-row.row-index
        (record { addr = 0; items = 0; size = 0; name = 0 }) c.loop-row-test.true,
    c.loop-row.invariant.1,
  ),
)

pub returns : goal.returns
returns c =
    entries-all c.args.rows.now c.loop-row.row-index c.args.items.now _ c.loop-row.list.items
    c.loop-row-test.false c.loop-row.invariant.0
