-- The entries so far and those of the rows that are left are all, and the rows that are left have their items.
use Rattle.std.proofs.Common.{◌≡◌, ◌≤◌, ◌+◌, ◌++◌, length, drop, map, sum_by}
use Rattle.gsym_parser.specs.Items.{item_view}
use Rattle.gsym_writer.specs.View.{entry_view}
use Rattle.gsym_write_c.specs.Rows.{entries_given}
use Rattle.gsym_write_c.specs.declared.GsymEntry.{GsymEntry}
use Rattle.gsym_write_c.proofs.rows.entries_list.Given as goal

abbrev pub invariant-loop-row : goal.invariant-loop-row
invariant-loop-row l =
    (map entry_view l.list.items ++ entries_given (drop l.row-index l.rows) (drop l.start (map item_view l.items))
    ≡ entries_given l.rows (map item_view l.items))
    × (l.start + sum_by (λ (e : GsymEntry). e.items) (drop l.row-index l.rows) ≤ length l.items)
