-- The items so far and those of the rows that are left are all, and the rows that are left have their bytes.
use Rattle.std.proofs.Common.{◌≡◌, ◌≤◌, ◌++◌, length, drop, map, sum_by}
use Rattle.gsym_parser.specs.Items.{item_view}
use Rattle.gsym_write_c.specs.Rows.{items_given}
use Rattle.gsym_write_c.specs.declared.GsymItem.{GsymItem}
use Rattle.gsym_write_c.proofs.rows.items_list.Given as goal

abbrev pub invariant-loop-row : goal.invariant-loop-row
invariant-loop-row l =
    (map item_view l.list.items ++ items_given (drop l.row-index l.rows) l.rest ≡ items_given l.rows l.bytes)
    × (sum_by (λ (i : GsymItem). i.len) (drop l.row-index l.rows) ≤ length l.rest)
