-- What is left, and what the rows so far ask for, come to the count.
use Rattle.std.proofs.Common.{◌≡◌, ◌+◌, take, sum_by}
use Rattle.gsym_write_c.specs.declared.GsymItem.{GsymItem}
use Rattle.gsym_write_c.proofs.rows.bytes_come_out.Given as goal

abbrev pub invariant-loop-row : goal.invariant-loop-row
invariant-loop-row l = l.left + sum_by (λ (i : GsymItem). i.len) (take l.row-index l.rows) ≡ l.count
