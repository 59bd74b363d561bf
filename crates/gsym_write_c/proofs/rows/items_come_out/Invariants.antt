-- What is left, and what the rows so far ask for, come to the count.
use Rattle.std.proofs.Common.{◌≡◌, ◌+◌, take, sum_by}
use Rattle.gsym_write_c.specs.declared.GsymEntry.{GsymEntry}
use Rattle.gsym_write_c.proofs.rows.items_come_out.Given as goal

abbrev pub invariant-loop-row : goal.invariant-loop-row
invariant-loop-row l = l.left + sum_by (λ (e : GsymEntry). e.items) (take l.row-index l.rows) ≡ l.count
