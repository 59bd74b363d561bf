use Rattle.std.proofs.Common.{suc, ◌-◌, length}
use Rattle.gsym_linetab.proofs.Quickly.{Here}
use Rattle.gsym_linetab.proofs.quick.quick_rows.Given as goal

abbrev pub invariant-rows : goal.invariant-rows
invariant-rows l = Here l.plan.header l.ops l.addr l.initial.state l.state

abbrev pub decreases-rows : goal.decreases-rows
decreases-rows l = suc (length l.ops) - l.state.at
