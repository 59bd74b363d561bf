use Rattle.std.proofs.Common.{◌≡◌, suc, ◌-◌, length}
use Rattle.gsym_linetab.specs.Rows.{row_from}
use Rattle.gsym_linetab.proofs.row_by_op.Given as goal

abbrev pub invariant-opcodes : goal.invariant-opcodes
invariant-opcodes l =
    row_from l.header l.ops l.addr l.initial.before l.initial.state
    ≡ row_from l.header l.ops l.addr l.before l.state

abbrev pub decreases-opcodes : goal.decreases-opcodes
decreases-opcodes l = suc (length l.ops) - l.state.at
