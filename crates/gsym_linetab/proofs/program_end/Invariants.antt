use Rattle.std.proofs.Common.{◌≡◌, suc, ◌-◌, length}
use Rattle.gsym_linetab.specs.Rows.{run_of}
use Rattle.gsym_linetab.proofs.program_end.Given as goal

-- the program ends from here as it does from its start
abbrev pub invariant-opcodes : goal.invariant-opcodes
invariant-opcodes l = (run_of l.header l.ops l.initial.state).ended ≡ (run_of l.header l.ops l.state).ended

abbrev pub decreases-opcodes : goal.decreases-opcodes
decreases-opcodes l = suc (length l.ops) - l.state.at
