-- `gsym_linetab::quick::pc_row` meets its contract: opcode 2 is there and its operand is read, or nothing is said.
-- Assumes nothing.
use Rattle.std.proofs.Common.{sym, ◌∙◌}
use Rattle.gsym_linetab.proofs.Quickly.{pc_makes}
use Rattle.gsym_linetab.proofs.quick.pc_row.Goals as goal

pub returns-in-Ok : goal.returns-in-Ok
returns-in-Ok c header =
    pc_makes header _ c.args.state c.in-Ok.made c.if-ops-state.false c.if-ops-state-ne-ADVANCE_PC.false
    (sym c.advance_pc.ensures ∙ c.in-Ok.is)
