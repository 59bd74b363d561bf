use Rattle.std.proofs.Common.{suc, ◌-◌, length}
use Rattle.gsym_linetab.specs.Quick.{MakesNoRow}
use Rattle.gsym_linetab.proofs.quick.first_maker.Given as goal

abbrev pub invariant-settings : goal.invariant-settings
invariant-settings l = MakesNoRow l.ops l.initial.state l.state

abbrev pub decreases-settings : goal.decreases-settings
decreases-settings l = suc (length l.ops) - l.state.at
