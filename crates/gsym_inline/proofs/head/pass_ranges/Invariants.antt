use Rattle.std.proofs.Common.{◌≡◌, ◌-◌}
use Rattle.gsym_inline.specs.Head.{past_ranges}
use Rattle.gsym_inline.proofs.head.pass_ranges.Given as goal

abbrev pub invariant-loop : goal.invariant-loop
invariant-loop l = past_ranges l.count l.s l.at ≡ past_ranges (l.count - l.counter) l.s l.to
