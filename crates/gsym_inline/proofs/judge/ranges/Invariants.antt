use Rattle.std.proofs.Common.{◌≡◌, ◌-◌, eqb}
use Rattle.gsym_inline.specs.Judge.{judged_ranges, spans_of}
use Rattle.gsym_inline.specs.Inherited.{inherited_of}
use Rattle.gsym_inline.proofs.Ranges.{spans_from}
use Rattle.gsym_inline.proofs.judge.ranges.Given as goal

abbrev pub invariant-loop-k : goal.invariant-loop-k
invariant-loop-k l =
    spans_of (inherited_of l.context) (judged_ranges l.context.base l.count l.s l.at)
    ≡ spans_from (inherited_of l.context) (eqb l.k 0) l.first l.inside
    (judged_ranges l.context.base (l.count - l.k) l.s l.to)
