-- `gsym_parser::search::halve` meets its contract: each turn is a turn of the search on the list of entries.
-- Assumes nothing.
use Rattle.std.proofs.Common.{arith}
use Rattle.gsym_parser.proofs.Turns.{turn-up, turn-stay, comes_to, comes_inside, kept_here}
use Rattle.gsym_parser.proofs.search.halve.Goals as goal
use Rattle.gsym_parser.proofs.search.halve.Goals.{then-entry-wanted, else-entry-wanted}

pub loop-len-init : goal.loop-len-init
loop-len-init c =
    let h = c.halve_in_pairs-lo.ensures in
    record { some = h.left.0; inside = h.left.1; same = h.same; kept-is = h.entry }

pub loop-len-preserved : goal.loop-len-preserved
loop-len-preserved c =
    let i = c.loop-len.invariant in
    elim c.if-entry-wanted.branch [
      | then-entry-wanted w ↦ turn-up _ _ _ _ _ _ _ _ c.entry_at-entry.ensures i _ _ (omega arith) w.lo-is w.kept-is
      | else-entry-wanted w ↦ turn-stay _ _ _ _ _ _ _ _ c.entry_at-entry.ensures i _ _ (omega arith) w.lo-is w.kept-is
    ]

pub returns-clause-index : goal.returns-clause-index
returns-clause-index c = comes_to _ _ _ _ _ _ _ c.loop-len-test.false c.loop-len.invariant

pub returns-clause-within : goal.returns-clause-within
returns-clause-within c = comes_inside _ _ _ _ _ _ _ c.loop-len.invariant

pub returns-clause-entry : goal.returns-clause-entry
returns-clause-entry c = kept_here _ _ _ _ _ _ _ c.loop-len.invariant
