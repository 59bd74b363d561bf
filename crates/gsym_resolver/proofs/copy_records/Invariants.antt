-- The records so far stand at the front, and what stood behind them still does.
-- Assumes nothing.
use Rattle.std.proofs.Common.{◌≡◌, ◌++◌, take, drop}
use Rattle.gsym_resolver.proofs.copy_records.Given as goal

abbrev pub invariant-loop-i : goal.invariant-loop-i
invariant-loop-i l = l.records ≡ take l.i l.made ++ drop l.i l.initial.records
