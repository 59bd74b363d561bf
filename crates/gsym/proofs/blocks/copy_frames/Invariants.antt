-- The frames so far stand at the front, and what stood behind them still does.
-- Assumes nothing.
use Rattle.std.proofs.Common.{◌≡◌, ◌++◌, take, drop}
use Rattle.gsym.proofs.blocks.copy_frames.Given as goal

abbrev pub invariant-loop-i : goal.invariant-loop-i
invariant-loop-i l = l.frames ≡ take l.i l.listed ++ drop l.i l.initial.frames
