-- A block that is cut is short, or answers as the whole does.
-- Assumes nothing.
use Rattle.gsym_inline.proofs.Cut.{block_cut, tree_cut}
use Rattle.gsym_inline.proofs.laws.cut_blocks.Goals as goal

pub returns-clause-frames : goal.returns-clause-frames
returns-clause-frames c symbol addr room front rest = block_cut front rest symbol addr room

pub returns-clause-check : goal.returns-clause-check
returns-clause-check c symbol front rest = tree_cut front rest symbol
