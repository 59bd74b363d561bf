-- `gsym::blocks::block_frames` meets its contract: what follows from the equation with the definition.
-- Assumes nothing.
use Rattle.gsym.proofs.SingleBlock.{block_reads, block_refused}
use Rattle.gsym.proofs.blocks.block_frames.Goals as goal

pub returns-clause-reads : goal.returns-clause-reads
returns-clause-reads c = block_reads _ _ _ _ _ _ c.read_block.ensures.exact

pub returns-clause-refused : goal.returns-clause-refused
returns-clause-refused c = λ r. block_refused _ _ _ _ _ _ c.read_block.ensures.exact r
