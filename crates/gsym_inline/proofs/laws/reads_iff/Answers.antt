-- A block reads exactly if it does so by paths.
-- Assumes nothing.
use Rattle.gsym_inline.proofs.Listing.{reads-iff}
use Rattle.gsym_inline.proofs.laws.reads_iff.Goals as goal

pub returns : goal.returns
returns c symbol addr room bytes = reads-iff symbol addr room bytes
