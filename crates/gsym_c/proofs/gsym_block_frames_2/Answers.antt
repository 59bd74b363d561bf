-- `gsym_c::gsym_block_frames_2` meets its contract: it tells by numbers what `gsym::block_frames` returns.
-- Assumes nothing.
use Rattle.gsym_c.proofs.Told.{told_listed, told_refused}
use Rattle.gsym_c.proofs.gsym_block_frames_2.Goals as goal

pub returns-clause-listed : goal.returns-clause-listed
returns-clause-listed c =
    told_listed _ _ _ _ _ _ c.from.ensures _ c.block_frames.ensures.reads c.block_frames.ensures.listed

pub returns-clause-refused : goal.returns-clause-refused
returns-clause-refused c = λ r. told_refused _ _ _ _ _ _ c.from.ensures c.block_frames.ensures.refused r
