-- One list of frames or one refusal for each block.
-- Assumes nothing.
use Rattle.gsym_inline.proofs.Listing.{frames_unique}
use Rattle.gsym_inline.proofs.FirstFault.{first_unique}
use Rattle.gsym_inline.proofs.laws.one_answer.Goals as goal

pub returns-clause-frames : goal.returns-clause-frames
returns-clause-frames c symbol addr room bytes fs gs F G = frames_unique symbol addr room bytes fs gs F G

pub returns-clause-refusal : goal.returns-clause-refusal
returns-clause-refusal c symbol addr room bytes r q R Q = first_unique symbol addr room bytes r q R Q
