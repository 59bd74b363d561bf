-- `gsym_layout::content_comes_back`: the file opens, and what it says is what was given.
-- Assumes nothing.
use Rattle.gsym_layout.proofs.ReadBack.{says_given}
use Rattle.gsym_layout.proofs.content_comes_back.Goals as goal

pub returns : goal.returns
returns c = says_given
