-- What reading a single block leaves in the list that is lent to it.
-- Assumes nothing.
use Rattle.std.specs.Prelude.{ℕ, List, take, Result, Ok, Err}
use Rattle.gsym_types.specs.declared.InlineFrame.{InlineFrame}
use Rattle.gsym_types.specs.declared.Refusal.{Refusal}
use Rattle.gsym_inline.specs.Block.{Block}

-- the frames of a block, which stand at the front of the list, or its refusal
abbrev pub frames_in : Result ℕ Refusal → List InlineFrame → Block
frames_in (Ok count) frames = Ok (take count frames)
frames_in (Err r) frames = Err r
