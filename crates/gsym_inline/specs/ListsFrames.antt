-- What a block that reads gives (RULES, "Inline tree"): the frames of exactly its open nodes whose name is not 0, each
-- once, parents before children, siblings in file order, all below one sibling before the next.
-- Assumes nothing.
use Rattle.std.specs.Prelude.{ℕ, List}
use Rattle.gsym_types.specs.declared.InlineFrame.{InlineFrame}
use Rattle.gsym_inline.specs.Paths.{FramesAt}
use Rattle.gsym_inline.specs.Reads.{Reads}

-- the block reads, and these are its frames: those of the nodes at the paths that `Reads` lists
pub record ListsFrames (symbol addr room : ℕ) (bytes : List ℕ) (fs : List InlineFrame) : Type 0 where
  pub reads : Reads symbol addr room bytes
  pub frames : FramesAt symbol reads.forest reads.paths fs
