-- When the tree of a block is there in full, each of its nodes judged (RULES, "Checking a file"), said of the paths
-- that lead to nodes.
-- Assumes nothing.
use Rattle.std.specs.Prelude.{Ok, ℕ, ◌+◌, List, ◌≡◌}
use Rattle.gsym_inline.specs.Limits.{deepest_level}
use Rattle.gsym_inline.specs.Tree.{Forest}
use Rattle.gsym_inline.specs.Paths.{AllFit, NoneOn}
use Rattle.gsym_inline.specs.Full.{tree_of}

pub record TreeInFull (symbol : ℕ) (bytes : List ℕ) : Type 0 where
  -- its bytes read up to the root's end
  pub forest : Forest
  pub place : ℕ
  pub full : tree_of bytes ≡ Ok (forest, place)
  -- no node has a start or an end above 2^64-1 or a call file above the limit
  pub fits : AllFit symbol forest
  -- no node stands on a level below the deepest one (the root stands on level 1)
  pub levels : NoneOn (deepest_level + 1) symbol forest
