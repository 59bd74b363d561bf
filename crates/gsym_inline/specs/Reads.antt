-- When a block reads at an address: the conditions of RULES ("Inline tree"), said of the paths that lead to nodes.
-- Assumes nothing.
use Rattle.std.specs.Prelude.{Ok, ℕ, ◌+◌, ◌≤◌, List, ◌≡◌, length}
use Rattle.gsym_inline.specs.Limits.{deepest_level}
use Rattle.gsym_inline.specs.Tree.{Forest}
use Rattle.gsym_inline.specs.Paths.{NodePath, JudgedFit, NoneOn, ListedPaths}
use Rattle.gsym_inline.specs.Full.{tree_of}

pub record Reads (symbol addr room : ℕ) (bytes : List ℕ) : Type 0 where
  -- its tree is there in full
  pub forest : Forest
  pub place : ℕ
  pub full : tree_of bytes ≡ Ok (forest, place)
  -- no judged node has a start or an end above 2^64-1 or a call file above the limit
  pub fits : JudgedFit addr symbol forest
  -- no node stands on a level below the deepest one (the root stands on level 1)
  pub levels : NoneOn (deepest_level + 1) symbol forest
  -- the open nodes whose name is not 0, each once, are no more than there is room for
  pub paths : List NodePath
  pub listed : ListedPaths addr symbol forest paths
  pub few : length paths ≤ room
