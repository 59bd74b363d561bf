-- The paths of the frames of a tree, by recursion on it.
-- Assumes nothing.
use Rattle.std.specs.Prelude.{ℕ, suc, List, [], ◌∷◌, ◌++◌, map, ◌==◌, if◌then◌else◌}
use Rattle.gsym_inline.specs.Tree.{Node, Forest, none, tree}
use Rattle.gsym_inline.specs.Frames.{any_in, child_base}
use Rattle.gsym_inline.specs.Paths.{NodePath, top, under}

-- the path to the same node once one more stands in front
abbrev pub later : NodePath → NodePath
later (top i) = top (suc i)
later (under i p) = under (suc i) p

-- a first node's own path: none where its name is 0
abbrev pub own_path : Node → List NodePath
own_path n = if n.name == 0 then [] else top 0 ∷ []

-- the paths of the frames, in the order of `frames`
unfoldable pub frame_paths : ℕ → ℕ → Forest → List NodePath
frame_paths addr base none = []
frame_paths addr base (tree n children rest) =
    (if any_in addr base n.ranges
    then own_path n ++ map (under 0) (frame_paths addr (child_base base n) children)
    else [])
    ++ map later (frame_paths addr base rest)
