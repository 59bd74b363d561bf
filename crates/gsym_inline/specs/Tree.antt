-- The tree that a block holds: syntax only, no address in it (RULES, "Inline tree").
--
--   range    offset and size, as they stand in the file
--   node     ranges, name, call file, call line (at most 4,294,967,295), and its children in file order
--
-- Nodes that stand side by side are one value: the first of them with its children, and those after it.
-- Assumes nothing.
use Rattle.std.specs.Prelude.{ℕ, List}

pub record Range : Type 0 where
  pub off : ℕ
  pub size : ℕ

-- what a node says of itself
pub record Node : Type 0 where
  pub ranges : List Range
  pub name : ℕ
  pub file : ℕ
  pub line : ℕ

-- nodes side by side: none, or a node with its children and the nodes after it
pub data Forest : Type 0 where
  none : Forest
  tree : (self : Node) → (children rest : Forest) → Forest
