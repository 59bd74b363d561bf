-- The tree that a block's bytes hold in full: syntax only, no address and no level in it (RULES, "Inline tree").
--
-- Each node takes at least one byte, so that as many turns as bytes, and one to see the end, are enough.
-- Assumes nothing.
use Rattle.std.specs.Prelude.{ℕ, zero, suc, List, Result, Ok, Err, ◌==◌, length, if◌then◌else◌}
use Rattle.gsym_reads.specs.Steps.{◌>>=◌}
use Rattle.gsym_leb128.specs.declared.Cause.{Cause}
use Rattle.gsym_leb128.specs.declared.Cause.TheVariants.{Short}
use Rattle.gsym_inline.specs.Tree.{Forest, none, tree}
use Rattle.gsym_inline.specs.Head.{EndOrNode, end, node, found_at}

-- nodes side by side, and the place after them
abbrev pub Read : Type 0
Read = Result (Forest × ℕ) Cause

-- from what is found at a place, with `children` for a list of children and `go` for what comes after a node
unfoldable pub read_from : (ℕ → Read) → (ℕ → Read) → EndOrNode → Read
read_from children go (end n) = Ok (none, n)
read_from children go (node self byte next) = do
  (below, m) ← if byte == 0 then Ok (none, next) else children next
  (rest, n) ← go m
  Ok (tree self below rest, n)

-- the nodes from a place on, up to a range count of 0, in so many turns
unfoldable pub read_within : ℕ → List ℕ → ℕ → Read
read_within zero s at = Err Short
read_within (suc turns) s at = do
  found ← found_at s at
  read_from (read_within turns s) (read_within turns s) found

-- a block: its root alone, or an empty tree where a range count of 0 stands instead
unfoldable pub tree_of : List ℕ → Read
tree_of bytes = do
  found ← found_at bytes 0
  read_from (read_within (suc (length bytes)) bytes) (λ n. Ok (none, n)) found
