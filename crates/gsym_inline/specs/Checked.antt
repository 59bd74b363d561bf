-- A tree checked at every node, in one pass: what comes first in reading order, or the place after it (RULES, "Checking
-- a file"). Every node is judged: no address is asked for.
--
-- As in passing over, `checked_list` asks for no number of turns, and is its first node and then the rest
-- (`checked_step`).
-- Assumes nothing.
use Rattle.std.specs.Prelude.{Ok, Err, Result, ℕ, zero, suc, ◌≤◌, ◌⊎◌, ◌≡◌, List, ◌==◌, length, if◌then◌else◌}
use Rattle.gsym_reads.specs.Steps.{◌>>=◌, told}
use Rattle.gsym_types.specs.declared.Refusal.{Refusal}
use Rattle.gsym_types.specs.Refusal.{number_of}
use Rattle.gsym_leb128.specs.declared.Cause.TheVariants.{Short}
use Rattle.gsym_inline.specs.Judge.{judged_at}
use Rattle.gsym_inline.specs.Skip.{then_skip}
use Rattle.gsym_inline.specs.Walk.{below}
use Rattle.gsym_inline.specs.Block.{refusal_of}
use Rattle.gsym_inline.specs.declared.head.Fault.{Fault}
use Rattle.gsym_inline.specs.declared.head.Fault.TheVariants.{Unread}
use Rattle.gsym_inline.specs.Inherited.{Inherited}
use Rattle.gsym_inline.specs.declared.judge.JudgedNode.{JudgedNode}
use Rattle.gsym_inline.specs.declared.head.Head.{Head}
use Rattle.gsym_inline.specs.declared.head.Head.TheVariants as head
use Rattle.gsym_inline.specs.declared.skipping.Next.{Next}
use Rattle.gsym_inline.specs.declared.skipping.Next.TheVariants as next

-- what goes down the tree: no address is asked for, and no frame is kept
abbrev pub check_context : (level base : ℕ) → Inherited
check_context level base = record { level = level; addr = 0; base = base; room = 0 }

-- from its judged head a node and all below it, with `children` for its list of children: past it, or the list's end
-- instead of it
unfoldable pub checked_from : (Inherited → ℕ → Result ℕ Fault) → Inherited → Head JudgedNode → Result Next Fault
checked_from children c (head.End n) = Ok (next.End n)
checked_from children c (head.Node node) = do
  n ← if node.children == 0 then Ok node.next else children (below c node.base) node.next
  Ok (next.Past n)

-- the list of nodes from a place on, in so many turns: the place after it
unfoldable pub checked_within : ℕ → List ℕ → Inherited → ℕ → Result ℕ Fault
checked_within zero s c at = Err (Unread Short)
checked_within (suc turns) s c at = do
  head ← judged_at c s at
  after ← checked_from (checked_within turns s) c head
  then_skip (checked_within turns s c) after

-- the list of nodes from a place on
unfoldable pub checked_list : List ℕ → Inherited → ℕ → Result ℕ Fault
checked_list s c at = checked_within (suc (length s)) s c at

-- one node with all below it
unfoldable pub checked_node : List ℕ → Inherited → ℕ → Result Next Fault
checked_node s c at = do
  head ← judged_at c s at
  checked_from (checked_list s) c head

-- a block: its root stands on level 1 and counts from the symbol's address; bytes after the root's end are ignored
unfoldable pub checked_tree : (symbol : ℕ) → List ℕ → Result (Unit {0}) Refusal
checked_tree symbol bytes = do
  after ← told refusal_of (checked_node bytes (check_context 1 symbol) 0)
  Ok tt

-- what a tree that is checked may be refused with, by its number: 10 to 13, or 15
abbrev pub IsOfTreeCheck : Refusal → Type 0
IsOfTreeCheck r = ((10 ≤ number_of r) × (number_of r ≤ 13)) ⊎ (number_of r ≡ 15)
