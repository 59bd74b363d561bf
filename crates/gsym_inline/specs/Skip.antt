-- Nodes that are passed over with all their descendants: only 10, 13 and 15 apply to them (RULES, "Inline tree").
--
-- Each node takes at least one byte, so that as many turns as bytes, and one to see the end, are enough: `skip_list`
-- asks for no number of turns, and proofs/Fuel.antt says that it is its first node and then the rest (`skip_step`).
-- Assumes nothing.
use Rattle.std.specs.Prelude.{Ok, Err, Result, ℕ, zero, suc, ◌+◌, ◌<◌, ◌≤◌, List, ◌==◌, length, if◌then◌else◌}
use Rattle.gsym_reads.specs.Steps.{◌>>=◌}
use Rattle.gsym_leb128.specs.declared.Cause.TheVariants.{Short}
use Rattle.gsym_inline.specs.Head.{head_at}
use Rattle.gsym_inline.specs.declared.head.Fault.{Fault}
use Rattle.gsym_inline.specs.declared.head.Fault.TheVariants.{Unread}
use Rattle.gsym_inline.specs.declared.head.Head.{Head}
use Rattle.gsym_inline.specs.declared.head.NodeHead.{NodeHead}
use Rattle.gsym_inline.specs.declared.head.Head.TheVariants as head
use Rattle.gsym_inline.specs.declared.skipping.Next.{Next}
use Rattle.gsym_inline.specs.declared.skipping.Next.TheVariants as next

-- from its head a node and all below it, with `children` for its list of children: past it, or the list's end instead
-- of it
unfoldable pub past_node : (ℕ → Result ℕ Fault) → Head NodeHead → Result Next Fault
past_node children (head.End n) = Ok (next.End n)
past_node children (head.Node h) = do
  n ← if h.children == 0 then Ok h.next else children h.next
  Ok (next.Past n)

-- after one node the list goes on; its end ends it
unfoldable pub then_skip : (ℕ → Result ℕ Fault) → Next → Result ℕ Fault
then_skip go (next.End n) = Ok n
then_skip go (next.Past n) = go n

-- the list of nodes from a place on, in so many turns: the place after it
unfoldable pub skip_within : ℕ → List ℕ → ℕ → ℕ → Result ℕ Fault
skip_within zero s level at = Err (Unread Short)
skip_within (suc turns) s level at = do
  head ← head_at s level at
  after ← past_node (skip_within turns s (level + 1)) head
  then_skip (skip_within turns s level) after

-- the list of nodes from a place on
unfoldable pub skip_list : List ℕ → ℕ → ℕ → Result ℕ Fault
skip_list s level at = skip_within (suc (length s)) s level at

-- one node with all below it
unfoldable pub skip_node : List ℕ → ℕ → ℕ → Result Next Fault
skip_node s level at = do
  head ← head_at s level at
  past_node (skip_list s (level + 1)) head

-- ---- where reading goes on: further on, within `len` bytes

abbrev pub Onward : (at len : ℕ) → Result Next Fault → Type 0
Onward at len (Ok (next.End n)) = (at < n) × (n ≤ len)
Onward at len (Ok (next.Past n)) = (at < n) × (n ≤ len)
Onward at len (Err f) = Unit {0}

abbrev pub PlaceOnward : (at len : ℕ) → Result ℕ Fault → Type 0
PlaceOnward at len (Ok n) = (at < n) × (n ≤ len)
PlaceOnward at len (Err f) = Unit {0}
