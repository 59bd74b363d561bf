-- A node's head: what stands at a place, with no address in mind (RULES, "Inline tree").
--
--   range count   unsigned LEB128   0: no node, the list ends here
--   per range     offset, size      unsigned LEB128 both
--   children      1 byte            other than 0: a list of children follows the head
--   name          4 bytes
--   call file     unsigned LEB128
--   call line     unsigned LEB128   above 4,294,967,295 it becomes that
--
-- Assumes nothing.
use Rattle.std.specs.Prelude.{
  Ok,
  Err,
  Result,
  ℕ,
  zero,
  suc,
  ◌+◌,
  ◌<◌,
  ◌≤◌,
  min,
  List,
  [],
  ◌∷◌,
  ◌==◌,
  nat_le,
  if◌then◌else◌,
}
use Rattle.gsym_reads.specs.Steps.{◌>>=◌, ◌>>◌, need, given, told}
use Rattle.gsym_reads.specs.Answers.{u8_at, u32_at}
use Rattle.gsym_leb128.specs.Answers.{unsigned_at}
use Rattle.gsym_leb128.specs.declared.Cause.{Cause}
use Rattle.gsym_leb128.specs.declared.Cause.TheVariants.{Short}
use Rattle.gsym_inline.specs.Limits.{most_line, deepest_level}
use Rattle.gsym_inline.specs.Tree.{Range, Node}
use Rattle.gsym_inline.specs.declared.head.Fault.{Fault}
use Rattle.gsym_inline.specs.declared.head.Fault.TheVariants.{Unread, Level}
use Rattle.gsym_inline.specs.declared.head.NodeHead.{NodeHead}
use Rattle.gsym_inline.specs.declared.head.Head.{Head}
use Rattle.gsym_inline.specs.declared.head.Head.TheVariants as head

-- one range, and the place after it
unfoldable pub range_at : List ℕ → ℕ → Result (Range × ℕ) Cause
range_at s at = do
  (off, m) ← unsigned_at s at
  (size, n) ← unsigned_at s m
  Ok (record { off = off; size = size }, n)

-- ranges one after another, and the place after them
unfoldable pub ranges_at : ℕ → List ℕ → ℕ → Result (List Range × ℕ) Cause
ranges_at zero s at = Ok ([], at)
ranges_at (suc count) s at = do
  (r, n) ← range_at s at
  (rs, m) ← ranges_at count s n
  Ok (r ∷ rs, m)

-- the children byte and the name, which stand side by side
unfoldable pub children_and_name : List ℕ → ℕ → Result (ℕ × ℕ) Cause
children_and_name s at = do
  children ← given Short (u8_at s at)
  name ← given Short (u32_at s (at + 1))
  Ok (children, name)

-- what follows a node's ranges, with the place of its name and the place after it
pub record Rest : Type 0 where
  pub children : ℕ
  pub name_at : ℕ
  pub name : ℕ
  pub file : ℕ
  pub line : ℕ
  pub next : ℕ

unfoldable pub rest_at : List ℕ → ℕ → Result Rest Cause
rest_at s at = do
  children ← given Short (u8_at s at)
  name ← given Short (u32_at s (at + 1))
  (file, m) ← unsigned_at s (at + 5)
  (line, next) ← unsigned_at s m
  Ok (record {
    children = children;
    name_at = at + 1;
    name = name;
    file = file;
    line = min most_line line;
    next = next;
  })

-- a node after its range count: what it says, its children byte, and the place after its head
unfoldable pub whole_at : List ℕ → ℕ → ℕ → Result (Node × ℕ × ℕ) Cause
whole_at s count first = do
  (rs, m) ← ranges_at count s first
  t ← rest_at s m
  Ok (record { ranges = rs; name = t.name; file = t.file; line = t.line }, t.children, t.next)

-- what is found at a place: a list's end and the place after it; or a node, its children byte, and the place after its
-- head
pub data EndOrNode : Type 0 where
  end : ℕ → EndOrNode
  node : Node → (children next : ℕ) → EndOrNode

unfoldable pub found_at : List ℕ → ℕ → Result EndOrNode Cause
found_at s at = do
  (count, first) ← unsigned_at s at
  if count == 0 then Ok (end first) else do
    (self, children, next) ← whole_at s count first
    Ok (node self children next)

-- ---- the same as a caller gets it, who counts levels and judges no range and no call file

-- the place after ranges
unfoldable pub past_ranges : ℕ → List ℕ → ℕ → Result ℕ Cause
past_ranges count s at = do
  (rs, n) ← ranges_at count s at
  Ok n

-- what follows the ranges, of which there are `count` from `first` on
unfoldable pub rest_head : ℕ → ℕ → List ℕ → ℕ → Result NodeHead Fault
rest_head count first s at = do
  t ← told Unread (rest_at s at)
  Ok (record {
    ranges = count;
    first = first;
    children = t.children;
    name_at = t.name_at;
    name = record { 0 = t.name };
    call_file = t.file;
    call_line = record { 0 = t.line };
    next = t.next;
  })

-- a node after its range count: its level, its ranges, what follows them
unfoldable pub node_head : List ℕ → ℕ → ℕ → ℕ → Result NodeHead Fault
node_head s level count first = do
  need (nat_le level deepest_level) Level
  at ← told Unread (past_ranges count s first)
  rest_head count first s at

unfoldable pub head_at : List ℕ → ℕ → ℕ → Result (Head NodeHead) Fault
head_at s level at = do
  (count, first) ← told Unread (unsigned_at s at)
  if count == 0 then Ok (head.End first) else do
    h ← node_head s level count first
    Ok (head.Node h)

-- where reading goes on after a head, of a node at `next`: further on, within `len` bytes; and a node stands on no
-- level below the deepest
abbrev pub GoesOn : {T : Type 0} → Result (Head T) Fault → (next : T → ℕ) → (level at len : ℕ) → Type 0
GoesOn (Ok (head.End n)) next level at len = (at < n) × (n ≤ len)
GoesOn (Ok (head.Node h)) next level at len = (at < next h) × (next h ≤ len) × (level ≤ deepest_level)
GoesOn (Err f) next level at len = Unit {0}
