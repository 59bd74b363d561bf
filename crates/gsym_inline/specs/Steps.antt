-- The reading order of RULES ("Inline tree") as a list: a block as the steps of its reading. Each item that is read is
-- a step, and so is all that is judged, where RULES has it. The list says nothing of what is refused, and goes on past
-- every fault but one: after an item that doesn't read nothing is known. specs/FirstFault.antt says which step is
-- refused.
--
--   item_steps i s at (λ v n. ..)   the item i at the place `at`: its value is v, and reading goes on at the place n
--
-- Each node takes at least one byte, so that as many turns as bytes, and one to see the end, are enough.
-- Assumes nothing.
use Rattle.std.specs.Prelude.{
  Ok,
  Err,
  Result,
  ℕ,
  zero,
  suc,
  ◌+◌,
  min,
  Bool,
  false,
  List,
  [],
  ◌∷◌,
  ◌≡◌,
  ◌==◌,
  length,
  if◌then◌else◌,
}
use Rattle.gsym_reads.specs.Steps.{◌>>=◌, given}
use Rattle.gsym_reads.specs.Answers.{u8_at, u32_at}
use Rattle.gsym_leb128.specs.Answers.{unsigned_at}
use Rattle.gsym_leb128.specs.declared.Cause.{Cause}
use Rattle.gsym_leb128.specs.declared.Cause.TheVariants.{Short}
use Rattle.gsym_inline.specs.Limits.{most_line}
use Rattle.gsym_inline.specs.Tree.{Range, Node}
use Rattle.gsym_inline.specs.Frames.{any_in, child_base}

-- the items of a node, in file order
pub data NodeItem : Type 0 where
  range_count : NodeItem
  range_offset : NodeItem
  range_size : NodeItem
  children_byte : NodeItem
  node_name : NodeItem
  call_file : NodeItem
  call_line : NodeItem

-- an item is read, with its value, or doesn't read; a node stands on a level; a judged node's range starts and ends,
-- and its call file is known; a node is open
pub data Step : Type 0 where
  read : NodeItem → ℕ → Step
  unread : NodeItem → Cause → Step
  stands : ℕ → Step
  starts : ℕ → Step
  ends : ℕ → Step
  calls : ℕ → Step
  opens : Node → Step

-- ---- items

-- the children byte is one byte, the name four, and the others are unsigned LEB128
unfoldable pub item_at : NodeItem → List ℕ → ℕ → Result (ℕ × ℕ) Cause
item_at range_count s at = unsigned_at s at
item_at range_offset s at = unsigned_at s at
item_at range_size s at = unsigned_at s at
item_at children_byte s at = do
  v ← given Short (u8_at s at)
  Ok (v, at + 1)
item_at node_name s at = do
  v ← given Short (u32_at s at)
  Ok (v, at + 4)
item_at call_file s at = unsigned_at s at
item_at call_line s at = unsigned_at s at

unfoldable pub with_item : NodeItem → (ℕ → ℕ → List Step) → Result (ℕ × ℕ) Cause → List Step
with_item i go (Ok (v, n)) = read i v ∷ go v n
with_item i go (Err k) = unread i k ∷ []

abbrev pub item_steps : NodeItem → List ℕ → ℕ → (ℕ → ℕ → List Step) → List Step
item_steps i s at go = with_item i go (item_at i s at)

-- ---- which nodes are judged

-- what nodes are judged for: their frames at an address, or a check of them all
pub data Judging : Type 0 where
  at_address : ℕ → Judging
  everywhere : Judging

-- nodes side by side are judged, their offsets counted from a base, or passed over
pub data Mode : Type 0 where
  judged : (base : ℕ) → Mode
  passed : Mode

-- a node is open if it is judged and contains the address; a check asks for none
unfoldable pub is_open : Judging → Mode → Node → Bool
is_open (at_address addr) (judged base) self = any_in addr base self.ranges
is_open (at_address addr) passed self = false
is_open everywhere mode self = false

-- the children of open nodes are judged, and no others; in a check those of every node, and none is passed over
unfoldable pub children_mode : Judging → Mode → Node → Mode
children_mode (at_address addr) (judged base) self =
    if any_in addr base self.ranges then judged (child_base base self) else passed
children_mode (at_address addr) passed self = passed
children_mode everywhere (judged base) self = judged (child_base base self)
children_mode everywhere passed self = passed

-- start and end of a range, and the call file: of judged nodes only
unfoldable pub sums : Mode → Range → List Step → List Step
sums (judged base) r more = starts (base + r.off) ∷ (ends (base + r.off + r.size) ∷ more)
sums passed r more = more

unfoldable pub limit : Mode → ℕ → List Step → List Step
limit (judged base) file more = calls file ∷ more
limit passed file more = more

-- ---- a node, nodes side by side, a block

-- for each range its offset, its size, its start, its end
unfoldable pub range_steps : ℕ → List ℕ → Mode → ℕ → (List Range → ℕ → List Step) → List Step
range_steps zero s mode at go = go [] at
range_steps (suc count) s mode at go =
    item_steps range_offset s at (λ off n.
    item_steps range_size s n (λ size m.
    sums mode (record { off = off; size = size }) (
    range_steps count s mode m (λ rs k. go (record { off = off; size = size } ∷ rs) k))))

-- after a node's items: that it is open; its children, with `list` for a list of them; and what comes after it
unfoldable pub children_steps :
    (ℕ → Mode → ℕ → (ℕ → List Step) → List Step) → Judging → (level : ℕ) → Mode → (ℕ → List Step) →
    Node → (children next : ℕ) → List Step
children_steps list judging level mode rest self children next =
    let more = if children == 0 then rest next else list (level + 1) (children_mode judging mode self) next rest in
    if is_open judging mode self then opens self ∷ more else more

-- The order inside a node (RULES, "Inline tree"): the range count; the level; for each range its offset, size, start
-- and end; the children byte, the name, the call file and its limit, the call line; that it is open. A range count of 0
-- is the end of the list, and `over` what comes after the list.
unfoldable pub node_steps :
    (ℕ → Mode → ℕ → (ℕ → List Step) → List Step) → List ℕ → Judging → (level : ℕ) → Mode → (at : ℕ) →
    (over rest : ℕ → List Step) → List Step
node_steps list s judging level mode at over rest =
    item_steps range_count s at (λ count n.
    if count == 0 then over n else (
    stands level ∷ (
    range_steps count s mode n (λ rs n.
    item_steps children_byte s n (λ children n.
    item_steps node_name s n (λ name n.
    item_steps call_file s n (λ file n.
    limit mode file (
    item_steps call_line s n (λ line n.
    children_steps list judging level mode rest
    (record { ranges = rs; name = name; file = file; line = min most_line line }) children n)))))))))

-- nodes side by side, each with all below it before the next, in so many turns
unfoldable pub list_steps : ℕ → List ℕ → Judging → (level : ℕ) → Mode → (at : ℕ) → (over : ℕ → List Step) → List Step
list_steps zero s judging level mode at over = unread range_count Short ∷ []
list_steps (suc turns) s judging level mode at over =
    node_steps (list_steps turns s judging) s judging level mode at over
    (λ n. list_steps turns s judging level mode n over)

-- a block: its root is judged, stands on level 1 and counts from the symbol's address; what follows it is ignored
unfoldable pub block_steps : Judging → (symbol : ℕ) → List ℕ → List Step
block_steps judging symbol bytes =
    node_steps (list_steps (suc (length bytes)) bytes judging) bytes judging 1 (judged symbol) 0 (λ n. []) (λ n. [])

-- for its frames at an address
abbrev pub steps_of : (symbol addr : ℕ) → List ℕ → List Step
steps_of symbol addr bytes = block_steps (at_address addr) symbol bytes

-- for a check of all its nodes
abbrev pub check_steps : (symbol : ℕ) → List ℕ → List Step
check_steps symbol bytes = block_steps everywhere symbol bytes

-- ---- the order, said of a list of steps

-- from a place on, the items stand in the bytes one after another, and one that doesn't read is the last
unfoldable pub InFile : List ℕ → ℕ → List Step → Type 0
InFile s at [] = Unit {0}
InFile s at (read i v ∷ more) = (next : ℕ) × (item_at i s at ≡ Ok (v, next)) × InFile s next more
InFile s at (unread i k ∷ more) = (item_at i s at ≡ Err k) × (more ≡ [])
InFile s at (stands n ∷ more) = InFile s at more
InFile s at (starts v ∷ more) = InFile s at more
InFile s at (ends v ∷ more) = InFile s at more
InFile s at (calls v ∷ more) = InFile s at more
InFile s at (opens self ∷ more) = InFile s at more

-- what comes directly before what is judged: a range count other than 0 before the level; a range's size before its
-- start, and that before its end; the call file before its limit; the call line before an open node
unfoldable pub Follows : (last x : Step) → Type 0
Follows last (read i v) = Unit {0}
Follows last (unread i k) = Unit {0}
Follows last (stands n) = (count : ℕ) × (last ≡ read range_count count) × (count ≡ 0 → ⊥)
Follows last (starts v) = (size : ℕ) × (last ≡ read range_size size)
Follows last (ends v) = (start : ℕ) × (last ≡ starts start)
Follows last (calls v) = last ≡ read call_file v
Follows last (opens self) = (line : ℕ) × (last ≡ read call_line line)

-- so it is after `last`
unfoldable pub InPlace : (last : Step) → List Step → Type 0
InPlace last [] = Unit {0}
InPlace last (x ∷ more) = Follows last x × InPlace x more
