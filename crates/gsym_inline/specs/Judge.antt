-- A node's head judged at an address (RULES, "Inline tree", "Order inside a node"): read and judged in this order, and
-- what comes first decides.
--
--   range count                               where it is 0 nothing more
--   level                                     13
--   each range's offset, size, start, end     11 for the start and for the end
--   children byte, name, call file
--   the call file's limit                     12
--   call line
--
-- What is read is 10 where it is short, and a number is 15 where it is too wide.
-- Assumes nothing.
use Rattle.std.specs.Prelude.{
  Ok,
  Result,
  ℕ,
  zero,
  suc,
  ◌+◌,
  min,
  List,
  [],
  ◌∷◌,
  Bool,
  ◌==◌,
  nat_le,
  if◌then◌else◌,
}
use Rattle.gsym_reads.specs.Steps.{◌>>=◌, ◌>>◌, need, given, told}
use Rattle.gsym_reads.specs.Answers.{u8_at, u32_at}
use Rattle.gsym_leb128.specs.Answers.{unsigned_at}
use Rattle.gsym_leb128.specs.declared.Cause.TheVariants.{Short}
use Rattle.gsym_inline.specs.Limits.{most_address, most_file, most_line, deepest_level}
use Rattle.gsym_inline.specs.Tree.{Range}
use Rattle.gsym_inline.specs.Frames.{in_range, any_in, first_off, frame}
use Rattle.gsym_inline.specs.declared.head.Fault.{Fault}
use Rattle.gsym_inline.specs.declared.head.Fault.TheVariants.{Unread, Level, Sum, CallFile}
use Rattle.gsym_inline.specs.Inherited.{Inherited}
use Rattle.gsym_inline.specs.declared.judge.JudgedNode.{JudgedNode}
use Rattle.gsym_inline.specs.declared.head.Head.{Head}
use Rattle.gsym_inline.specs.declared.head.Head.TheVariants as head

-- one range, whose offset counts from `base`, and the place after it
unfoldable pub judged_range : ℕ → List ℕ → ℕ → Result (Range × ℕ) Fault
judged_range base s at = do
  (off, m) ← told Unread (unsigned_at s at)
  (size, n) ← told Unread (unsigned_at s m)
  need (nat_le (base + off) most_address) Sum
  need (nat_le (base + off + size) most_address) Sum
  Ok (record { off = off; size = size }, n)

-- all ranges, and the place after them
unfoldable pub judged_ranges : ℕ → ℕ → List ℕ → ℕ → Result (List Range × ℕ) Fault
judged_ranges base zero s at = Ok ([], at)
judged_ranges base (suc count) s at = do
  (r, n) ← judged_range base s at
  (rs, m) ← judged_ranges base count s n
  Ok (r ∷ rs, m)

-- what follows the ranges, of which the first starts at `start`, and one contains the address or none does
unfoldable pub judged_rest : ℕ → Bool → List ℕ → ℕ → Result JudgedNode Fault
judged_rest start inside s at = do
  children ← given (Unread Short) (u8_at s at)
  name ← given (Unread Short) (u32_at s (at + 1))
  (file, m) ← told Unread (unsigned_at s (at + 5))
  need (nat_le file most_file) CallFile
  (line, next) ← told Unread (unsigned_at s m)
  Ok (record {
    next = next;
    base = start;
    inside = inside;
    children = children;
    frame = frame name file (min most_line line);
  })

-- what follows the range count
unfoldable pub judged_node : Inherited → List ℕ → ℕ → ℕ → Result JudgedNode Fault
judged_node c s count at = do
  need (nat_le c.level deepest_level) Level
  (rs, m) ← judged_ranges c.base count s at
  judged_rest (c.base + first_off rs) (any_in c.addr c.base rs) s m

-- what stands at a place, judged
unfoldable pub judged_at : Inherited → List ℕ → ℕ → Result (Head JudgedNode) Fault
judged_at c s at = do
  (count, first) ← told Unread (unsigned_at s at)
  if count == 0 then Ok (head.End first) else do
    node ← judged_node c s count first
    Ok (head.Node node)

-- ---- ranges as the code keeps them: the place after them, the start of the first, and whether one of them contains
-- the address

unfoldable pub span_of : Inherited → Result (Range × ℕ) Fault → Result (ℕ × ℕ × Bool) Fault
span_of c x = do
  (r, n) ← x
  Ok (n, c.base + r.off, in_range c.addr c.base r)

unfoldable pub spans_of : Inherited → Result (List Range × ℕ) Fault → Result (ℕ × ℕ × Bool) Fault
spans_of c x = do
  (rs, n) ← x
  Ok (n, c.base + first_off rs, any_in c.addr c.base rs)
