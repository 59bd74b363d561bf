-- Blocks that read, written out, each with the frames of the definition: the marked examples T9 to T12 of RULES, a tree
-- of which no node starts where its base is, call lines about 2^32, and as many frames as there may be.
-- Assumes nothing.
use Rattle.std.specs.Prelude.{Ok, Err, ℕ, List, [], ◌∷◌, ◌++◌, ◌≡◌, refl, replicate}
use Rattle.gsym_types.specs.declared.Refusal.TheVariants.{TooManyFrames}
use Rattle.gsym_reads.specs.Fronts.{byte_front, u32_front}
use Rattle.gsym_reads.specs.Answers.{u8_at, u32_at}
use Rattle.gsym_leb128.specs.Leb.{digits, unsigned}
use Rattle.gsym_leb128.specs.Answers.{unsigned_at}
use Rattle.gsym_inline.specs.Frames.{in_range, any_in, first_off, frame}
use Rattle.gsym_inline.specs.Head.{range_at, ranges_at, rest_at, past_ranges, rest_head, node_head, head_at}
use Rattle.gsym_inline.specs.Judge.{judged_range, judged_ranges, judged_rest, judged_node, judged_at}
use Rattle.gsym_inline.specs.Skip.{past_node, then_skip, skip_within, skip_list}
use Rattle.gsym_inline.specs.Walk.{
  with_frame,
  open_node,
  closed_node,
  walk_from,
  then_walk,
  walk_within,
  walk_list,
  walk_node,
}
use Rattle.gsym_inline.specs.Block.{Block, room_of, block_of}

-- a node on 32 bytes from the base on, with this name and children to follow
abbrev pub root_named : ℕ → List ℕ
root_named name = 0x01 ∷ 0x00 ∷ 0x20 ∷ 0x01 ∷ name ∷ 0x00 ∷ 0x00 ∷ 0x00 ∷ 0x00 ∷ 0x00 ∷ []

-- a node of the name 5 on the bytes 4 to 11 from the base on
abbrev pub leaf : List ℕ
leaf = 0x01 ∷ 0x04 ∷ 0x08 ∷ 0x00 ∷ 0x05 ∷ 0x00 ∷ 0x00 ∷ 0x00 ∷ 0x01 ∷ 0x0a ∷ []

-- a root of the name `root` with a child of the name 5
abbrev pub root_over_leaf : ℕ → List ℕ
root_over_leaf root = root_named root ++ leaf ++ (0x00 ∷ [])

-- both contain 0x1005
pub t9 : block_of 0x1000 0x1005 64 (root_over_leaf 1) ≡ Ok (frame 1 0 0 ∷ frame 5 1 10 ∷ [])
unfolding byte_front u32_front u8_at u32_at digits unsigned unsigned_at in_range any_in first_off range_at ranges_at
    rest_at past_ranges rest_head node_head head_at judged_range judged_ranges judged_rest judged_node judged_at
    past_node then_skip skip_within skip_list with_frame open_node closed_node walk_from then_walk walk_within walk_list
    walk_node block_of
t9 = refl

-- only the root contains 0x100c
pub t10 : block_of 0x1000 0x100c 64 (root_over_leaf 1) ≡ Ok (frame 1 0 0 ∷ [])
unfolding byte_front u32_front u8_at u32_at digits unsigned unsigned_at in_range any_in first_off range_at ranges_at
    rest_at past_ranges rest_head node_head head_at judged_range judged_ranges judged_rest judged_node judged_at
    past_node then_skip skip_within skip_list with_frame open_node closed_node walk_from then_walk walk_within walk_list
    walk_node block_of
t10 = refl

-- the root has no name
pub t11 : block_of 0x1000 0x1005 64 (root_over_leaf 0) ≡ Ok (frame 5 1 10 ∷ [])
unfolding byte_front u32_front u8_at u32_at digits unsigned unsigned_at in_range any_in first_off range_at ranges_at
    rest_at past_ranges rest_head node_head head_at judged_range judged_ranges judged_rest judged_node judged_at
    past_node then_skip skip_within skip_list with_frame open_node closed_node walk_from then_walk walk_within walk_list
    walk_node block_of
t11 = refl

-- `00`
pub t12 : block_of 0x1000 0x1005 64 (0x00 ∷ []) ≡ Ok []
unfolding byte_front u32_front u8_at u32_at digits unsigned unsigned_at in_range any_in first_off range_at ranges_at
    rest_at past_ranges rest_head node_head head_at judged_range judged_ranges judged_rest judged_node judged_at
    past_node then_skip skip_within skip_list with_frame open_node closed_node walk_from then_walk walk_within walk_list
    walk_node block_of
t12 = refl

-- ---- offsets other than 0

-- for the symbol 0x1000: a root of the name 1 on 0x1010 to 0x104f and on 0x1080 to 0x108f; below it a node of the name
-- 2 on 0x1018 to 0x1027, counted from 0x1010; and below that one of the name 3 on 0x101c to 0x101f, counted from 0x1018
abbrev pub apart : List ℕ
apart =
    (0x02 ∷ 0x10 ∷ 0x40 ∷ 0x80 ∷ 0x01 ∷ 0x10 ∷ 0x01 ∷ 0x01 ∷ 0x00 ∷ 0x00 ∷ 0x00 ∷ 0x00 ∷ 0x00 ∷ [])
    ++ (0x01 ∷ 0x08 ∷ 0x10 ∷ 0x01 ∷ 0x02 ∷ 0x00 ∷ 0x00 ∷ 0x00 ∷ 0x03 ∷ 0x15 ∷ [])
    ++ (0x01 ∷ 0x04 ∷ 0x04 ∷ 0x00 ∷ 0x03 ∷ 0x00 ∷ 0x00 ∷ 0x00 ∷ 0x04 ∷ 0x1f ∷ [])
    ++ (0x00 ∷ 0x00 ∷ [])

abbrev pub at_address : ℕ → Block
at_address addr = block_of 0x1000 addr 64 apart

-- ---- a call line above 4,294,967,295

-- a root of the name 1 without children, whose call line is these bytes
abbrev pub called_on : List ℕ → Block
called_on line = block_of 0x1000 0x1005 64
    ((0x01 ∷ 0x00 ∷ 0x20 ∷ 0x00 ∷ 0x01 ∷ 0x00 ∷ 0x00 ∷ 0x00 ∷ 0x00 ∷ []) ++ line)

-- ---- as many frames as there may be

abbrev pub four_times : List ℕ → List ℕ
four_times xs = xs ++ xs ++ xs ++ xs

-- 64 leaves below a root of the name `root`
abbrev pub family : ℕ → List ℕ
family root = root_named root ++ four_times (four_times (four_times leaf)) ++ (0x00 ∷ [])

-- a list of so many places lent for them
abbrev pub lent : ℕ → ℕ → Block
lent places root = block_of 0x1000 0x1005 (room_of places) (family root)

-- ---- all of it, as one statement

pub record TreeExamples : Type 0 where
  pub base_of_root : at_address 0x100f ≡ Ok []
  pub root_alone : at_address 0x1014 ≡ Ok (frame 1 0 0 ∷ [])
  pub base_of_child : at_address 0x1018 ≡ Ok (frame 1 0 0 ∷ frame 2 3 21 ∷ [])
  pub base_of_grandchild : at_address 0x101c ≡ Ok (frame 1 0 0 ∷ frame 2 3 21 ∷ frame 3 4 31 ∷ [])
  pub end_of_grandchild : at_address 0x1020 ≡ Ok (frame 1 0 0 ∷ frame 2 3 21 ∷ [])
  pub end_of_child : at_address 0x1028 ≡ Ok (frame 1 0 0 ∷ [])
  pub second_range : at_address 0x1088 ≡ Ok (frame 1 0 0 ∷ [])
  -- the call lines 2^32 - 1, 2^32 and 2^32 + 9
  pub line_at_most : called_on (0xff ∷ 0xff ∷ 0xff ∷ 0xff ∷ 0x0f ∷ []) ≡ Ok (frame 1 0 4294967295 ∷ [])
  pub line_above : called_on (0x80 ∷ 0x80 ∷ 0x80 ∷ 0x80 ∷ 0x10 ∷ []) ≡ Ok (frame 1 0 4294967295 ∷ [])
  pub line_9_above : called_on (0x89 ∷ 0x80 ∷ 0x80 ∷ 0x80 ∷ 0x10 ∷ []) ≡ Ok (frame 1 0 4294967295 ∷ [])
  -- 64 frames in a list of 64 and of 65, and not in one of 63; 65 in none
  pub room_64 : lent 64 0 ≡ Ok (replicate 64 (frame 5 1 10))
  pub room_65 : lent 65 0 ≡ Ok (replicate 64 (frame 5 1 10))
  pub room_63 : lent 63 0 ≡ Err TooManyFrames
  pub no_more_than_64 : lent 100 1 ≡ Err TooManyFrames
