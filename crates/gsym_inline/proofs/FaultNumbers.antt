-- The examples of faults and of trees, by computation.
-- Assumes nothing.
use Rattle.std.proofs.Common.{refl}
use Rattle.gsym_reads.specs.Fronts.{byte_front, u32_front}
use Rattle.gsym_reads.specs.Answers.{u8_at, u32_at}
use Rattle.gsym_leb128.specs.Leb.{digits, unsigned}
use Rattle.gsym_leb128.specs.Answers.{unsigned_at}
use Rattle.gsym_inline.specs.Frames.{in_range, any_in, first_off}
use Rattle.gsym_inline.specs.Head.{range_at, ranges_at, rest_at, past_ranges, rest_head, node_head, head_at}
use Rattle.gsym_inline.specs.Judge.{judged_range, judged_ranges, judged_rest, judged_node, judged_at}
use Rattle.gsym_inline.specs.Skip.{past_node, then_skip, skip_within, skip_list}
use Rattle.gsym_inline.specs.Walk.{
  with_frame,
  open_node,
  closed_node,
  walk_from,
  then_walk,
  walk_within,
  walk_list,
  walk_node,
}
use Rattle.gsym_inline.specs.Block.{block_of}
use Rattle.gsym_inline.specs.Examples.{TreeExamples}
use Rattle.gsym_inline.specs.FaultExamples.{FaultNumbers}

pub fault_numbers : FaultNumbers
unfolding byte_front u32_front u8_at u32_at digits unsigned unsigned_at in_range any_in first_off range_at ranges_at
    rest_at past_ranges rest_head node_head head_at judged_range judged_ranges judged_rest judged_node judged_at
    past_node then_skip skip_within skip_list with_frame open_node closed_node walk_from then_walk walk_within walk_list
    walk_node block_of
fault_numbers = refl

pub tree_examples : TreeExamples
unfolding byte_front u32_front u8_at u32_at digits unsigned unsigned_at in_range any_in first_off range_at ranges_at
    rest_at past_ranges rest_head node_head head_at judged_range judged_ranges judged_rest judged_node judged_at
    past_node then_skip skip_within skip_list with_frame open_node closed_node walk_from then_walk walk_within walk_list
    walk_node block_of
tree_examples = record {
  base_of_root = refl;
  root_alone = refl;
  base_of_child = refl;
  base_of_grandchild = refl;
  end_of_grandchild = refl;
  end_of_child = refl;
  second_range = refl;
  line_at_most = refl;
  line_above = refl;
  line_9_above = refl;
  room_64 = refl;
  room_65 = refl;
  room_63 = refl;
  no_more_than_64 = refl;
}
