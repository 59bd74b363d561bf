-- `gsym_resolver::laws::whole_lookups` meets its contract: the file is read by the definitions, a step at a time.
-- Assumes nothing.
use Rattle.std.proofs.Common.{refl}
use Rattle.std.specs.Int.{int_wrap}
use Rattle.gsym_reads.specs.Fronts.{byte_front, u16_front, u32_front, u64_front}
use Rattle.gsym_reads.specs.Answers.{u8_at, u16_at, u32_at, u64_at}
use Rattle.gsym_leb128.specs.Leb.{digits, unsigned, signed}
use Rattle.gsym_leb128.specs.Answers.{unsigned_at, signed_at}
use Rattle.gsym_strtab.specs.Utf8.{followers, octets, utf8}
use Rattle.gsym_strtab.specs.Strings.{before_zero, text_in, name_in, text_at, name_at}
use Rattle.gsym_linetab.specs.Machine.{header_of, set_file, advance_pc, advance_line, range_of, special_of, step_of}
use Rattle.gsym_linetab.specs.Rows.{within, run_of, row_among, table_of, line_row}
use Rattle.gsym_inline.specs.Frames.{in_range, any_in, first_off}
use Rattle.gsym_inline.specs.Head.{range_at, ranges_at, rest_at, past_ranges, rest_head, node_head, head_at}
use Rattle.gsym_inline.specs.Judge.{judged_range, judged_ranges, judged_rest, judged_node, judged_at}
use Rattle.gsym_inline.specs.Skip.{past_node, then_skip, skip_within, skip_list}
use Rattle.gsym_inline.specs.Walk.{with_frame, open_node, closed_node, walk_from, then_walk, walk_within, walk_list}
use Rattle.gsym_inline.specs.Walk.{walk_node}
use Rattle.gsym_inline.specs.Block.{block_of}
use Rattle.gsym_parser.specs.Numbers.{numbers_of}
use Rattle.gsym_parser.specs.Header.{tables_of, opened_of}
use Rattle.gsym_parser.specs.Search.{halving, halved_from, run_start, find_in, entries, entries_of, find_of}
use Rattle.gsym_parser.specs.Entries.{symbol_at, offset_at, info_in, info_at, covered_by, file_at}
use Rattle.gsym_parser.specs.Items.{sized_item, item_front, items_within, items_of}
use Rattle.gsym_resolver.specs.Known.{read_items}
use Rattle.gsym_resolver.specs.Lookup.{landing_at, position_at, call_at, calls_at, moved_up, with_frames, with_row}
use Rattle.gsym_resolver.specs.Lookup.{with_code, lookup_of}
use Rattle.gsym_resolver.proofs.laws.whole_lookups.Goals as goal

pub returns : goal.returns
unfolding byte_front u16_front u32_front u64_front u8_at u16_at u32_at u64_at digits unsigned signed unsigned_at
    signed_at followers octets utf8 before_zero text_in name_in text_at name_at header_of set_file advance_pc
    advance_line range_of special_of step_of within run_of row_among table_of line_row int_wrap in_range any_in
    first_off range_at ranges_at rest_at past_ranges rest_head node_head head_at judged_range judged_ranges judged_rest
    judged_node judged_at past_node then_skip skip_within skip_list with_frame open_node closed_node walk_from then_walk
    walk_within walk_list walk_node block_of numbers_of tables_of opened_of halving halved_from run_start find_in
    entries entries_of find_of symbol_at offset_at info_in info_at covered_by file_at sized_item item_front items_within
    items_of read_items landing_at position_at call_at calls_at moved_up with_frames with_row with_code lookup_of
returns c = record {
  innermost = refl;
  middle = refl;
  outermost = refl;
  no_inlining = refl;
  no_code_info = refl;
  neither = refl;
  enough_room = refl;
  too_little_room = refl;
  past_the_end = refl;
  below_the_base = refl;
  wide_max = refl;
  wide_max_alone = refl;
  cut_max = refl;
  wide_count = refl;
  wide_count_unread = refl;
  cut_count = refl;
  wide_operand = refl;
  cut_operand = refl;
}
