-- `gsym_report::laws::report_examples`: by computing. The files are read by the definitions, a step at a time.
-- Assumes nothing.
use Rattle.std.proofs.Common.{refl}
use Rattle.std.specs.Fmt.{digits}
use Rattle.std.specs.Int.{int_wrap}
use Rattle.gsym_reads.specs.Fronts.{byte_front, u16_front, u32_front, u64_front}
use Rattle.gsym_reads.specs.Answers.{u8_at, u16_at, u32_at, u64_at}
use Rattle.gsym_leb128.specs.Leb as leb
use Rattle.gsym_leb128.specs.Answers.{unsigned_at, signed_at}
use Rattle.gsym_strtab.specs.Utf8.{followers, octets, utf8, sequence_len}
use Rattle.gsym_strtab.specs.Strings.{part_of, before_zero, text_in, name_in, text_at, name_at}
use Rattle.gsym_linetab.specs.Machine.{header_of, set_file, advance_pc, advance_line, range_of, special_of, step_of}
use Rattle.gsym_linetab.specs.Rows.{within, run_of, row_among, table_of, line_row}
use Rattle.gsym_inline.specs.Frames.{in_range, any_in, first_off}
use Rattle.gsym_inline.specs.Head.{range_at, ranges_at, rest_at, past_ranges, rest_head, node_head, head_at}
use Rattle.gsym_inline.specs.Judge.{judged_range, judged_ranges, judged_rest, judged_node, judged_at}
use Rattle.gsym_inline.specs.Skip.{past_node, then_skip, skip_within, skip_list}
use Rattle.gsym_inline.specs.Walk.{with_frame, open_node, closed_node, walk_from, then_walk, walk_within, walk_list}
use Rattle.gsym_inline.specs.Walk.{walk_node}
use Rattle.gsym_inline.specs.Block.{block_of}
use Rattle.gsym_parser.specs.Numbers.{numbers_of}
use Rattle.gsym_parser.specs.Header.{tables_of, opened_of}
use Rattle.gsym_parser.specs.Search.{halving, halved_from, run_start, find_in, entries, entries_of, find_of}
use Rattle.gsym_parser.specs.Entries.{symbol_at, offset_at, info_in, info_at, covered_by, file_at}
use Rattle.gsym_parser.specs.Items.{sized_item, item_front, items_within, items_of}
use Rattle.gsym_resolver.specs.Known.{read_items}
use Rattle.gsym_resolver.specs.Lookup.{landing_at, position_at, call_at, calls_at, moved_up, with_frames, with_row}
use Rattle.gsym_resolver.specs.Lookup.{with_code, lookup_of}
use Rattle.gsym_report.proofs.laws.report_examples.Goals as goal

pub returns : goal.returns
unfolding byte_front u16_front u32_front u64_front u8_at u16_at u32_at u64_at leb.digits leb.unsigned
    leb.signed unsigned_at signed_at followers octets utf8 before_zero text_in name_in text_at name_at
    header_of set_file advance_pc advance_line range_of special_of step_of within run_of row_among
    table_of line_row int_wrap in_range any_in first_off range_at ranges_at rest_at past_ranges
    rest_head node_head head_at judged_range judged_ranges judged_rest judged_node judged_at past_node
    then_skip skip_within skip_list with_frame open_node closed_node walk_from then_walk walk_within
    walk_list walk_node block_of numbers_of tables_of opened_of halving halved_from run_start find_in
    entries entries_of find_of symbol_at offset_at info_in info_at covered_by file_at sized_item
    item_front items_within items_of read_items landing_at position_at call_at calls_at moved_up
    with_frames with_row with_code lookup_of digits part_of sequence_len
returns c = record {
  lines = record {
    marked_example = refl;
    behind = refl;
    start = refl;
    no_file = refl;
    frames = refl;
    shown = refl;
    edges = refl;
    two_digits = refl;
  };
  inputs = record {
    whole = refl;
    empty = refl;
    no_size = refl;
    no_address = refl;
    part_address = refl;
    cut_file = refl;
    large_file = refl;
    largest_file = refl;
    too_large_file = refl;
    most_addresses = refl;
    most_bytes = refl;
    too_many_bytes = refl;
    too_many_addresses = refl;
  };
}
