-- `gsym_printed::laws::printed_examples` meets its contract: by computing. The file of whole lookups is read by the
-- definitions, a step at a time.
-- Assumes nothing.
use Rattle.std.proofs.Common.{refl}
use Rattle.std.specs.Fmt.{digits}
use Rattle.std.specs.Int.{int_wrap}
use Rattle.gsym_reads.specs.Fronts.{byte_front, u16_front, u32_front, u64_front}
use Rattle.gsym_reads.specs.Answers.{u8_at, u16_at, u32_at, u64_at}
use Rattle.gsym_leb128.specs.Leb as leb
use Rattle.gsym_leb128.specs.Answers.{unsigned_at, signed_at}
use Rattle.gsym_strtab.specs.Utf8.{followers, octets, utf8, sequence_len}
use Rattle.gsym_strtab.specs.Strings.{part_of, before_zero, text_in, name_in, text_at, name_at}
use Rattle.gsym_linetab.specs.Machine.{header_of, set_file, advance_pc, advance_line, range_of, special_of, step_of}
use Rattle.gsym_linetab.specs.Rows.{within, run_of, row_among, table_of, line_row}
use Rattle.gsym_inline.specs.Frames.{in_range, any_in, first_off}
use Rattle.gsym_inline.specs.Head.{range_at, ranges_at, rest_at, past_ranges, rest_head, node_head, head_at}
use Rattle.gsym_inline.specs.Judge.{judged_range, judged_ranges, judged_rest, judged_node, judged_at}
use Rattle.gsym_inline.specs.Skip.{past_node, then_skip, skip_within, skip_list}
use Rattle.gsym_inline.specs.Walk.{with_frame, open_node, closed_node, walk_from, then_walk, walk_within, walk_list}
use Rattle.gsym_inline.specs.Walk.{walk_node}
use Rattle.gsym_inline.specs.Block.{block_of}
use Rattle.gsym_parser.specs.Numbers.{numbers_of}
use Rattle.gsym_parser.specs.Header.{tables_of, opened_of}
use Rattle.gsym_parser.specs.Search.{halving, halved_from, run_start, find_in, entries, entries_of, find_of}
use Rattle.gsym_parser.specs.Entries.{symbol_at, offset_at, info_in, info_at, covered_by, file_at}
use Rattle.gsym_parser.specs.Items.{sized_item, item_front, items_within, items_of}
use Rattle.gsym_resolver.specs.Known.{read_items}
use Rattle.gsym_resolver.specs.Lookup.{landing_at, position_at, call_at, calls_at, moved_up, with_frames, with_row}
use Rattle.gsym_resolver.specs.Lookup.{with_code, lookup_of}
use Rattle.gsym_printed.specs.Answers.{answer_text, outcome_of}
use Rattle.gsym_printed.specs.Json.{between, json_paths, json_position, json_frame, json_outer, json_calls, json_start}
use Rattle.gsym_printed.specs.Json.{json_symbol, json_found, json_refused, json_no_address}
use Rattle.gsym_printed.specs.Page.{joined, last_digits, digit_count, wide_hex, hex}
use Rattle.gsym_printed.specs.Pieces.{char_len, is_mark, mark_number, escaped_byte, escaped_piece, shown_rest}
use Rattle.gsym_printed.specs.Pieces.{shown_text}
use Rattle.gsym_printed.specs.Printed.{base_len, path_text, frame_text, outer_text, calls_text, name_of, unknown_text}
use Rattle.gsym_printed.specs.Printed.{refusal_line, refused_text, address_text, no_address_line, no_address_text}
use Rattle.gsym_printed.specs.Words.{parts, words_onto, words, hex_onto, address_of}
use Rattle.gsym_printed.proofs.laws.printed_examples.Goals as goal

pub returns-clause-words : goal.returns-clause-words
unfolding parts words_onto words hex_onto address_of
returns-clause-words c = record {
  parted = refl;
  unparted = refl;
  no_words = refl;
  small = refl;
  capital = refl;
  capital_before = refl;
  largest = refl;
  zeros_before = refl;
  too_large = refl;
  no_digit = refl;
  empty = refl;
  bad_digit = refl;
  bad_start = refl;
}

pub returns-clause-shown : goal.returns-clause-shown
unfolding followers octets utf8 sequence_len char_len is_mark mark_number escaped_byte escaped_piece shown_rest
    shown_text joined last_digits
returns-clause-shown c = record {
  c1 = refl;
  c1_json = refl;
  c1_pretty = refl;
  control = refl;
  control_json = refl;
  single = refl;
  single_json = refl;
  turns = refl;
  turns_json = refl;
  isolates = refl;
  isolates_json = refl;
  characters = refl;
  characters_json = refl;
  quotes = refl;
  quotes_json = refl;
}

pub returns-clause-answers : goal.returns-clause-answers
unfolding byte_front u16_front u32_front u64_front u8_at u16_at u32_at u64_at leb.digits leb.unsigned leb.signed
    unsigned_at signed_at followers octets utf8 before_zero text_in name_in text_at name_at header_of set_file
    advance_pc advance_line range_of special_of step_of within run_of row_among table_of line_row int_wrap in_range
    any_in first_off range_at ranges_at rest_at past_ranges rest_head node_head head_at judged_range judged_ranges
    judged_rest judged_node judged_at past_node then_skip skip_within skip_list with_frame open_node closed_node
    walk_from then_walk walk_within walk_list walk_node block_of numbers_of tables_of opened_of halving halved_from
    run_start find_in entries entries_of find_of symbol_at offset_at info_in info_at covered_by file_at sized_item
    item_front items_within items_of read_items landing_at position_at call_at calls_at moved_up with_frames
    with_row with_code lookup_of digits part_of sequence_len answer_text outcome_of between json_paths json_position
    json_frame json_outer json_calls json_start json_symbol json_found json_refused json_no_address joined
    last_digits digit_count wide_hex hex char_len is_mark mark_number escaped_byte escaped_piece shown_rest
    shown_text base_len path_text frame_text outer_text calls_text name_of unknown_text refusal_line refused_text
    address_text no_address_line no_address_text parts words_onto words hex_onto address_of
returns-clause-answers c = record {
  lines = record {
    position = refl;
    innermost = refl;
    all_frames = refl;
    inlines_alone = refl;
    base_names = refl;
    unknown = refl;
    unknown_function = refl;
    refusal = refl;
    refusal_twice = refl;
    no_file = refl;
  };
  pretty = record {
    all_frames = refl;
    base_names = refl;
    innermost = refl;
    position = refl;
    unknown = refl;
    unknown_position = refl;
    refusal = refl;
  };
  json = record { all_frames = refl; refused = refl; no_address = refl; alone = refl };
  no_address = record {
    position = refl;
    function = refl;
    address = refl;
    pretty = refl;
    told = refl;
    told_twice = refl;
    told_pretty = refl;
  };
  loaded = record {
    returned = refl;
    before_the_call = refl;
    before_the_symbol = refl;
    at_the_base = refl;
    below_the_base = refl;
  };
  input = record { each = refl; known = refl; refused = refl; no_address = refl };
}

pub returns-clause-values : goal.returns-clause-values
unfolding digits followers octets utf8 sequence_len part_of between json_paths json_position json_frame json_outer
    json_calls json_start json_symbol json_found joined last_digits digit_count wide_hex hex char_len is_mark
    mark_number escaped_byte escaped_piece shown_rest shown_text base_len path_text frame_text outer_text calls_text
    name_of refusal_line refused_text address_text
returns-clause-values c = record {
  inlined = refl;
  unknown_position = refl;
  unknown_position_pretty = refl;
  unknown_position_json = refl;
  no_directory = refl;
  no_line_pretty = refl;
  last_part = refl;
  another_refusal = refl;
  cut_header = refl;
  cut_block = refl;
  last_refusal = refl;
}
