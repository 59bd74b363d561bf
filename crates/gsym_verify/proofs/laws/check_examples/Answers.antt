-- `gsym_verify::laws::check_examples` meets its contract: the files are checked by the definitions, a step at a time.
-- Assumes nothing.
use Rattle.std.proofs.Common.{refl}
use Rattle.std.specs.Int.{int_wrap}
use Rattle.gsym_reads.specs.Fronts.{byte_front, u16_front, u32_front, u64_front}
use Rattle.gsym_reads.specs.Answers.{u8_at, u16_at, u32_at, u64_at}
use Rattle.gsym_leb128.specs.Leb.{digits, unsigned, signed}
use Rattle.gsym_leb128.specs.Answers.{unsigned_at, signed_at}
use Rattle.gsym_strtab.specs.Utf8.{followers, octets, utf8}
use Rattle.gsym_strtab.specs.Strings.{before_zero, text_in, name_in}
use Rattle.gsym_linetab.specs.Machine.{header_of, set_file, advance_pc, advance_line, range_of, special_of, step_of}
use Rattle.gsym_linetab.specs.Rows.{within, run_of, table_of}
use Rattle.gsym_linetab.specs.Endings.{ending_of}
use Rattle.gsym_inline.specs.Frames.{in_range, any_in, first_off}
use Rattle.gsym_inline.specs.Judge.{judged_range, judged_ranges, judged_rest, judged_node, judged_at}
use Rattle.gsym_inline.specs.Skip.{then_skip}
use Rattle.gsym_inline.specs.Checked.{checked_from, checked_within, checked_list, checked_node, checked_tree}
use Rattle.gsym_parser.specs.Numbers.{numbers_of}
use Rattle.gsym_parser.specs.Header.{tables_of, opened_of}
use Rattle.gsym_parser.specs.Search.{entries, entries_of}
use Rattle.gsym_parser.specs.Entries.{offset_at, info_in, info_at}
use Rattle.gsym_parser.specs.Items.{sized_item, item_front, items_within, items_of, ends_at, closed_within, closed_of}
use Rattle.gsym_resolver.specs.EntryData.{data_at}
use Rattle.gsym_resolver.specs.SharedTables.{shared_tables}
use Rattle.gsym_verify.specs.Content.{contents_from}
use Rattle.gsym_verify.specs.Check.{item_checked, list_checked, data_checked, entry_checked, entries_checked}
use Rattle.gsym_verify.specs.Check.{content_checked, check_of}
use Rattle.gsym_verify.specs.Examples.{levels}
use Rattle.gsym_verify.proofs.laws.check_examples.Goals as goal

pub returns : goal.returns
unfolding byte_front u16_front u32_front u64_front u8_at u16_at u32_at u64_at digits unsigned signed unsigned_at
    signed_at followers octets utf8 before_zero text_in name_in header_of set_file advance_pc advance_line range_of
    special_of step_of within run_of table_of int_wrap ending_of in_range any_in first_off judged_range judged_ranges
    judged_rest judged_node judged_at then_skip checked_from checked_within checked_list checked_node checked_tree
    numbers_of tables_of opened_of entries entries_of offset_at info_in info_at sized_item item_front items_within
    items_of ends_at closed_within closed_of shared_tables data_at contents_from item_checked list_checked data_checked
    entry_checked entries_checked content_checked check_of levels
returns c = record {
  passes = refl;
  cut = refl;
  other_magic = refl;
  other_version = refl;
  no_entries = refl;
  odd_width = refl;
  equal = refl;
  falls = refl;
  no_info = refl;
  too_large = refl;
  just_fits = refl;
  unnamed = refl;
  no_header = refl;
  stopped = refl;
  no_range = refl;
  used_up = refl;
  behind_the_end = refl;
  no_end = refl;
  child_too_large = refl;
  child_just_fits = refl;
  not_reached = refl;
  too_deep = refl;
  deep = refl;
  wide_max = refl;
  cut_max = refl;
  wide_count = refl;
  cut_count = refl;
  wide_operand = refl;
  second_table = refl;
  second_tree = refl;
  first_item = refl;
  not_closed = refl;
  lower_entry = refl;
  sum_before_name = refl;
  fall_before_information = refl;
}
