-- `gsym_form::laws::text_examples`: by computing.
-- Assumes nothing.
use Rattle.std.proofs.Common.{refl}
use Rattle.hex.specs.Hex.{decode_pairs}
use Rattle.gsym_form.specs.Words.{next_word, is_over, is_text, word, digits_onto, digits_of, number_of, number}
use Rattle.gsym_form.specs.Words.{open_text, text, hex, over}
use Rattle.gsym_form.specs.Said.{put_text, ends_in, offset_of, is_string_at, text_string, same_text}
use Rattle.gsym_form.specs.Said.{offset_string, string, early, read_string, read_bytes, with_table, read_file}
use Rattle.gsym_form.specs.Said.{is_unread, read_entry, with_item, read_item, read_start, read_end, is_indented}
use Rattle.gsym_form.specs.Said.{read_words, line_said, lines_said, line_count, text_said}
use Rattle.std.specs.Fmt.{digits}
use Rattle.hex.specs.Hex.{encode_with}
use Rattle.gsym_reads.specs.Fronts.{byte_front, u16_front, u32_front, u64_front}
use Rattle.gsym_strtab.specs.Utf8.{followers, octets, utf8}
use Rattle.gsym_strtab.specs.Strings.{part_of, before_zero, text_in, name_in, text_at, name_at}
use Rattle.gsym_parser.specs.Search.{entries, entries_of}
use Rattle.gsym_parser.specs.Entries.{offset_at, info_in, info_at}
use Rattle.gsym_parser.specs.Items.{sized_item, item_front, items_within, items_of, ends_at, closed_within, closed_of}
use Rattle.gsym_resolver.specs.SharedTables.{files_in, shared_tables}
use Rattle.gsym_layout.specs.Layout.{item_bytes, data_bytes, data_from, places_from, base_of, offsets_of, least_size}
use Rattle.gsym_layout.specs.Layout.{size_of, places_of, head_of, header_bytes, layout_of, opened_layout}
use Rattle.gsym_form.specs.Printed.{part_lines, table_lines, entry_lines_from, entry_lines}
use Rattle.gsym_form.proofs.laws.text_examples.Goals as goal

pub returns-clause-read : goal.returns-clause-read
unfolding next_word is_over is_text word digits_onto digits_of number_of number open_text text hex over put_text
    ends_in offset_of is_string_at text_string same_text offset_string string early read_string
    read_bytes with_table read_file is_unread read_entry with_item read_item read_start read_end is_indented
    read_words line_said lines_said line_count text_said decode_pairs
returns-clause-read c = record {
  files = refl;
  added = refl;
  named = refl;
  other = refl;
  found = refl;
  escaped = refl;
  unended_bytes = refl;
  late = refl;
  control = refl;
  zero = refl;
  word = refl;
  many = refl;
  half = refl;
  returned = refl;
  capital_x = refl;
  in_word = refl;
  no_entry = refl;
  unread = refl;
  unended = refl;
  behind = refl;
  start = refl;
  none = refl;
  size = refl;
  address = refl;
}

pub returns-clause-printed : goal.returns-clause-printed
unfolding next_word is_over is_text word digits_onto digits_of number_of number open_text text hex over put_text
    ends_in offset_of is_string_at text_string same_text offset_string string early read_string
    read_bytes with_table read_file is_unread read_entry with_item read_item read_start read_end is_indented
    read_words line_said lines_said line_count text_said decode_pairs digits encode_with byte_front
    u16_front u32_front u64_front followers octets utf8 part_of before_zero text_in name_in text_at name_at entries
    entries_of offset_at info_in info_at sized_item item_front items_within items_of ends_at closed_within closed_of
    files_in shared_tables item_bytes data_bytes data_from places_from base_of offsets_of least_size size_of
    places_of head_of header_bytes layout_of opened_layout part_lines table_lines entry_lines_from entry_lines
returns-clause-printed c = record { whole = refl; again = refl }
