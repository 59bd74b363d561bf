-- `gsym_parser::laws::small_file` meets its contract: the file is read by the definitions, a step at a time.
-- Assumes nothing.
use Rattle.std.proofs.Common.{refl}
use Rattle.gsym_reads.specs.Fronts.{byte_front, u16_front, u32_front, u64_front}
use Rattle.gsym_reads.specs.Answers.{u8_at, u16_at, u32_at, u64_at}
use Rattle.gsym_parser.specs.Numbers.{numbers_of}
use Rattle.gsym_parser.specs.Header.{tables_of, opened_of}
use Rattle.gsym_parser.specs.Search.{halving, halved_from, run_start, find_in}
use Rattle.gsym_parser.specs.Search.{land_from, land_of, entries, entries_of, find_of}
use Rattle.gsym_parser.specs.Entries.{symbol_at, offset_at, info_in, info_at, covered_by, file_at}
use Rattle.gsym_parser.specs.Items.{sized_item, item_front, items_within, items_of, ends_at, closed_within, closed_of}
use Rattle.gsym_parser.proofs.laws.small_file.Goals as goal

pub returns : goal.returns
unfolding byte_front u16_front u32_front u64_front u8_at u16_at u32_at u64_at numbers_of tables_of opened_of halving
    halved_from run_start find_in land_from land_of entries entries_of find_of symbol_at offset_at info_in info_at
    covered_by file_at sized_item item_front items_within items_of ends_at closed_within closed_of
returns c = record {
  opens = refl;
  cut = refl;
  magic_first = refl;
  version = refl;
  entries = refl;
  runs = refl;
  runs_counted = refl;
  parted = refl;
  first_above = refl;
  several = refl;
  symbol = refl;
  sizes = refl;
  covered = refl;
  infos = refl;
  row = refl;
  no_row = refl;
  items = refl;
  torn = refl;
  ends = refl;
}
