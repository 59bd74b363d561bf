-- Where the tables of an opened file stand, in file order, and that each ends within the file (RULES, "Header and
-- tables").
-- Assumes nothing.
use Rattle.std.specs.Prelude.{◌≡◌, ℕ, ◌+◌, ◌*◌, ◌≤◌, List, length}
use Rattle.std.specs.Int.{next_multiple_of}
use Rattle.gsym_parser.specs.declared.Tables.{Tables}
use Rattle.gsym_parser.specs.Format.{header_len}

pub record Within (file : List ℕ) (t : Tables) : Type 0 where
  pub addrs : t.addrs ≡ header_len
  pub offsets : t.offsets ≡ next_multiple_of (t.addrs + t.count * t.offset_size) 4
  pub files : t.files ≡ t.offsets + t.count * 4 + 4
  pub addrs_end : t.addrs + t.count * t.offset_size ≤ length file
  pub offsets_end : t.offsets + t.count * 4 ≤ length file
  pub files_end : t.files + t.file_count * 8 ≤ length file
  pub strings_end : t.strings.place + t.strings.size ≤ length file
