-- Why a file doesn't open (RULES, "Header and tables"): the magic number as soon as 4 bytes are there, the version as
-- soon as 6 are, and then whatever is missing of the header, of a table or of the string table.
-- Assumes nothing.
use Rattle.std.specs.Prelude.{◌≡◌, ◌≢◌, ℕ, ◌+◌, ◌*◌, ◌<◌, ◌≤◌, List, Some, length}
use Rattle.gsym_reads.specs.Answers.{u16_at, u32_at}
use Rattle.gsym_types.specs.declared.Refusal.{Refusal}
use Rattle.gsym_types.specs.declared.Refusal.TheVariants.{TooFewBytes, WrongMagic, WrongVersion}
use Rattle.gsym_parser.specs.Format.{magic_number, version_number, header_len}
use Rattle.gsym_parser.specs.Numbers.{file_header}
use Rattle.gsym_parser.specs.Header.{file_count_place, files_place}

-- magic and version are right, and the header is there
pub record HasHeader (file : List ℕ) : Type 0 where
  pub magic : u32_at file 0 ≡ Some magic_number
  pub version : u16_at file 4 ≡ Some version_number
  pub whole : header_len ≤ length file

pub data Unopened (file : List ℕ) : Refusal → Type 0 where
  no_magic : length file < 4 → Unopened file TooFewBytes
  other_magic : (m : ℕ) → u32_at file 0 ≡ Some m → m ≢ magic_number → Unopened file WrongMagic
  no_version : u32_at file 0 ≡ Some magic_number → length file < 6 → Unopened file TooFewBytes
  other_version :
      (n : ℕ) → u32_at file 0 ≡ Some magic_number → u16_at file 4 ≡ Some n → n ≢ version_number →
      Unopened file WrongVersion
  no_header :
      u32_at file 0 ≡ Some magic_number → u16_at file 4 ≡ Some version_number → length file < header_len →
      Unopened file TooFewBytes
  -- the address table, the padding, the data offsets or the file count
  no_offsets : HasHeader file → length file < files_place (file_header file) → Unopened file TooFewBytes
  no_files :
      (n : ℕ) → HasHeader file → u32_at file (file_count_place (file_header file)) ≡ Some n →
      length file < files_place (file_header file) + n * 8 → Unopened file TooFewBytes
  no_strings :
      (n : ℕ) → HasHeader file → u32_at file (file_count_place (file_header file)) ≡ Some n →
      files_place (file_header file) + n * 8 ≤ length file →
      length file < (file_header file).strings_offset + (file_header file).strings_size → Unopened file TooFewBytes
