-- Each number of a table that lies within the file reads.
-- Assumes nothing.
use Rattle.std.proofs.Common.{Some, ◌≡◌, ℕ, ◌+◌, ◌*◌, ◌<◌, ◌≤◌, List, length, take, drop, length-drop, arith, lt-ltb}
use Rattle.std.specs.Int.{w32, from_le_bytes}
use Rattle.gsym_types.specs.declared.FileIndex.{FileIndex}
use Rattle.gsym_parser.specs.View.{View}
use Rattle.gsym_parser.specs.Within.{Within}
use Rattle.gsym_parser.specs.Entries.{offset_at, file_at}
use Rattle.gsym_parser.proofs.Inside.{u32_there}

-- the number of four bytes at a place
abbrev pub number_at : List ℕ → ℕ → ℕ
number_at s at = from_le_bytes w32 (take 4 (drop at s))

module _ (v : View) (w : Within v.file v.tables) where
  -- a data offset at each index below the count
  pub offset_reads : (i : ℕ) → i < v.tables.count → offset_at v i ≡ Some (number_at v.file (v.tables.offsets + i * 4))
  unfolding offset_at
  offset_reads i h =
      let at = v.tables.offsets + i * 4 in
      let l : 4 ≤ length (drop at v.file) = omega (arith, w.offsets_end, length-drop at v.file) in
      rw (lt-ltb _ _ h, u32_there (drop at v.file) l)

  -- a row of the file table at each index below the file count
  pub file_reads :
      (index : FileIndex) → index.0 < v.tables.file_count →
      file_at v index
      ≡ Some (record {
        directory = record { 0 = number_at v.file (v.tables.files + index.0 * 8) };
        filename = record { 0 = from_le_bytes w32 (take 4 (drop 4 (drop (v.tables.files + index.0 * 8) v.file))) };
      })
  unfolding file_at
  file_reads index h =
      let at = v.tables.files + index.0 * 8 in
      let l : 4 ≤ length (drop at v.file) = omega (arith, w.files_end, length-drop at v.file) in
      let m : 4 ≤ length (drop 4 (drop at v.file)) =
      omega (arith, w.files_end, length-drop at v.file, length-drop 4 (drop at v.file)) in
      rw (lt-ltb _ _ h, u32_there (drop at v.file) l, u32_there (drop 4 (drop at v.file)) m)
