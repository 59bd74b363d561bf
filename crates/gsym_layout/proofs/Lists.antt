-- Lists of numbers and the rows of files: their lengths, and that what was written is read back, whatever follows.
-- Assumes nothing.
use Rattle.std.proofs.Common.{◌≡◌, ℕ, zero, suc, ◌+◌, ◌*◌, ◌^◌, ◌<◌, ◌≤◌, true, List, [], ◌∷◌, ◌++◌, Some, length}
use Rattle.std.proofs.Common.{drop, refl, sym, ap, ◌∙◌, arith, append_assoc, length-append, drop-drop, le-ltb, w32}
use Rattle.std.specs.List.{All, flat_map, slice_get}
use Rattle.std.specs.Int.{to_le_bytes}
use Rattle.std.proofs.lemmas.List.{length-replicate}
use Rattle.std.proofs.lemmas.List.Elements.{All-head, All-tail}
use Rattle.std.proofs.lemmas.Nat.{from_le_bytes-to_le_bytes_2, from_le_bytes-to_le_bytes_4, from_le_bytes-to_le_bytes_8}
use Rattle.gsym_reads.specs.Fronts.{u32_front}
use Rattle.gsym_parser.specs.declared.entries.FileInfo.{FileInfo}
use Rattle.gsym_parser.specs.Search.{is_width, width_of, entry_number, entries}
use Rattle.gsym_resolver.specs.SharedTables.{files_in}
use Rattle.gsym_layout.specs.Layout.{zeros, numbers, row_bytes}
use Rattle.gsym_layout.specs.Writable.{IsOf32}
use Rattle.gsym_layout.proofs.Widths.{at_width}

pub length_zeros : (n : ℕ) → length (zeros n) ≡ n
length_zeros n = length-replicate n 0

-- a number of 4 bytes at the front, and what is behind it
pub u32_written : (n : ℕ) (rest : List ℕ) → IsOf32 n → u32_front (to_le_bytes w32 n ++ rest) ≡ Some (n, rest)
unfolding u32_front
u32_written n rest h =
    let l : 4 ≤ length (to_le_bytes w32 n ++ rest) = omega arith in
    rw (le-ltb _ _ l) (ap (λ m. Some (m, rest)) (from_le_bytes-to_le_bytes_4 n h))

-- ---- the address table

module _ (size : ℕ) (w : is_width size ≡ true) where
  entry_length : (n : ℕ) → length (to_le_bytes (width_of size) n) ≡ size
  entry_length n = at_width (λ s. length (to_le_bytes (width_of s) n) ≡ s) size w refl refl refl refl

  entry_written : (n : ℕ) (rest : List ℕ) → n < 256 ^ size →
      entry_number size (to_le_bytes (width_of size) n ++ rest) ≡ n
  entry_written n rest =
      at_width (λ s. n < 256 ^ s → entry_number s (to_le_bytes (width_of s) n ++ rest) ≡ n) size w
      (λ h. omega arith)
      (λ h. from_le_bytes-to_le_bytes_2 n h)
      (λ h. from_le_bytes-to_le_bytes_4 n h)
      (λ h. from_le_bytes-to_le_bytes_8 n h)

  entry_behind : (n : ℕ) (rest : List ℕ) → drop size (to_le_bytes (width_of size) n ++ rest) ≡ rest
  entry_behind n rest =
      at_width (λ s. drop s (to_le_bytes (width_of s) n ++ rest) ≡ rest) size w refl refl refl refl

  pub length_numbers : (ns : List ℕ) → length (numbers (width_of size) ns) ≡ length ns * size
  length_numbers [] = omega arith
  length_numbers (n ∷ ns) =
      omega (
        arith,
        length-append (to_le_bytes (width_of size) n) (numbers (width_of size) ns),
        entry_length n,
        length_numbers ns,
      )

  pub entries_written : (ns rest : List ℕ) → All (λ n. n < 256 ^ size) ns →
      entries size (length ns) (numbers (width_of size) ns ++ rest) ≡ ns
  unfolding entries
  entries_written [] rest a = refl
  entries_written (n ∷ ns) rest a =
      rw (
        append_assoc (to_le_bytes (width_of size) n) (numbers (width_of size) ns) rest,
        entry_written n (numbers (width_of size) ns ++ rest) (All-head (λ n. n < 256 ^ size) n ns a),
        entry_behind n (numbers (width_of size) ns ++ rest),
        entries_written ns rest (All-tail (λ n. n < 256 ^ size) n ns a),
      )

-- ---- numbers of 4 bytes

pub number_written : (ns rest : List ℕ) (i n : ℕ) → All IsOf32 ns → slice_get ns i ≡ Some n →
    (behind : List ℕ) × (u32_front (drop (i * 4) (numbers w32 ns ++ rest)) ≡ Some (n, behind))
number_written [] rest i n a e = absurd cc
number_written (x ∷ ns) rest zero n a e =
    let q : x ≡ n = cc in (
      numbers w32 ns ++ rest,
      rw (← q) (u32_written x (numbers w32 ns ++ rest) (All-head IsOf32 x ns a)),
    )
number_written (x ∷ ns) rest (suc i) n a e =
    let r = number_written ns rest i n (All-tail IsOf32 x ns a) e in
    let z : suc i * 4 ≡ 4 + i * 4 = omega arith in
    let d : drop (suc i * 4) (numbers w32 (x ∷ ns) ++ rest) ≡ drop (i * 4) (numbers w32 ns ++ rest) =
    ap (λ k. drop k (numbers w32 (x ∷ ns) ++ rest)) z
    ∙ sym (drop-drop (i * 4) 4 (numbers w32 (x ∷ ns) ++ rest)) in
    (r.0, ap u32_front d ∙ r.1)

-- ---- files

pub length_rows : (fs : List FileInfo) → length (flat_map row_bytes fs) ≡ length fs * 8
length_rows [] = omega arith
length_rows (f ∷ fs) = omega (arith, length_rows fs)

pub record RowFits (f : FileInfo) : Type 0 where
  pub directory : IsOf32 f.directory.0
  pub filename : IsOf32 f.filename.0

pub rows_written : (fs : List FileInfo) (rest : List ℕ) → All RowFits fs →
    files_in (length fs) (flat_map row_bytes fs ++ rest) ≡ fs
unfolding files_in
rows_written [] rest a = refl
rows_written (f ∷ fs) rest a =
    let h = All-head RowFits f fs a in
    let d = from_le_bytes-to_le_bytes_4 f.directory.0 h.directory in
    let n = from_le_bytes-to_le_bytes_4 f.filename.0 h.filename in
    let r = rows_written fs rest (All-tail RowFits f fs a) in
    rw (d, n, r)
