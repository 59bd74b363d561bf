-- What an entry says: where its bytes stand, and where there is no row.
-- Assumes nothing.
use Rattle.std.proofs.Common.{Option, Some, None, ◌≡◌, ℕ, ◌+◌, ◌≤◌, List, [], length, drop, sym, ap, ◌∙◌, arith, le-ltb}
use Rattle.std.proofs.Common.{length-drop, drop-drop}
use Rattle.gsym_types.specs.declared.FileIndex.{FileIndex}
use Rattle.gsym_reads.specs.Fronts.{u32_front}
use Rattle.gsym_reads.proofs.Maybe.{bind_some}
use Rattle.gsym_parser.specs.View.{View}
use Rattle.gsym_parser.specs.Entries.{EntryInfo, info_in, file_at}
use Rattle.gsym_parser.proofs.Inside.{u32_taken}

abbrev bytes_in : Option EntryInfo → List ℕ
bytes_in (Some info) = info.bytes
bytes_in None = []

-- an entry's list stands behind size and name, in the file
pub info_bytes :
    (file : List ℕ) (place : ℕ) (info : EntryInfo) → info_in file place ≡ Some info →
    (info.bytes ≡ drop (place + 8) file) × (place + 8 ≤ length file)
unfolding info_in
info_bytes file place info e =
    let s = bind_some (u32_front (drop place file)) _ info e in
    let n = bind_some (u32_front s.0.1) _ info s.2 in
    let t = u32_taken (drop place file) s.0.0 s.0.1 s.1 in
    let u = u32_taken s.0.1 n.0.0 n.0.1 n.1 in
    let q : place + 4 + 4 ≡ place + 8 = omega arith in (
      sym (ap bytes_in n.2) ∙ u.0 ∙ ap (λ b. drop 4 b) t.0 ∙ ap (λ b. drop 4 b) (drop-drop 4 place file)
          ∙ drop-drop 4 (place + 4) file ∙ ap (λ at. drop at file) q,
      omega (arith, t.1, u.1, ap length t.0, length-drop place file, length-drop 4 (drop place file)),
    )

-- an index from the file count on has no row
pub file_none : (v : View) (index : FileIndex) → v.tables.file_count ≤ index.0 → None ≡ file_at v index
unfolding file_at
file_none v index h = rw (le-ltb _ _ h)
