-- A number that was written reads as itself, between any bytes, at each width.
-- Assumes nothing.
use Rattle.std.proofs.Common.{ℕ, ◌%◌, ◌^◌, ◌<◌, ◌≤◌, List, ◌++◌, ◌≡◌, ap, length, arith, le-ltb, Some, w8, w16, w32}
use Rattle.std.proofs.Common.{w64}
use Rattle.std.proofs.lemmas.Nat.{from_le_bytes-to_le_bytes_2, from_le_bytes-to_le_bytes_4, from_le_bytes-to_le_bytes_8}
use Rattle.std.specs.Int.{to_le_bytes}
use lib.Seq.{drop-append_seam}
use Rattle.gsym_reads.specs.Fronts.{byte_front, u16_front, u32_front, u64_front}
use Rattle.gsym_reads.specs.Answers.{u8_at, u16_at, u32_at, u64_at}

module _ (before after : List ℕ) (v : ℕ) where
  pub u8_at-written : v < 2 ^ 8 → u8_at (before ++ (to_le_bytes w8 v ++ after)) (length before) ≡ Some v
  unfolding u8_at byte_front
  u8_at-written h = let e : v % 256 ≡ v = omega arith in rw drop-append_seam (ap Some e)

  pub u16_at-written : v < 2 ^ 16 → u16_at (before ++ (to_le_bytes w16 v ++ after)) (length before) ≡ Some v
  unfolding u16_at u16_front
  u16_at-written h =
      let l : 2 ≤ length (to_le_bytes w16 v ++ after) = omega arith in
      rw (drop-append_seam, le-ltb _ _ l) (ap Some (from_le_bytes-to_le_bytes_2 v h))

  pub u32_at-written : v < 2 ^ 32 → u32_at (before ++ (to_le_bytes w32 v ++ after)) (length before) ≡ Some v
  unfolding u32_at u32_front
  u32_at-written h =
      let l : 4 ≤ length (to_le_bytes w32 v ++ after) = omega arith in
      rw (drop-append_seam, le-ltb _ _ l) (ap Some (from_le_bytes-to_le_bytes_4 v h))

  pub u64_at-written : v < 2 ^ 64 → u64_at (before ++ (to_le_bytes w64 v ++ after)) (length before) ≡ Some v
  unfolding u64_at u64_front
  u64_at-written h =
      let l : 8 ≤ length (to_le_bytes w64 v ++ after) = omega arith in
      rw (drop-append_seam, le-ltb _ _ l) (ap Some (from_le_bytes-to_le_bytes_8 v h))
