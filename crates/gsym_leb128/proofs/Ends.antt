-- How the number at a place ends: its last byte, and what comes before it.
-- Assumes nothing.
use Rattle.std.proofs.Common.{◌≡◌, ℕ, ◌+◌, ◌*◌, ◌^◌, ◌<◌, ◌≤◌, List, drop, Ok}
use Rattle.gsym_leb128.specs.Leb.{digits}

-- `before` bytes with the value `low`, then the byte `last`, which counts `weight` times; `next` is the place after it
pub record Ends (s : List ℕ) (at low weight last next : ℕ) : Type 0 where
  pub before : ℕ
  pub few : before ≤ 9
  pub power : weight ≡ 128 ^ before
  pub small : low < weight
  pub digit : last < 128
  pub place : next ≡ at + (before + 1)
  pub whole : digits 10 (drop at s) ≡ Ok (low + last * weight, before + 1)
