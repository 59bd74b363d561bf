-- What is read of a number before it ends: bytes that all ask for another, and what they come to.
-- Assumes nothing.
use Rattle.std.specs.Prelude.{ℕ, suc, ◌+◌, ◌-◌, ◌*◌, ◌^◌, ◌<◌, ◌≤◌, ◌≡◌, List, drop, Result, Ok}
use Rattle.gsym_reads.specs.Steps.{◌>>=◌}
use Rattle.gsym_leb128.specs.declared.Cause.{Cause}
use Rattle.gsym_leb128.specs.Leb.{digits}

-- n bytes with the value `low` before digits that count `weight` times
abbrev pub onto : ℕ → ℕ → ℕ → Result (ℕ × ℕ) Cause → Result (ℕ × ℕ) Cause
onto low weight n d = do
  (v, m) ← d
  Ok (low + v * weight, n + m)

-- the bytes from `at` to `i` each ask for another: they come to `low`, and the next byte counts `weight` times
pub record Begun (s : List ℕ) (at low weight i : ℕ) : Type 0 where
  pub passed : ℕ
  pub few : passed ≤ 9
  pub place : i ≡ at + passed
  pub power : weight ≡ 128 ^ passed
  pub small : low < weight
  pub rest : digits 10 (drop at s) ≡ onto low weight passed (digits (suc (9 - passed)) (drop i s))
