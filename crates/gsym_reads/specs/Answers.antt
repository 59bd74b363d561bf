-- What each reader answers: the number at the front of the bytes from a place on. Past the end there are no bytes.
-- Assumes nothing.
use Rattle.std.specs.Prelude.{ℕ, List, Option, drop}
use Rattle.std.specs.Option.{option_map}
use Rattle.gsym_reads.specs.Fronts.{byte_front, u16_front, u32_front, u64_front}

-- a value without the bytes after it
abbrev pub value_of : Option (ℕ × List ℕ) → Option ℕ
value_of front = option_map (λ read. read.0) front

unfoldable pub u8_at : List ℕ → ℕ → Option ℕ
u8_at s at = value_of (byte_front (drop at s))

unfoldable pub u16_at : List ℕ → ℕ → Option ℕ
u16_at s at = value_of (u16_front (drop at s))

unfoldable pub u32_at : List ℕ → ℕ → Option ℕ
u32_at s at = value_of (u32_front (drop at s))

unfoldable pub u64_at : List ℕ → ℕ → Option ℕ
u64_at s at = value_of (u64_front (drop at s))
