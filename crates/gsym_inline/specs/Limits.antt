-- The limits of an inline tree (RULES, "Inline tree").
-- Assumes nothing.
use Rattle.std.specs.Prelude.{ℕ}

-- the largest address, 2^64-1, above which no judged range may start or end
abbrev pub most_address : ℕ
most_address = 18446744073709551615

-- the largest call file, 2^32-1
abbrev pub most_file : ℕ
most_file = 4294967295

-- the largest call line that is told, 2^32-1, which one above it becomes
abbrev pub most_line : ℕ
most_line = 4294967295

-- the deepest level that a node may stand on
abbrev pub deepest_level : ℕ
deepest_level = 64

-- how many frames of a block there may be
abbrev pub most_frames : ℕ
most_frames = 64
