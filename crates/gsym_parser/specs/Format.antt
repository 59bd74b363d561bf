-- The numbers of the format that are judged or counted by (RULES, "Header and tables").
-- Assumes nothing.
use Rattle.std.specs.Prelude.{ℕ}

-- the first four bytes of a file
abbrev pub magic_number : ℕ
magic_number = 0x4753594d

-- the one version that is read
abbrev pub version_number : ℕ
version_number = 1

-- how many bytes the header has
abbrev pub header_len : ℕ
header_len = 48
