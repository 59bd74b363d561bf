-- A name that can be had as text (RULES, "Strings").
-- Assumes nothing.
use Rattle.std.specs.Prelude.{ℕ, ◌+◌, ◌≤◌, List, length, IsUtf8}
use Rattle.gsym_types.specs.declared.Text.{Text}
use Rattle.gsym_strtab.specs.Strings.{part_of}

-- it stands in the file, and its bytes there are UTF-8
abbrev pub IsNameIn : List ℕ → Text → Type 0
IsNameIn file t = (t.place + t.len ≤ length file) × IsUtf8 (part_of file t.place t.len)
