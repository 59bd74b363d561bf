-- What a check finds, laid out as C has it: a number, and the entry where it is one's, with zeros where there is
-- nothing (RULES, "Checking a file").
-- Assumes nothing.
use Rattle.std.specs.Prelude.{◌≡◌, ◌≤◌, ◌⊎◌, ℕ, Result, Ok, Err}
use Rattle.gsym_verify.specs.Finding.{finding_number}
use Rattle.gsym_verify.specs.declared.finding.Finding.{Finding}
use Rattle.gsym_verify.specs.declared.finding.Finding.TheVariants.{Tables, OffsetSize, Entry}
use Rattle.gsym_check_c.specs.declared.GsymFinding.{GsymFinding}

-- the lowest faulty entry; none is told of the tables
abbrev pub entry_of : Finding → ℕ
entry_of (Tables r) = 0
entry_of OffsetSize = 0
entry_of (Entry i f) = i

abbrev pub found_as : Finding → GsymFinding
found_as f = record { number = finding_number f; entry = entry_of f }

abbrev pub laid : Result (Unit {0}) Finding → GsymFinding
laid (Ok u) = record { number = 0; entry = 0 }
laid (Err f) = found_as f

-- 0, and what a check may find, by its number
abbrev pub IsOfFinding : ℕ → Type 0
IsOfFinding n = (n ≡ 0)
    ⊎ (((2 ≤ n) × (n ≤ 6)) ⊎ (((9 ≤ n) × (n ≤ 13)) ⊎ ((n ≡ 15) ⊎ ((20 ≤ n) × (n ≤ 24)))))
