-- The number of what a check finds (RULES, "Checking a file").
-- Assumes nothing.
use Rattle.std.specs.Prelude.{ℕ, ◌≤◌, ◌≡◌, ◌⊎◌}
use Rattle.gsym_types.specs.Refusal.{number_of}
use Rattle.gsym_verify.specs.declared.finding.Fault.{Fault}
use Rattle.gsym_verify.specs.declared.finding.Fault.TheVariants.{FallingTable, SumTooLarge, StoppedProgram, OpenList}
use Rattle.gsym_verify.specs.declared.finding.Fault.TheVariants.{Refused}
use Rattle.gsym_verify.specs.declared.finding.Finding.{Finding}
use Rattle.gsym_verify.specs.declared.finding.Finding.TheVariants.{Tables, OffsetSize, Entry}

abbrev pub fault_number : Fault → ℕ
fault_number FallingTable = 21
fault_number SumTooLarge = 22
fault_number StoppedProgram = 23
fault_number OpenList = 24
fault_number (Refused r) = number_of r

abbrev pub finding_number : Finding → ℕ
finding_number (Tables r) = number_of r
finding_number OffsetSize = 20
finding_number (Entry i f) = fault_number f

-- what a check may find: 2 to 4 and 20 of the tables; of an entry 5 and 6, 9 to 13, 15, 21 to 24
abbrev pub IsOfEntry : Fault → Type 0
IsOfEntry f = ((5 ≤ fault_number f) × (fault_number f ≤ 6))
    ⊎ (((9 ≤ fault_number f) × (fault_number f ≤ 13))
    ⊎ ((fault_number f ≡ 15) ⊎ ((21 ≤ fault_number f) × (fault_number f ≤ 24))))

abbrev pub IsOfCheck : Finding → Type 0
IsOfCheck (Tables r) = (2 ≤ number_of r) × (number_of r ≤ 4)
IsOfCheck OffsetSize = Unit {0}
IsOfCheck (Entry i f) = IsOfEntry f
