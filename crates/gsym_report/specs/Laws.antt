-- What holds of every report (RULES, "A report").
-- Assumes nothing.
use Rattle.std.specs.Prelude.{◌≡◌, ℕ, false, List, All}
use Rattle.gsym_types.specs.declared.Address.{Address}
use Rattle.gsym_report.specs.Report.{is_control}

-- no control byte: neither a newline nor any other
abbrev pub IsPlain : List ℕ → Type 0
IsPlain line = All (λ b. is_control b ≡ false) line

abbrev pub address : ℕ → Address
address n = record { 0 = n }
