-- The input of a report: file and addresses in one (RULES, "A report").
-- Assumes nothing.
use Rattle.std.specs.Prelude.{ℕ, zero, suc, ◌/◌, ◌%◌, List, [], ◌∷◌, length, take, drop, nat_le, ◌==◌, if◌then◌else◌}
use Rattle.std.specs.Prelude.{codes, Option, Some, None}
use Rattle.std.specs.Int.{w64, from_le_bytes}
use Rattle.gsym_types.specs.declared.Address.{Address}
use Rattle.gsym_reads.specs.Fronts.{u32_front}
use Rattle.gsym_reads.specs.Maybe.{◌>>=◌, ◌>>◌, need}
use Rattle.gsym_report.specs.declared.input.Question as code
use Rattle.gsym_report.specs.Report.{report_of}

-- so many addresses of eight bytes, one after the other
abbrev pub addresses_at : ℕ → List ℕ → List Address
addresses_at zero bytes = []
addresses_at (suc k) bytes = record { 0 = from_le_bytes w64 (take 8 bytes) } ∷ addresses_at k (drop 8 bytes)

-- all of some bytes as addresses, where they come out at whole ones
abbrev pub addresses_of : List ℕ → Option (List Address)
addresses_of bytes = if length bytes % 8 == 0 then Some (addresses_at (length bytes / 8) bytes) else None

-- a file and addresses
pub record Question : Type 0 where
  pub file : List ℕ
  pub addresses : List Address

-- what an input asks for whose file may have so many bytes: it says how many the file has, and has them, and up to 256
-- addresses behind them
abbrev pub question_of : (most : ℕ) → List ℕ → Option Question
question_of most input = do
  size ← u32_front input
  need (nat_le size.0 most)
  need (nat_le size.0 (length size.1))
  addresses ← addresses_of (drop size.0 size.1)
  need (nat_le (length addresses) 256)
  Some (record { file = take size.0 size.1; addresses = addresses })

-- the report that is asked for, or a question mark
abbrev pub output_by : Option Question → List ℕ
output_by (Some q) = report_of q.file q.addresses
output_by None = codes "?\n"

-- with files of up to 48 KiB
abbrev pub output_of : List ℕ → List ℕ
output_of input = output_by (question_of 49152 input)

-- ---- what the functions are held to

abbrev pub as_lists : code.Question → Question
as_lists q = record { file = q.file.now; addresses = q.addresses.items }
