-- The GSYM line table's header, and one opcode of its program (RULES, "Line table").
--
--   header    min, max              signed LEB128     the least and the greatest line change of a special opcode
--             first line            unsigned LEB128   modulo 2^32
--   opcode    0                                       the program ends
--             1, a number           unsigned LEB128   the file becomes that, modulo 2^32
--             2, a number           unsigned LEB128   the address grows by that, modulo 2^64, and a row is made
--             3, a number           signed LEB128     the line changes by that, modulo 2^32
--             4 to 255                                the address and the line change, and a row is made
--
-- Assumes nothing.
use Rattle.std.specs.Prelude.{ℕ, ◌+◌, ◌-◌, ◌%◌, ◌^◌, List, ℤ, pos, ◌+ℤ◌, ◌-ℤ◌, ◌==◌, int_div, int_rem, not, Ok, Err}
use Rattle.std.specs.Prelude.{Result, if◌then◌else◌}
use Rattle.std.specs.Int.{w64, cast_unsigned, int_wrap}
use Rattle.std.specs.List.{slice_get}
use Rattle.std.specs.Ordering.{int_eq}
use Rattle.gsym_reads.specs.Steps.{◌>>=◌, ◌>>◌, need, given, told}
use Rattle.gsym_types.specs.declared.Address.{Address}
use Rattle.gsym_types.specs.declared.LineNumber.{LineNumber}
use Rattle.gsym_leb128.specs.Answers.{unsigned_at, signed_at}
use Rattle.gsym_leb128.specs.declared.Cause.{Cause}
use Rattle.gsym_linetab.specs.declared.LineTableHeader.{LineTableHeader}
use Rattle.gsym_linetab.specs.declared.LineTableRow.{LineTableRow}
use Rattle.gsym_linetab.specs.declared.LineState.{LineState}
use Rattle.gsym_linetab.specs.declared.Ending.{Ending}
use Rattle.gsym_linetab.specs.declared.Ending.TheVariants.{EndSequence, Stopped, UsedUp}
use Rattle.gsym_linetab.specs.declared.RunResult.{RunResult}
use Rattle.gsym_linetab.specs.declared.RunResult.TheVariants as run

-- the header at a place, and the place after it; the first number that doesn't read decides
unfoldable pub header_of : List ℕ → ℕ → Result (LineTableHeader × ℕ) Cause
header_of s at = do
  (min, max_at) ← signed_at s at
  (max, line_at) ← signed_at s max_at
  (line, next) ← unsigned_at s line_at
  Ok (record { min_delta = min; max_delta = max; first_line = record { 0 = line % 2 ^ 32 } }, next)

-- the state before the first opcode: the symbol's address, file 1, the first line
abbrev pub start_row : LineTableHeader → Address → LineTableRow
start_row h symbol = record { addr = symbol; file_idx = record { 0 = 1 }; file_line = h.first_line }

-- a state: address, file, line, and the place of the next opcode
abbrev pub state : ℕ → ℕ → ℕ → ℕ → LineState
state addr file line n = record {
  row = record { addr = record { 0 = addr }; file_idx = record { 0 = file }; file_line = record { 0 = line } };
  at = n;
}

-- an operand that doesn't read stops the program
abbrev pub operand : {A : Type 0} → Result A Cause → Result A Ending
operand read = told (λ cause. Stopped) read

-- opcode 1
unfoldable pub set_file : List ℕ → LineTableRow → ℕ → Result LineState Ending
set_file ops r at = do
  (file, n) ← operand (unsigned_at ops at)
  Ok (state r.addr.0 (file % 2 ^ 32) r.file_line.0 n)

-- opcode 2
unfoldable pub advance_pc : List ℕ → LineTableRow → ℕ → Result LineState Ending
advance_pc ops r at = do
  (advance, n) ← operand (unsigned_at ops at)
  Ok (state ((r.addr.0 + advance) % 2 ^ 64) r.file_idx.0 r.file_line.0 n)

-- a line moved by a signed 64-bit change, modulo 2^32
abbrev pub line_after : LineNumber → ℤ → LineNumber
line_after line change = record { 0 = (line.0 + cast_unsigned w64 change) % 2 ^ 32 }

-- an address moved by a signed 64-bit number of bytes, modulo 2^64
abbrev pub addr_after : Address → ℤ → Address
addr_after addr steps = record { 0 = (addr.0 + cast_unsigned w64 steps) % 2 ^ 64 }

-- opcode 3
unfoldable pub advance_line : List ℕ → LineTableRow → ℕ → Result LineState Ending
advance_line ops r at = do
  (change, n) ← operand (signed_at ops at)
  Ok (state r.addr.0 r.file_idx.0 (line_after r.file_line change).0 n)

-- max - min + 1, as a signed 64-bit number
unfoldable pub range_of : LineTableHeader → ℤ
range_of h = int_wrap w64 (h.max_delta -ℤ h.min_delta +ℤ pos 1)

-- a special opcode, a above the first, behind which the place is n; `int_div` rounds toward zero, and `int_rem` is what
-- that quotient leaves
unfoldable pub special_of : LineTableHeader → LineTableRow → ℕ → ℕ → Result LineState Ending
special_of h r a n = do
  need (not (int_eq (range_of h) (pos 0))) Stopped
  Ok (state
      (addr_after r.addr (int_div (pos a) (range_of h))).0
      r.file_idx.0
      (line_after r.file_line (int_wrap w64 (h.min_delta +ℤ int_rem (pos a) (range_of h)))).0
      n)

-- what an opcode did that makes no row, and one that makes a row
abbrev pub no_row : Result LineState Ending → Result RunResult Ending
no_row ran = do
  t ← ran
  Ok (run.Ok t)

abbrev pub a_row : Result LineState Ending → Result RunResult Ending
a_row ran = do
  t ← ran
  Ok (run.NewRow t)

-- the opcodes: the end, the file, the address, the line; and the first special one, above which all others are
abbrev pub op_end : ℕ
op_end = 0

abbrev pub op_file : ℕ
op_file = 1

abbrev pub op_address : ℕ
op_address = 2

abbrev pub op_line : ℕ
op_line = 3

abbrev pub first_special : ℕ
first_special = 4

-- the opcode at a state's place, if there is a byte
unfoldable pub step_of : LineTableHeader → List ℕ → LineState → Result RunResult Ending
step_of h ops t = do
  op ← given UsedUp (slice_get ops t.at)
  if op == op_end then Err (EndSequence (t.at + 1))
      else if op == op_file then no_row (set_file ops t.row (t.at + 1))
      else if op == op_address then a_row (advance_pc ops t.row (t.at + 1))
      else if op == op_line then no_row (advance_line ops t.row (t.at + 1))
      else a_row (special_of h t.row (op - first_special) (t.at + 1))
