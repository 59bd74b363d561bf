-- A line program run to its end: its rows, and the row of an address among them (RULES, "Line table").
-- Assumes nothing.
use Rattle.std.specs.Prelude.{ℕ, zero, suc, ◌-◌, List, [], ◌∷◌, length, nat_lt, Some, None, Option, Ok, Err, Result}
use Rattle.std.specs.Prelude.{if◌then◌else◌}
use Rattle.std.specs.Option.{option_and}
use Rattle.gsym_reads.specs.Steps.{◌>>=◌}
use Rattle.gsym_types.specs.declared.Address.{Address}
use Rattle.gsym_leb128.specs.declared.Cause.{Cause}
use Rattle.gsym_linetab.specs.declared.LineTableHeader.{LineTableHeader}
use Rattle.gsym_linetab.specs.declared.LineTableRow.{LineTableRow}
use Rattle.gsym_linetab.specs.declared.LineState.{LineState}
use Rattle.gsym_linetab.specs.declared.Ending.{Ending}
use Rattle.gsym_linetab.specs.declared.Ending.TheVariants.{UsedUp}
use Rattle.gsym_linetab.specs.declared.RunResult.{RunResult}
use Rattle.gsym_linetab.specs.declared.RunResult.TheVariants as run
use Rattle.gsym_linetab.specs.Machine.{header_of, start_row, step_of}

-- a program run to its end: the rows made, in their order; the state's row at the end; and what ended it
pub record Run : Type 0 where
  pub rows : List LineTableRow
  pub final : LineTableRow
  pub ended : Ending

-- a row, and then a run
abbrev pub with_row : LineTableRow → Run → Run
with_row row rest = record { rows = row ∷ rest.rows; final = rest.final; ended = rest.ended }

-- what an opcode at a state with the row r leads to, where `go` is the run from a state on
abbrev pub after : (LineState → Run) → LineTableRow → Result RunResult Ending → Run
after go r (Ok (run.Ok t)) = go t
after go r (Ok (run.NewRow t)) = with_row t.row (go t)
after go r (Err e) = record { rows = []; final = r; ended = e }

-- at most k opcodes
unfoldable pub within : ℕ → LineTableHeader → List ℕ → LineState → Run
within zero h ops t = record { rows = []; final = t.row; ended = UsedUp }
within (suc k) h ops t = after (λ q. within k h ops q) t.row (step_of h ops t)

-- the run from a state on; each opcode takes a byte, so that as many opcodes as bytes are left, and one to see the end,
-- are enough
unfoldable pub run_of : LineTableHeader → List ℕ → LineState → Run
run_of h ops t = within (suc (length ops - t.at)) h ops t

-- the row of an address among the rows from somewhere on, where `before` is the last row made until then: the row
-- before the first row above the address; where no row is above it, the final state, if a row was made
unfoldable pub row_among : Address → LineTableRow → Option LineTableRow → List LineTableRow → Option LineTableRow
row_among addr final before [] = option_and before (Some final)
row_among addr final before (next ∷ rest) =
    if nat_lt addr.0 next.addr.0 then before else row_among addr final (Some next) rest

-- the row of an address in a run
abbrev pub row_in : Run → Address → Option LineTableRow
row_in ran addr = row_among addr ran.final None ran.rows

-- the row of an address from a state on, where `before` is the last row made
abbrev pub row_from : LineTableHeader → List ℕ → Address → Option LineTableRow → LineState → Option LineTableRow
row_from h ops addr before t = row_among addr (run_of h ops t).final before (run_of h ops t).rows

-- the row of an address from a state on, before any row is made
abbrev pub row_for : LineTableHeader → List ℕ → LineState → Address → Option LineTableRow
row_for h ops t addr = row_in (run_of h ops t) addr

-- a whole table of the symbol at an address: the header at 0, and the program behind it
unfoldable pub table_of : List ℕ → Address → Result Run Cause
table_of s symbol = do
  (h, n) ← header_of s 0
  Ok (run_of h s (record { row = start_row h symbol; at = n }))

-- the row of an address in a whole table
unfoldable pub line_row : List ℕ → Address → Address → Result (Option LineTableRow) Cause
line_row s symbol addr = do
  ran ← table_of s symbol
  Ok (row_in ran addr)
