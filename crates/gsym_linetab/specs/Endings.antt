-- How a program ends that is run to its end (RULES, "Line table" and "Checking a file").
-- Assumes nothing.
use Rattle.std.specs.Prelude.{◌≡◌, ℕ, List, Result, Ok, Err}
use Rattle.gsym_reads.specs.Steps.{◌>>=◌}
use Rattle.gsym_types.specs.declared.Address.{Address}
use Rattle.gsym_leb128.specs.declared.Cause.{Cause}
use Rattle.gsym_linetab.specs.declared.LineTableHeader.{LineTableHeader}
use Rattle.gsym_linetab.specs.declared.LineState.{LineState}
use Rattle.gsym_linetab.specs.declared.Ending.{Ending}
use Rattle.gsym_linetab.specs.declared.Ending.TheVariants.{EndSequence, UsedUp}
use Rattle.gsym_linetab.specs.declared.RunResult.{RunResult}
use Rattle.gsym_linetab.specs.declared.RunResult.TheVariants as run
use Rattle.gsym_linetab.specs.Machine.{header_of, start_row, step_of}
use Rattle.gsym_linetab.specs.Rows.{table_of}
use Rattle.gsym_linetab.specs.Unread.{IsStop}

-- how the program of a whole table ends
unfoldable pub ending_of : List ℕ → Address → Result Ending Cause
ending_of s symbol = do
  ran ← table_of s symbol
  Ok ran.ended

-- ---- the same as a relation between states

-- from the state t opcodes lead to the state q
pub data LeadsTo (h : LineTableHeader) (ops : List ℕ) : LineState → LineState → Type 0 where
  here : {t : LineState} → LeadsTo h ops t t
  ok : {t q v : LineState} → step_of h ops t ≡ Ok (run.Ok v) → LeadsTo h ops v q → LeadsTo h ops t q
  row : {t q v : LineState} → step_of h ops t ≡ Ok (run.NewRow v) → LeadsTo h ops v q → LeadsTo h ops t q

-- opcode 0, or the end of the bytes
abbrev pub IsEnd : Result RunResult Ending → Type 0
IsEnd (Err (EndSequence n)) = Unit {0}
IsEnd (Err UsedUp) = Unit {0}
IsEnd step = ⊥

-- the state before the first opcode of a table
abbrev pub start_state : LineTableHeader → Address → ℕ → LineState
start_state h symbol place = record { row = start_row h symbol; at = place }

-- the header of a table reads, and from behind it opcodes lead to a state
pub record Runs (symbol : Address) (s : List ℕ) : Type 0 where
  pub header : LineTableHeader
  pub place : ℕ
  pub reads : header_of s 0 ≡ Ok (header, place)
  pub last : LineState
  pub leads : LeadsTo header s (start_state header symbol place) last

-- it reads in full: the program ends at opcode 0, or with its bytes
pub record LineInFull (symbol : Address) (s : List ℕ) : Type 0 where
  pub ran : Runs symbol s
  pub ends : IsEnd (step_of ran.header s ran.last)

-- its program is stopped
pub record LineStops (symbol : Address) (s : List ℕ) : Type 0 where
  pub ran : Runs symbol s
  pub stops : IsStop ran.header s ran.last

-- ---- what `table_end` answers

abbrev pub EndsInFull : Result Ending Cause → Type 0
EndsInFull (Ok (EndSequence n)) = Unit {0}
EndsInFull (Ok UsedUp) = Unit {0}
EndsInFull end = ⊥
