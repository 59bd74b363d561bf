-- What the quick form of the run goes by: whose header a plan is for, and what steps say of the run from a state on.
-- Assumes nothing.
use Rattle.std.specs.Prelude.{◌≡◌, ℕ, ◌+◌, ◌/◌, ◌%◌, ◌^◌, ◌<◌, ◌≤◌, List, [], length, slice_index, pos, nat_lt, Some}
use Rattle.std.specs.Prelude.{None, Option, if◌then◌else◌}
use Rattle.std.specs.Int.{w64, cast_unsigned}
use Rattle.gsym_linetab.specs.declared.LineTableHeader.{LineTableHeader}
use Rattle.gsym_linetab.specs.declared.LineTableRow.{LineTableRow}
use Rattle.gsym_linetab.specs.declared.LineState.{LineState}
use Rattle.gsym_linetab.specs.Machine.{range_of}
use Rattle.gsym_linetab.specs.Rows.{run_of, with_row}

-- the range of a header is from 1 to 255, the factor is that of the range, and `low` is min modulo 2^32
pub record IsPlanFor (h : LineTableHeader) (range factor low : ℕ) : Type 0 where
  pub some : 0 < range
  pub few : range < 256
  pub whole : range_of h ≡ pos range
  pub times : factor ≡ 65536 / range + 1
  pub least : low ≡ cast_unsigned w64 h.min_delta % 2 ^ 32

-- the last row made, where that is the state t: none at the place where the program starts
abbrev pub row_before : ℕ → LineState → Option LineTableRow
row_before start t = if nat_lt start t.at then Some t.row else None

-- from t to q no row is made, whatever the header
pub record MakesNoRow (ops : List ℕ) (t q : LineState) : Type 0 where
  pub onward : t.at ≤ q.at
  pub same : (h : LineTableHeader) → run_of h ops t ≡ run_of h ops q

-- from t to q one row is made, the one of q
pub record MakesOneRow (h : LineTableHeader) (ops : List ℕ) (t q : LineState) : Type 0 where
  pub onward : t.at < q.at
  pub within : q.at ≤ length ops
  pub made : run_of h ops t ≡ with_row q.row (run_of h ops q)

-- the state behind the next row, if one is told
abbrev pub MakesNextRow : LineTableHeader → List ℕ → LineState → Option LineState → Type 0
MakesNextRow h ops t (Some q) = MakesOneRow h ops t q
MakesNextRow h ops t None = Unit {0}

-- at q stands an opcode that makes a row where it runs: 2, or a special one
pub record IsMaker (ops : List ℕ) (q : LineState) : Type 0 where
  pub there : q.at < length ops
  pub some : 2 ≤ slice_index ops q.at
  pub other : slice_index ops q.at ≡ 3 → ⊥

-- the state at the first opcode from t on that may make a row; where none is told, the program makes none
abbrev pub LeadsToMaker : List ℕ → LineState → Option LineState → Type 0
LeadsToMaker ops t (Some q) = MakesNoRow ops t q × IsMaker ops q
LeadsToMaker ops t None = (h : LineTableHeader) → (run_of h ops t).rows ≡ []
