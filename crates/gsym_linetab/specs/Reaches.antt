-- What a run for an address comes to before its answer is known.
-- Assumes nothing.
use Rattle.std.specs.Prelude.{◌≡◌, ℕ, ◌≤◌, List, Some, Option, Ok}
use Rattle.gsym_types.specs.declared.Address.{Address}
use Rattle.gsym_linetab.specs.declared.LineTableHeader.{LineTableHeader}
use Rattle.gsym_linetab.specs.declared.LineTableRow.{LineTableRow}
use Rattle.gsym_linetab.specs.declared.LineState.{LineState}
use Rattle.gsym_linetab.specs.declared.RunResult.TheVariants as run
use Rattle.gsym_linetab.specs.Machine.{step_of}

-- from the state t, before which b is the last row made, opcodes lead to the state q, before which c is; every row made
-- on the way is at the address or below it
pub data Reaches (h : LineTableHeader) (ops : List ℕ) (addr : Address) :
    Option LineTableRow → LineState → Option LineTableRow → LineState → Type 0 where
  here : {b : Option LineTableRow} {t : LineState} → Reaches h ops addr b t b t
  ok :
      {b c : Option LineTableRow} {t q v : LineState} → step_of h ops t ≡ Ok (run.Ok v) → Reaches h ops addr b v c q →
      Reaches h ops addr b t c q
  row :
      {b c : Option LineTableRow} {t q v : LineState} → step_of h ops t ≡ Ok (run.NewRow v) →
      v.row.addr.0 ≤ addr.0 → Reaches h ops addr (Some v.row) v c q → Reaches h ops addr b t c q
