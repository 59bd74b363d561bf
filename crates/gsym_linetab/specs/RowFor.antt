-- Which row of a run an address has, in the words of RULES, "Line table".
-- Assumes nothing.
use Rattle.std.specs.Prelude.{◌≡◌, ◌≤◌, ◌<◌, List, [], ◌∷◌, ◌++◌, Some, None, Option}
use Rattle.std.specs.List.{All, last_or}
use Rattle.gsym_types.specs.declared.Address.{Address}
use Rattle.gsym_linetab.specs.declared.LineTableRow.{LineTableRow}
use Rattle.gsym_linetab.specs.Rows.{Run}

-- no row of these is above the address
abbrev pub NoneAbove : Address → List LineTableRow → Type 0
NoneAbove addr rows = All (λ row. row.addr.0 ≤ addr.0) rows

pub record IsRowFor (ran : Run) (addr : Address) (row : Option LineTableRow) : Type 0 where
  -- the row before the first row above the address, and none where that is the first made
  pub before :
      (front rest : List LineTableRow) (next : LineTableRow) → ran.rows ≡ front ++ next ∷ rest →
      NoneAbove addr front → addr.0 < next.addr.0 → row ≡ last_or None front
  -- no row was made by the program's end
  pub none : ran.rows ≡ [] → row ≡ None
  -- rows were made, and none is above the address: the state at the end
  pub ended :
      (first : LineTableRow) (rest : List LineTableRow) → ran.rows ≡ first ∷ rest → NoneAbove addr ran.rows →
      row ≡ Some ran.final
