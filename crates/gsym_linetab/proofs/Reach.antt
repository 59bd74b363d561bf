-- A run handed out and in: from a state that it reaches the answer is the one from its start, and what that answer is.
-- Assumes nothing.
use Rattle.std.proofs.Common.{◌≡◌, ℕ, ◌<◌, List, refl, ◌∙◌, Ok, Err, Some, None, Option}
use Rattle.gsym_types.specs.declared.Address.{Address}
use Rattle.gsym_linetab.specs.declared.LineTableHeader.{LineTableHeader}
use Rattle.gsym_linetab.specs.declared.LineTableRow.{LineTableRow}
use Rattle.gsym_linetab.specs.declared.LineState.{LineState}
use Rattle.gsym_linetab.specs.declared.Ending.{Ending}
use Rattle.gsym_linetab.specs.declared.RunResult.TheVariants as run
use Rattle.gsym_linetab.specs.Machine.{step_of}
use Rattle.gsym_linetab.specs.Rows.{row_from, row_for}
use Rattle.gsym_linetab.specs.Reaches.{Reaches, here, ok, row}
use Rattle.gsym_linetab.proofs.Runs.{row_after_ok, row_after_opcode, row_before_opcode, row_at_end}

module _ (h : LineTableHeader) (ops : List ℕ) (addr : Address) where
  -- a run may be resumed where it was left
  pub resumed :
      {b c : Option LineTableRow} {t q : LineState} → Reaches h ops addr b t c q →
      row_from h ops addr b t ≡ row_from h ops addr c q
  resumed here = refl
  resumed {b} {c} {t} (ok e r) = row_after_ok h ops addr b t _ e ∙ resumed r
  resumed {b} {c} {t} (row e l r) = row_after_opcode h ops addr b t _ e l ∙ resumed r

  module _ (t : LineState) where
    pub row-for-resumed :
        {c : Option LineTableRow} {q : LineState} → Reaches h ops addr None t c q →
        row_for h ops t addr ≡ row_from h ops addr c q
    row-for-resumed r = resumed r

    -- ---- the answers: `None` in the place of the last row made says that none was made

    pub none_made :
        {q : LineState} (e : Ending) → Reaches h ops addr None t None q → step_of h ops q ≡ Err e →
        row_for h ops t addr ≡ None
    none_made {q} e r z = row-for-resumed r ∙ row_at_end h ops addr None q e z

    pub present_state :
        {last : LineTableRow} {q : LineState} (e : Ending) → Reaches h ops addr None t (Some last) q →
        step_of h ops q ≡ Err e → row_for h ops t addr ≡ Some q.row
    present_state {last} {q} e r z = row-for-resumed r ∙ row_at_end h ops addr (Some last) q e z

    pub row_before :
        {c : Option LineTableRow} {q v : LineState} → Reaches h ops addr None t c q →
        step_of h ops q ≡ Ok (run.NewRow v) → addr.0 < v.row.addr.0 → row_for h ops t addr ≡ c
    row_before {c} {q} {v} r e l = row-for-resumed r ∙ row_before_opcode h ops addr c q v e l
