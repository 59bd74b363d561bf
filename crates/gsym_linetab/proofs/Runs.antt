-- A run, one opcode at a time. Each opcode takes a byte, so the equations need no count of them.
-- Assumes nothing.
use Rattle.std.proofs.Common.{◌≡◌, ℕ, zero, suc, ◌-◌, ◌<◌, ◌≤◌, List, [], length, refl, ap, ◌∙◌, arith, le-ltb, lt-ltb}
use Rattle.std.proofs.Common.{Ok, Err, Result, Some, Option, if◌then◌else◌}
use Rattle.std.specs.Option.{option_and}
use Rattle.gsym_types.specs.declared.Address.{Address}
use Rattle.gsym_linetab.specs.declared.LineTableHeader.{LineTableHeader}
use Rattle.gsym_linetab.specs.declared.LineTableRow.{LineTableRow}
use Rattle.gsym_linetab.specs.declared.LineState.{LineState}
use Rattle.gsym_linetab.specs.declared.Ending.{Ending}
use Rattle.gsym_linetab.specs.declared.RunResult.{RunResult}
use Rattle.gsym_linetab.specs.declared.RunResult.TheVariants as run
use Rattle.gsym_linetab.specs.Machine.{step_of}
use Rattle.gsym_linetab.specs.Rows.{Run, with_row, after, within, run_of, row_among, row_from}
use Rattle.gsym_linetab.proofs.Progress.{Ahead, step_ahead, ok_ahead, row_ahead}

module _ (h : LineTableHeader) (ops : List ℕ) where
  -- two runs that agree from every later place agree here
  agree :
      (f g : LineState → Run) (t : LineState) → ((q : LineState) → t.at < q.at → q.at ≤ length ops → f q ≡ g q) →
      (x : Result RunResult Ending) → Ahead t.at (length ops) x → after f t.row x ≡ after g t.row x
  agree f g t s (Ok (run.Ok q)) a = s q a.0 a.1
  agree f g t s (Ok (run.NewRow q)) a = ap (with_row q.row) (s q a.0 a.1)
  agree f g t s (Err e) a = refl

  -- any number of opcodes above the bytes left gives the same
  enough :
      (k j : ℕ) (t : LineState) → length ops - t.at < k → length ops - t.at < j → within k h ops t ≡ within j h ops t
  unfolding within
  enough zero j t p q = absurd (omega arith)
  enough (suc k) zero t p q = absurd (omega arith)
  enough (suc k) (suc j) t p q =
      agree (λ v. within k h ops v) (λ v. within j h ops v) t
      (λ v l m. enough k j v (omega arith) (omega arith))
      (step_of h ops t) (step_ahead h ops t)

  -- a run is what its first opcode leads to
  pub run_step : (t : LineState) → run_of h ops t ≡ after (λ q. run_of h ops q) t.row (step_of h ops t)
  unfolding run_of within
  run_step t =
      agree
      (λ v. within (length ops - t.at) h ops v)
      (λ v. within (suc (length ops - v.at)) h ops v)
      t
      (λ v l m. enough (length ops - t.at) (suc (length ops - v.at)) v (omega arith) (omega arith))
      (step_of h ops t) (step_ahead h ops t)

  -- ---- by what the opcode does

  module _ (t : LineState) where
    by : (x : Result RunResult Ending) → step_of h ops t ≡ x → run_of h ops t ≡ after (λ q. run_of h ops q) t.row x
    by x e = run_step t ∙ ap (after (λ q. run_of h ops q) t.row) e

    pub on_ok : (q : LineState) → step_of h ops t ≡ Ok (run.Ok q) → run_of h ops t ≡ run_of h ops q
    on_ok q e = by (Ok (run.Ok q)) e

    pub on_row :
        (q : LineState) → step_of h ops t ≡ Ok (run.NewRow q) → run_of h ops t ≡ with_row q.row (run_of h ops q)
    on_row q e = by (Ok (run.NewRow q)) e

    pub on_end :
        (e : Ending) → step_of h ops t ≡ Err e → run_of h ops t ≡ record { rows = []; final = t.row; ended = e }
    on_end e q = by (Err e) q

  -- ---- the row of an address, where `b` is the last row made

  module _ (addr : Address) (b : Option LineTableRow) (t : LineState) where
    same_row : (ran : Run) → run_of h ops t ≡ ran → row_from h ops addr b t ≡ row_among addr ran.final b ran.rows
    same_row ran e = ap (λ (x : Run). row_among addr x.final b x.rows) e

    pub row_after_ok :
        (q : LineState) → step_of h ops t ≡ Ok (run.Ok q) → row_from h ops addr b t ≡ row_from h ops addr b q
    row_after_ok q e = same_row _ (on_ok t q e)

    pub row_after_row :
        (q : LineState) → run_of h ops t ≡ with_row q.row (run_of h ops q) → q.row.addr.0 ≤ addr.0 →
        row_from h ops addr b t ≡ row_from h ops addr (Some q.row) q
    unfolding row_among
    row_after_row q e l =
        same_row _ e
        ∙ ap
        (λ x. if x then b else row_from h ops addr (Some q.row) q)
        (le-ltb addr.0 q.row.addr.0 l)

    pub row_before_row :
        (q : LineState) → run_of h ops t ≡ with_row q.row (run_of h ops q) → addr.0 < q.row.addr.0 →
        row_from h ops addr b t ≡ b
    unfolding row_among
    row_before_row q e l =
        same_row _ e
        ∙ ap
        (λ x. if x then b else row_from h ops addr (Some q.row) q)
        (lt-ltb addr.0 q.row.addr.0 l)

    pub row_at_end : (e : Ending) → step_of h ops t ≡ Err e → row_from h ops addr b t ≡ option_and b (Some t.row)
    unfolding row_among
    row_at_end e q = same_row _ (on_end t e q)

    pub row_after_opcode :
        (q : LineState) → step_of h ops t ≡ Ok (run.NewRow q) → q.row.addr.0 ≤ addr.0 →
        row_from h ops addr b t ≡ row_from h ops addr (Some q.row) q
    row_after_opcode q e = row_after_row q (on_row t q e)

    pub row_before_opcode :
        (q : LineState) → step_of h ops t ≡ Ok (run.NewRow q) → addr.0 < q.row.addr.0 → row_from h ops addr b t ≡ b
    row_before_opcode q e = row_before_row q (on_row t q e)

-- for the attribute of `row_by_op`
pub ruleset opcodes = (ok_ahead, row_ahead, row_after_ok, row_after_opcode, row_before_opcode, row_at_end)
