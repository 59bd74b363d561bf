-- The quick form of the run: what its steps say of the run follows from the opcodes of `step_of`.
-- Assumes nothing.
use Rattle.std.proofs.Common.{◌≡◌, ℕ, ◌+◌, ◌-◌, ◌*◌, ◌/◌, ◌%◌, ◌^◌, ◌<◌, ◌≤◌, List, [], length, get_or, ℤ, pos, ◌+ℤ◌}
use Rattle.std.proofs.Common.{sym, refl, ap, ◌∙◌, arith, le-ltb, lt-ltb, ne_eqb, w64, of_z, FitsSigned, Ok, Err, Result}
use Rattle.std.proofs.Common.{Some, None, Option, if◌then◌else◌}
use Rattle.std.proofs.Math.Nat.{mod-le}
use Rattle.std.specs.Int.{int_wrap}
use Rattle.std.specs.Ordering.{int_eq}
use Rattle.std.proofs.lemmas.Int.{of_z-to_z, wrapping_add_is}
use Rattle.std.proofs.lemmas.Bool.Decides.{Decides-int_eq}
use Rattle.std.proofs.lemmas.Option.{slice_get-get_or, slice_get_past}
use Rattle.gsym_types.specs.declared.Address.{Address}
use Rattle.gsym_linetab.specs.declared.LineTableHeader.{LineTableHeader}
use Rattle.gsym_linetab.specs.declared.LineTableRow.{LineTableRow}
use Rattle.gsym_linetab.specs.declared.LineState.{LineState}
use Rattle.gsym_linetab.specs.declared.Ending.{Ending}
use Rattle.gsym_linetab.specs.declared.Ending.TheVariants.{EndSequence, UsedUp}
use Rattle.gsym_linetab.specs.declared.RunResult.TheVariants as run
use Rattle.gsym_linetab.specs.declared.quick.Plan.{Plan}
use Rattle.gsym_linetab.specs.Machine.{state, set_file, advance_pc, advance_line, no_row, a_row, special_of, step_of}
use Rattle.gsym_linetab.specs.Rows.{Run, run_of, row_from, row_for}
use Rattle.gsym_linetab.specs.Quick.{row_before, MakesNoRow, MakesOneRow, MakesNextRow}
use Rattle.gsym_linetab.proofs.Factor.{product_small, quotient, quotient-back}
use Rattle.gsym_linetab.proofs.Numbers.{not_zero}
use Rattle.gsym_linetab.proofs.Progress.{ok_ahead, row_ahead}
use Rattle.gsym_linetab.proofs.Runs.{on_ok, on_row, on_end, row_after_row, row_before_row}

-- ---- what an opcode does at a place

module _ (ops : List ℕ) where
  any : LineTableHeader
  any = record { min_delta = pos 0; max_delta = pos 0; first_line = record { 0 = 0 } }

  -- an opcode that makes no row, whatever the header is
  no_row_made :
      (t q : LineState) (r : Result LineState Ending) → ((h : LineTableHeader) → no_row r ≡ step_of h ops t) →
      r ≡ Ok q →
      (t.at < q.at) × MakesNoRow ops t q
  no_row_made t q r e i =
      let ran : (h : LineTableHeader) → step_of h ops t ≡ Ok (run.Ok q) = λ h. sym (e h) ∙ ap no_row i in
      let on = ok_ahead any ops t q (ran any) in
      (on.0, record { onward = omega arith; same = λ h. on_ok h ops t q (ran h) })

  ends_there :
      (t : LineState) (r : Result LineState Ending) (x : Ending) →
      ((h : LineTableHeader) → no_row r ≡ step_of h ops t) →
      r ≡ Err x → (h : LineTableHeader) → (run_of h ops t).rows ≡ []
  ends_there t r x e i h = ap (λ (y : Run). y.rows) (on_end h ops t x (sym (e h) ∙ ap no_row i))

  module _ (t : LineState) (l : t.at < length ops) where
    module _ (e : get_or ops t.at 0 ≡ 1) where
      is_file : (h : LineTableHeader) → no_row (set_file ops t.row (t.at + 1)) ≡ step_of h ops t
      unfolding step_of
      is_file h = rw (slice_get-get_or ops t.at 0 l, e) refl

      pub file_onward : (q : LineState) → set_file ops t.row (t.at + 1) ≡ Ok q → t.at < q.at
      file_onward q i = (no_row_made t q _ is_file i).0

      pub file_moves : (q : LineState) → set_file ops t.row (t.at + 1) ≡ Ok q → MakesNoRow ops t q
      file_moves q i = (no_row_made t q _ is_file i).1

      file_ends :
          (x : Ending) → set_file ops t.row (t.at + 1) ≡ Err x → (h : LineTableHeader) → (run_of h ops t).rows ≡ []
      file_ends x = ends_there t _ x is_file

    module _ (e : get_or ops t.at 0 ≡ 3) where
      is_line : (h : LineTableHeader) → no_row (advance_line ops t.row (t.at + 1)) ≡ step_of h ops t
      unfolding step_of
      is_line h = rw (slice_get-get_or ops t.at 0 l, e) refl

      pub line_onward : (q : LineState) → advance_line ops t.row (t.at + 1) ≡ Ok q → t.at < q.at
      line_onward q i = (no_row_made t q _ is_line i).0

      pub line_moves : (q : LineState) → advance_line ops t.row (t.at + 1) ≡ Ok q → MakesNoRow ops t q
      line_moves q i = (no_row_made t q _ is_line i).1

      line_ends :
          (x : Ending) → advance_line ops t.row (t.at + 1) ≡ Err x → (h : LineTableHeader) → (run_of h ops t).rows ≡ []
      line_ends x = ends_there t _ x is_line

    pub end_ends : get_or ops t.at 0 ≡ 0 → (h : LineTableHeader) → (run_of h ops t).rows ≡ []
    unfolding step_of
    end_ends e h =
        ap (λ (x : Run). x.rows)
        (on_end h ops t (EndSequence (t.at + 1)) (rw (slice_get-get_or ops t.at 0 l, e) refl))

  pub used_up_ends : (t : LineState) → length ops ≤ t.at → (h : LineTableHeader) → (run_of h ops t).rows ≡ []
  unfolding step_of
  used_up_ends t l h = ap (λ (x : Run). x.rows) (on_end h ops t UsedUp (rw (slice_get_past ops t.at l) refl))

  pub no_row_here : (t : LineState) → MakesNoRow ops t t
  no_row_here t = record { onward = omega arith; same = λ h. refl }

  pub no_row_then : (s t q : LineState) → MakesNoRow ops s t → MakesNoRow ops t q → MakesNoRow ops s q
  no_row_then s t q m n = record { onward = omega (arith, m.onward, n.onward); same = λ h. m.same h ∙ n.same h }

  pub none_then :
      (s t : LineState) → MakesNoRow ops s t → ((h : LineTableHeader) → (run_of h ops t).rows ≡ []) →
      (h : LineTableHeader) → (run_of h ops s).rows ≡ []
  none_then s t m e h = ap (λ (x : Run). x.rows) (m.same h) ∙ e h

  -- the program ends at an operand that doesn't read
  module _ (s t : LineState) (m : MakesNoRow ops s t) (l : t.at < length ops) (x : Ending) where
    pub file_stops :
        get_or ops t.at 0 ≡ 1 → set_file ops t.row (t.at + 1) ≡ Err x → (h : LineTableHeader) →
        (run_of h ops s).rows ≡ []
    file_stops e i = none_then s t m (file_ends t l e x i)

    pub line_stops :
        get_or ops t.at 0 ≡ 3 → advance_line ops t.row (t.at + 1) ≡ Err x → (h : LineTableHeader) →
        (run_of h ops s).rows ≡ []
    line_stops e i = none_then s t m (line_ends t l e x i)

module _ (h : LineTableHeader) (ops : List ℕ) (t : LineState) where
  -- an opcode that makes a row
  one_row : (q : LineState) (r : Result LineState Ending) → a_row r ≡ step_of h ops t → r ≡ Ok q → MakesOneRow h ops t q
  one_row q r e i =
      let ran : step_of h ops t ≡ Ok (run.NewRow q) = sym e ∙ ap a_row i in
      let o = row_ahead h ops t q ran in
      record { onward = o.0; within = o.1; made = on_row h ops t q ran }

  pub pc_makes :
      (q : LineState) → t.at < length ops → get_or ops t.at 0 ≡ 2 → advance_pc ops t.row (t.at + 1) ≡ Ok q →
      MakesOneRow h ops t q
  unfolding step_of
  pc_makes q l e = one_row q (advance_pc ops t.row (t.at + 1)) (rw (slice_get-get_or ops t.at 0 l, e) refl)

  pub special_makes :
      t.at < length ops → 4 ≤ get_or ops t.at 0 → (q : LineState) →
      special_of h t.row (get_or ops t.at 0 - 4) (t.at + 1) ≡ Ok q → MakesOneRow h ops t q
  unfolding step_of
  special_makes l m q =
      one_row q (special_of h t.row (get_or ops t.at 0 - 4) (t.at + 1))
      (rw (
        slice_get-get_or ops t.at 0 l,
        ne_eqb (get_or ops t.at 0) 0 (λ e. omega arith),
        ne_eqb (get_or ops t.at 0) 1 (λ e. omega arith),
        ne_eqb (get_or ops t.at 0) 2 (λ e. omega arith),
        ne_eqb (get_or ops t.at 0) 3 (λ e. omega arith),
      )
      refl)

  pub row_behind :
      (q : LineState) (r : Option LineState) → MakesNoRow ops t q → MakesNextRow h ops q r → MakesNextRow h ops t r
  row_behind q (Some v) k x =
      record { onward = omega (arith, k.onward, x.onward); within = x.within; made = k.same h ∙ x.made }
  row_behind q None k x = tt

-- ---- special opcodes

module _ (p : Plan) (a : ℕ) (byte : a < 256) where
  pub steps-small : a * p.factor < 2 ^ 32
  steps-small = product_small p.range p.factor p.planned.some p.planned.few p.planned.times a byte

  pub steps-are : a * p.factor / 65536 ≡ a / p.range
  steps-are = quotient p.range p.factor p.planned.some p.planned.few p.planned.times a byte

  pub over-is : (a * p.factor / 65536 * p.range ≤ a) × (a - a * p.factor / 65536 * p.range ≡ a % p.range)
  over-is = quotient-back p.range p.factor p.planned.some p.planned.few p.planned.times a byte

-- a line may be moved by min modulo 2^32
moved-line :
    (line r : ℕ) (min : ℤ) → r < 256 → FitsSigned w64 min →
    (line + of_z w64 min % 2 ^ 32 + r) % 2 ^ 32 ≡ (line + of_z w64 (int_wrap w64 (min +ℤ pos r))) % 2 ^ 32
moved-line line r min byte f =
    let sum = (of_z w64 min + r) % 2 ^ 64 in
    let w : of_z w64 (int_wrap w64 (min +ℤ pos r)) ≡ sum =
    ap (of_z w64) (sym (wrapping_add_is w64 min (pos r) f (record { sfits = omega arith })))
    ∙ of_z-to_z w64 sum (omega arith) in
    rw w (omega arith)

module _ (p : Plan) (f : FitsSigned w64 p.header.min_delta) where
  special-is :
      (addr file line a n to on : ℕ) → a < 256 → to ≡ (addr + a / p.range) % 2 ^ 64 →
      on ≡ (line + p.low + a % p.range) % 2 ^ 32 →
      ◌≡◌ {A = Result LineState Ending} (Ok (state to file on n)) (special_of p.header (state addr file line n).row a n)
  unfolding special_of
  special-is addr file line a n to on byte eT eL =
      let small : a % p.range < 256 = omega (arith, mod-le a p.range) in
      let nz : pos p.range ≡ pos 0 → ⊥ = λ z. let q : p.range ≡ 0 = cc in omega (arith, p.planned.some) in
      rw (
        eT,
        eL,
        p.planned.least,
        moved-line line (a % p.range) p.header.min_delta small f,
        p.planned.whole,
        not_zero (pos p.range) (int_eq (pos p.range) (pos 0)) (Decides-int_eq (pos p.range) (pos 0))
            (λ e. omega (arith, p.planned.some)),
      )
      refl

  pub special-made :
      (ops : List ℕ) (at addr file line to on a from : ℕ) →
      at < length ops → 4 ≤ get_or ops at 0 → get_or ops at 0 < 256 → a ≡ get_or ops at 0 - 4 → from ≡ line →
      let steps = a * p.factor / 65536 in
      to ≡ (addr + steps) % 2 ^ 64 → on ≡ (from + p.low + (a - steps * p.range)) % 2 ^ 32 →
      MakesOneRow p.header ops (state addr file line at) (state to file on (at + 1))
  special-made ops at addr file line to on a from l above byte eA eF eT eL =
      let t = state addr file line at in
      let q = state to file on (at + 1) in
      let r : ◌≡◌ {A = Result LineState Ending} (Ok q) (special_of p.header t.row (get_or ops at 0 - 4) (at + 1)) =
      special-is addr file line a (at + 1) to on (omega (arith, eA))
      (eT ∙ ap (λ x. (addr + x) % 2 ^ 64) (steps-are p a (omega (arith, eA))))
      (eL ∙ ap (λ x. (x + p.low + (a - a * p.factor / 65536 * p.range)) % 2 ^ 32) eF
      ∙ ap (λ x. (line + p.low + x) % 2 ^ 32) (over-is p a (omega (arith, eA))).1)
      ∙ ap (λ x. special_of p.header t.row x (at + 1)) eA in
      special_makes p.header ops t l above q (sym r)

-- ---- the run, where the state is the last row made

module _ (start : ℕ) (t : LineState) where
  before-some : start < t.at → Some t.row ≡ row_before start t
  before-some l = ap (λ y. if y then Some t.row else None) (sym (lt-ltb start t.at l))

  before-none : t.at ≤ start → None ≡ row_before start t
  before-none l = ap (λ y. if y then Some t.row else None) (sym (le-ltb start t.at l))

-- the answer from the start is the one from t on
pub record Here (h : LineTableHeader) (ops : List ℕ) (addr : Address) (start t : LineState) : Type 0 where
  pub onward : start.at ≤ t.at
  pub same : row_for h ops start addr ≡ row_from h ops addr (row_before start.at t) t

module _ (h : LineTableHeader) (ops : List ℕ) (addr : Address) (start : LineState) where
  pub at_start : Here h ops addr start start
  at_start = record {
    onward = omega arith;
    same = ap (λ y. row_from h ops addr y start) (before-none start.at start (omega arith));
  }

  module _ (t : LineState) (i : Here h ops addr start t) where
    pub from_here :
        (b f : Option LineTableRow) → b ≡ row_before start.at t → f ≡ row_from h ops addr b t →
        f ≡ row_for h ops start addr
    from_here b f eB e = e ∙ ap (λ y. row_from h ops addr y t) eB ∙ sym i.same

    module _ (q : LineState) (k : MakesOneRow h ops t q) where
      pub row_above :
          (r : Option LineTableRow) → r ≡ row_before start.at t → addr.0 < q.row.addr.0 →
          r ≡ row_for h ops start addr
      row_above r e p = e ∙ sym (i.same ∙ row_before_row h ops addr (row_before start.at t) t q k.made p)

      pub row_below : q.row.addr.0 ≤ addr.0 → Here h ops addr start q
      row_below p = record {
        onward = omega (arith, i.onward, k.onward);
        same =
            i.same
            ∙ row_after_row h ops addr (row_before start.at t) t q k.made p
            ∙ ap (λ y. row_from h ops addr y q) (before-some start.at q (omega (arith, i.onward, k.onward)));
      }

-- for the attributes of `first_maker` and `quick_rows`
pub ruleset settings =
    (no_row_here, no_row_then, none_then, end_ends, used_up_ends, file_onward, file_moves, line_onward, line_moves)

pub ruleset quickly = (at_start, row_above, row_below)
