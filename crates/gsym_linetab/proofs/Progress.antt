-- Reading goes on, and stays within the bytes: an opcode's, and the header's.
-- Assumes nothing.
use Rattle.std.proofs.Common.{◌≡◌, ℕ, ◌+◌, ◌<◌, ◌≤◌, Bool, true, false, eqb, List, length, of_z, sym, refl, ap, ◌∙◌}
use Rattle.std.proofs.Common.{subst, ⊎_elim, arith, Ok, Err, Result, Option, Some, None, if◌then◌else◌}
use Rattle.std.specs.Prelude.{◌%◌, ◌^◌, pos, ◌+ℤ◌, int_div, int_rem, not}
use Rattle.std.specs.Int.{w64, int_wrap}
use Rattle.std.specs.Ordering.{int_eq}
use Rattle.std.specs.List.{slice_get}
use Rattle.std.proofs.lemmas.Option.{slice_get_within, slice_get_cases}
use Rattle.gsym_reads.specs.Steps.{◌>>=◌, given}
use Rattle.gsym_reads.proofs.Steps.{bind_ok, ok_is, through_need}
use Rattle.gsym_leb128.specs.Answers.{unsigned_at, signed_at}
use Rattle.gsym_leb128.specs.declared.Cause.{Cause}
use Rattle.gsym_leb128.proofs.Places.{unsigned_next, signed_next}
use Rattle.gsym_linetab.specs.declared.LineTableHeader.{LineTableHeader}
use Rattle.gsym_linetab.specs.declared.LineTableRow.{LineTableRow}
use Rattle.gsym_linetab.specs.declared.LineState.{LineState}
use Rattle.gsym_linetab.specs.declared.Ending.{Ending}
use Rattle.gsym_linetab.specs.declared.Ending.TheVariants.{EndSequence, Stopped, UsedUp}
use Rattle.gsym_linetab.specs.declared.RunResult.{RunResult}
use Rattle.gsym_linetab.specs.declared.RunResult.TheVariants as run
use Rattle.gsym_linetab.specs.Machine.{
  header_of,
  state,
  operand,
  set_file,
  advance_pc,
  advance_line,
  line_after,
  range_of,
  special_of,
  no_row,
  a_row,
  step_of,
}

-- a place above `at`, within `len` bytes
abbrev pub Onward : ℕ → ℕ → ℕ → Type 0
Onward at len n = (at < n) × (n ≤ len)

-- where a program ended at `at` of `len` bytes
abbrev pub EndsAt : ℕ → ℕ → Ending → Type 0
EndsAt at len (EndSequence n) = Onward at len n
EndsAt at len Stopped = at < len
EndsAt at len UsedUp = len ≤ at

-- where an opcode at `at` of `len` bytes leads
abbrev pub Leads : ℕ → ℕ → Result LineState Ending → Type 0
Leads at len (Ok t) = Onward at len t.at
Leads at len (Err e) = EndsAt at len e

abbrev pub Ahead : ℕ → ℕ → Result RunResult Ending → Type 0
Ahead at len (Ok (run.Ok t)) = Onward at len t.at
Ahead at len (Ok (run.NewRow t)) = Onward at len t.at
Ahead at len (Err e) = EndsAt at len e

-- ---- opcodes

-- no byte at a place means that the bytes end before it
slice_get_none : (s : List ℕ) (at : ℕ) → slice_get s at ≡ None → length s ≤ at
slice_get_none s at e =
    ⊎_elim
    (λ p. let n : ◌≡◌ {A = Option ℕ} None (Some p.0) = sym e ∙ p.2 in absurd (cc))
    (λ p. p.0)
    (slice_get_cases s at).1

module _ (at len : ℕ) where
  no_row-ahead : (x : Result LineState Ending) → Leads at len x → Ahead at len (no_row x)
  no_row-ahead (Ok t) p = p
  no_row-ahead (Err e) p = p

  a_row-ahead : (x : Result LineState Ending) → Leads at len x → Ahead at len (a_row x)
  a_row-ahead (Ok t) p = p
  a_row-ahead (Err e) p = p

  choice-ahead :
      (b : Bool) (x y : Result RunResult Ending) → Ahead at len x → Ahead at len y → Ahead at len (if b then x else y)
  choice-ahead true x y p q = p
  choice-ahead false x y p q = q

  operand-leads :
      {A : Type 0} → at < len → (x : Result (A × ℕ) Cause) (f : A × ℕ → LineState) → ((p : A × ℕ) → (f p).at ≡ p.1) →
      ((v : A) (n : ℕ) → x ≡ Ok (v, n) → Onward (at + 1) len n) → Leads at len (operand x >>= λ p. Ok (f p))
  operand-leads l (Ok (v, n)) f here p = let q = p v n refl in (omega (arith, here (v, n)), omega (arith, here (v, n)))
  operand-leads l (Err e) f here p = l

module _ (h : LineTableHeader) (ops : List ℕ) where
  module _ (r : LineTableRow) (at : ℕ) (l : at < length ops) where
    file-leads : Leads at (length ops) (set_file ops r (at + 1))
    unfolding set_file
    file-leads = operand-leads at (length ops) l (unsigned_at ops (at + 1)) _ (λ p. refl) (unsigned_next ops (at + 1))

    pc-leads : Leads at (length ops) (advance_pc ops r (at + 1))
    unfolding advance_pc
    pc-leads = operand-leads at (length ops) l (unsigned_at ops (at + 1)) _ (λ p. refl) (unsigned_next ops (at + 1))

    line-leads : Leads at (length ops) (advance_line ops r (at + 1))
    unfolding advance_line
    line-leads = operand-leads at (length ops) l (signed_at ops (at + 1)) _ (λ p. refl) (signed_next ops (at + 1))

    special-leads : (a : ℕ) → Leads at (length ops) (special_of h r a (at + 1))
    unfolding special_of
    special-leads a =
        let one : Onward at (length ops) (at + 1) = (omega arith, omega arith) in
        through_need (Leads at (length ops)) (not (int_eq (range_of h) (pos 0))) Stopped
        (Ok (state
        ((r.addr.0 + of_z w64 (int_div (pos a) (range_of h))) % 2 ^ 64)
        r.file_idx.0
        (line_after r.file_line (int_wrap w64 (h.min_delta +ℤ int_rem (pos a) (range_of h)))).0
        (at + 1)))
        l (λ e. one)

  -- an opcode at a place where there is a byte
  opcode-ahead :
      (t : LineState) (f : ℕ → Result RunResult Ending) →
      ((op : ℕ) → t.at < length ops → Ahead t.at (length ops) (f op)) →
      (o : Option ℕ) → slice_get ops t.at ≡ o → Ahead t.at (length ops) (given UsedUp o >>= f)
  opcode-ahead t f p (Some op) e = p op (slice_get_within ops t.at op e)
  opcode-ahead t f p None e = slice_get_none ops t.at e

  module _ (t : LineState) where
    pub step_ahead : Ahead t.at (length ops) (step_of h ops t)
    unfolding step_of
    step_ahead =
        opcode-ahead t _
        (λ op l.
        let choice = choice-ahead t.at (length ops) in
        let one : Onward t.at (length ops) (t.at + 1) = (omega arith, omega arith) in
        choice (eqb op 0) _ _ one
        (choice (eqb op 1) _ _ (no_row-ahead t.at (length ops) _ (file-leads t.row t.at l))
        (choice (eqb op 2) _ _ (a_row-ahead t.at (length ops) _ (pc-leads t.row t.at l))
        (choice (eqb op 3) _ _ (no_row-ahead t.at (length ops) _ (line-leads t.row t.at l))
        (a_row-ahead t.at (length ops) _ (special-leads t.row t.at l _))))))
        (slice_get ops t.at) refl

    pub ok_ahead : (q : LineState) → step_of h ops t ≡ Ok (run.Ok q) → Onward t.at (length ops) q.at
    ok_ahead q e = subst (Ahead t.at (length ops)) e step_ahead

    pub row_ahead : (q : LineState) → step_of h ops t ≡ Ok (run.NewRow q) → Onward t.at (length ops) q.at
    row_ahead q e = subst (Ahead t.at (length ops)) e step_ahead

    pub end_ahead : (n : ℕ) → step_of h ops t ≡ Err (EndSequence n) → Onward t.at (length ops) n
    end_ahead n e = subst (Ahead t.at (length ops)) e step_ahead

-- ---- the header

pub header_next :
    (s : List ℕ) (h : LineTableHeader) (n at : ℕ) → header_of s at ≡ Ok (h, n) → Onward at (length s) n
unfolding header_of
header_next s h n at e =
    let min = bind_ok (signed_at s at) _ (h, n) e in
    let max = bind_ok (signed_at s min.0.1) _ (h, n) min.2 in
    let line = bind_ok (unsigned_at s max.0.1) _ (h, n) max.2 in
    let a = signed_next s at _ _ min.1 in
    let b = signed_next s _ _ _ max.1 in
    let c = unsigned_next s _ _ _ line.1 in
    let ends : line.0.1 ≡ n = ap (λ p. p.1) (ok_is _ _ line.2) in
    (omega arith, omega arith)
