-- A header is refused, and an opcode stops, exactly when the definitions of specs/Unread.antt say so.
-- Assumes nothing.
use Rattle.std.proofs.Common.{◌≡◌, ℕ, ◌+◌, ◌≤◌, ◌↔◌, Bool, true, false, eqb, List, length, sym, refl, ap, ◌∙◌, subst}
use Rattle.std.proofs.Common.{arith, ne_eqb, eqb-true, Ok, Err, Result, Some}
use Rattle.std.specs.Prelude.{pos, not}
use Rattle.std.specs.List.{slice_get}
use Rattle.std.specs.Ordering.{int_eq}
use borrow.Author.Tests.{eqb-false}
use Rattle.std.proofs.lemmas.Bool.Decides.{Decides-int_eq}
use Rattle.std.proofs.lemmas.Option.{slice_get_past}
use Rattle.std.specs.Result.{IsErrOf}
use Rattle.gsym_reads.specs.Steps.{◌>>=◌, ◌>>◌, need}
use Rattle.gsym_reads.proofs.Steps.{through, by_given, by_choice}
use Rattle.gsym_leb128.specs.Answers.{unsigned_at, signed_at}
use Rattle.gsym_leb128.specs.declared.Cause.{Cause}
use Rattle.gsym_linetab.specs.declared.LineTableHeader.{LineTableHeader}
use Rattle.gsym_linetab.specs.declared.LineState.{LineState}
use Rattle.gsym_linetab.specs.declared.Ending.{Ending}
use Rattle.gsym_linetab.specs.declared.Ending.TheVariants.{Stopped, UsedUp}
use Rattle.gsym_linetab.specs.declared.RunResult.{RunResult}
use Rattle.gsym_linetab.specs.Machine.{header_of, operand, range_of, no_row, a_row, set_file, advance_pc, advance_line}
use Rattle.gsym_linetab.specs.Machine.{special_of, step_of}
use Rattle.gsym_linetab.specs.Unread.{IsUnread, no_min, no_max, no_line, IsStop, at_file, at_address, at_line}
use Rattle.gsym_linetab.specs.Unread.{at_special}
use Rattle.gsym_linetab.proofs.Progress.{Ahead, step_ahead}

-- one error, of two types of values
err_as : {A B E : Type 0} (r : Result A E) (e d : E) → r ≡ Err e → ◌≡◌ {A = Result B E} (Err e) (Err d) → r ≡ Err d
err_as r e d m i = cc

module _ (s : List ℕ) (at : ℕ) (cause : Cause) where
  unread_to : header_of s at ≡ Err cause → IsUnread s at cause
  unfolding header_of
  unread_to =
      let P : Result (LineTableHeader × ℕ) Cause → Type 0 = λ r. r ≡ Err cause → IsUnread s at cause in
      through P (signed_at s at) _ (λ e m i. no_min (err_as _ e cause m i))
      (λ x m. through P (signed_at s x.1) _ (λ e q i. no_max x m (err_as _ e cause q i))
      (λ y q. through P (unsigned_at s y.1) _ (λ e z i. no_line x y m q (err_as _ e cause z i))
      (λ v z i. absurd cc)))

  unread_from : IsUnread s at cause → header_of s at ≡ Err cause
  unfolding header_of
  unread_from (no_min e) = rw e refl
  unread_from (no_max x m e) = rw (m, e) refl
  unread_from (no_line x y m q e) = rw (m, q, e) refl

  pub header_unread :
      (r : Result (LineTableHeader × ℕ) Cause) → r ≡ header_of s at → IsErrOf r cause ↔ IsUnread s at cause
  header_unread r e = (λ i. unread_to (sym e ∙ i), λ u. e ∙ unread_from u)

pub header_refused :
    (s : List ℕ) (at : ℕ) (r : Result (LineTableHeader × ℕ) Cause) → r ≡ header_of s at →
    (cause : Cause) → IsErrOf r cause ↔ IsUnread s at cause
header_refused s at r e cause = header_unread s at cause r e

-- ---- opcodes

-- an operand that stops the program doesn't read
unread_no_row :
    {A : Type 0} (x : Result (A × ℕ) Cause) (f : A × ℕ → LineState) →
    no_row (operand x >>= λ p. Ok (f p)) ≡ Err Stopped →
    (cause : Cause) × (x ≡ Err cause)
unread_no_row (Ok p) f e = absurd cc
unread_no_row (Err cause) f e = (cause, refl)

unread_a_row :
    {A : Type 0} (x : Result (A × ℕ) Cause) (f : A × ℕ → LineState) →
    a_row (operand x >>= λ p. Ok (f p)) ≡ Err Stopped →
    (cause : Cause) × (x ≡ Err cause)
unread_a_row (Ok p) f e = absurd cc
unread_a_row (Err cause) f e = (cause, refl)

-- a special opcode that stops the program does so at a range of 0
no_range : (b : Bool) (q : LineState) → a_row (need (not b) Stopped >> Ok q) ≡ Err Stopped → b ≡ true
no_range true q e = refl
no_range false q e = absurd cc

module _ (h : LineTableHeader) (ops : List ℕ) (t : LineState) where
  stop_to : step_of h ops t ≡ Err Stopped → IsStop h ops t
  unfolding step_of set_file advance_pc advance_line special_of
  stop_to =
      let P : Result RunResult Ending → Type 0 = λ r. r ≡ Err Stopped → IsStop h ops t in
      by_given P UsedUp (slice_get ops t.at) _ (λ n i. absurd cc)
      (λ op s.
      by_choice P (eqb op 0) _ _ (λ b i. absurd cc) (λ b0.
      by_choice P (eqb op 1) _ _
      (λ b i. let u = unread_no_row (unsigned_at ops (t.at + 1)) _ i in at_file u.0 (s ∙ ap Some (eqb-true op 1 b)) u.1)
      (λ b1.
      by_choice P (eqb op 2) _ _
      (λ b i. let u = unread_a_row (unsigned_at ops (t.at + 1)) _ i in
      at_address u.0 (s ∙ ap Some (eqb-true op 2 b)) u.1) (λ b2.
      by_choice P (eqb op 3) _ _
      (λ b i. let u = unread_no_row (signed_at ops (t.at + 1)) _ i in at_line u.0 (s ∙ ap Some (eqb-true op 3 b)) u.1)
      (λ b3 i.
      at_special op s
      (omega (arith, eqb-false op 0 b0, eqb-false op 1 b1, eqb-false op 2 b2, eqb-false op 3 b3))
      ((Decides-int_eq (range_of h) (pos 0)).0 (no_range (int_eq (range_of h) (pos 0)) _ i)))))))

  stop_from : IsStop h ops t → step_of h ops t ≡ Err Stopped
  unfolding step_of set_file advance_pc advance_line special_of
  stop_from (at_file cause s u) = rw (s, u) refl
  stop_from (at_address cause s u) = rw (s, u) refl
  stop_from (at_line cause s u) = rw (s, u) refl
  stop_from (at_special op s f z) =
      rw (
        s,
        ne_eqb op 0 (λ e. omega (arith, e)),
        ne_eqb op 1 (λ e. omega (arith, e)),
        ne_eqb op 2 (λ e. omega (arith, e)),
        ne_eqb op 3 (λ e. omega (arith, e)),
        z,
      )
      refl

  used_up_from : length ops ≤ t.at → step_of h ops t ≡ Err UsedUp
  unfolding step_of
  used_up_from le = rw (slice_get_past ops t.at le) refl

  -- what is known of an opcode that did what the definition says
  module _ (r : Result RunResult Ending) (e : r ≡ step_of h ops t) where
    pub stopped_is : (r ≡ Err Stopped) ↔ IsStop h ops t
    stopped_is = (λ i. stop_to (sym e ∙ i), λ u. e ∙ stop_from u)

    pub used_up_is : (r ≡ Err UsedUp) ↔ (length ops ≤ t.at)
    used_up_is = (
      λ i. subst (Ahead t.at (length ops)) (sym e ∙ i) (step_ahead h ops t),
      λ le. e ∙ used_up_from le,
    )
