-- How a program ends is where its opcodes lead.
-- Assumes nothing.
use Rattle.std.proofs.Common.{◌≡◌, ◌↔◌, ℕ, zero, suc, ◌-◌, ◌<◌, List, length, refl, sym, ap, subst, ◌∙◌, arith}
use Rattle.std.proofs.Common.{Ok, Err, Result}
use Rattle.std.specs.Result.{IsErrOf}
use Rattle.gsym_types.specs.declared.Address.{Address}
use Rattle.gsym_leb128.specs.declared.Cause.{Cause}
use Rattle.gsym_linetab.specs.declared.LineTableHeader.{LineTableHeader}
use Rattle.gsym_linetab.specs.declared.LineState.{LineState}
use Rattle.gsym_linetab.specs.declared.Ending.{Ending}
use Rattle.gsym_linetab.specs.declared.Ending.TheVariants.{EndSequence, Stopped, UsedUp}
use Rattle.gsym_linetab.specs.declared.RunResult.{RunResult}
use Rattle.gsym_linetab.specs.declared.RunResult.TheVariants as run
use Rattle.gsym_linetab.specs.Machine.{header_of, step_of}
use Rattle.gsym_linetab.specs.Rows.{Run, run_of, table_of}
use Rattle.gsym_linetab.specs.Endings.{ending_of, LeadsTo, here, ok, row, IsEnd, start_state, Runs, LineInFull, LineStops}
use Rattle.gsym_linetab.specs.Endings.{EndsInFull}
use Rattle.gsym_linetab.specs.Unread.{IsUnread}
use Rattle.gsym_linetab.proofs.Progress.{Ahead, step_ahead, ok_ahead, row_ahead}
use Rattle.gsym_linetab.proofs.Runs.{on_ok, on_row, on_end}
use Rattle.gsym_linetab.proofs.Unread.{header_unread, stopped_is}

module _ (h : LineTableHeader) (ops : List ℕ) where
  -- on the way the end is the same
  pub same_end : {t q : LineState} → LeadsTo h ops t q → (run_of h ops t).ended ≡ (run_of h ops q).ended
  same_end here = refl
  same_end {t} (ok e r) = ap (λ (x : Run). x.ended) (on_ok h ops t _ e) ∙ same_end r
  same_end {t} (row e r) = ap (λ (x : Run). x.ended) (on_row h ops t _ e) ∙ same_end r

  -- a state at which the program ends, and how
  pub record Ends (t : LineState) (e : Ending) : Type 0 where
    pub last : LineState
    pub leads : LeadsTo h ops t last
    pub ends : step_of h ops last ≡ Err e

  ends-within : (k : ℕ) (t : LineState) → length ops - t.at < k → Ends t (run_of h ops t).ended
  ends-within zero t l = absurd (omega arith)
  ends-within (suc k) t l = by (step_of h ops t) refl (step_ahead h ops t) (ends-within k)
    where
      by :
          (x : Result RunResult Ending) → step_of h ops t ≡ x → Ahead t.at (length ops) x →
          ((v : LineState) → length ops - v.at < k → Ends v (run_of h ops v).ended) →
          Ends t (run_of h ops t).ended
      by (Ok (run.Ok v)) e a ih =
          let r = ih v (omega (arith, a.0, a.1)) in
          record {
            last = r.last;
            leads = ok e r.leads;
            ends = r.ends ∙ ap (λ (x : Run). Err x.ended) (sym (on_ok h ops t v e));
          }
      by (Ok (run.NewRow v)) e a ih =
          let r = ih v (omega (arith, a.0, a.1)) in
          record {
            last = r.last;
            leads = row e r.leads;
            ends = r.ends ∙ ap (λ (x : Run). Err x.ended) (sym (on_row h ops t v e));
          }
      by (Err k) e a ih = record {
        last = t;
        leads = here;
        ends = e ∙ ap (λ (x : Run). Err x.ended) (sym (on_end h ops t k e));
      }

  pub ends_of : (t : LineState) → Ends t (run_of h ops t).ended
  ends_of t = ends-within (suc (length ops - t.at)) t (omega arith)

  pub end_is : {t q : LineState} (e : Ending) → LeadsTo h ops t q → step_of h ops q ≡ Err e → (run_of h ops t).ended ≡ e
  end_is {t} {q} e l s = same_end l ∙ ap (λ (x : Run). x.ended) (on_end h ops q e s)

  -- one opcode on
  pub end_after_ok :
      (t q : LineState) → step_of h ops t ≡ Ok (run.Ok q) → (run_of h ops t).ended ≡ (run_of h ops q).ended
  end_after_ok t q e = ap (λ (x : Run). x.ended) (on_ok h ops t q e)

  pub end_after_row :
      (t q : LineState) → step_of h ops t ≡ Ok (run.NewRow q) → (run_of h ops t).ended ≡ (run_of h ops q).ended
  end_after_row t q e = ap (λ (x : Run). x.ended) (on_row h ops t q e)

  pub end_at : (t : LineState) (e : Ending) → step_of h ops t ≡ Err e → (run_of h ops t).ended ≡ e
  end_at t e q = ap (λ (x : Run). x.ended) (on_end h ops t e q)

-- for the attribute of `program_end`
pub ruleset endings = (ok_ahead, row_ahead, end_after_ok, end_after_row, end_at)

-- ---- a whole table

module _ (s : List ℕ) (symbol : Address) where
  unread : (cause : Cause) → header_of s 0 ≡ Err cause → ending_of s symbol ≡ Err cause
  unfolding ending_of table_of
  unread cause e = rw e refl

  read :
      (h : LineTableHeader) (n : ℕ) → header_of s 0 ≡ Ok (h, n) →
      ending_of s symbol ≡ Ok (run_of h s (start_state h symbol n)).ended
  unfolding ending_of table_of
  read h n e = rw e refl

  by-header :
      {P : Type 0} → ((cause : Cause) → header_of s 0 ≡ Err cause → P) →
      ((h : LineTableHeader) (n : ℕ) → header_of s 0 ≡ Ok (h, n) → P) → P
  by-header {P} bad good = go (header_of s 0) refl
    where
      go : (r : Result (LineTableHeader × ℕ) Cause) → header_of s 0 ≡ r → P
      go (Ok (h, n)) e = good h n e
      go (Err cause) e = bad cause e

  whole-end : (e : Ending) → EndsInFull (Ok e) → IsEnd (Err e)
  whole-end (EndSequence n) w = tt
  whole-end Stopped w = w
  whole-end UsedUp w = tt

  end-whole : (x : Result RunResult Ending) → IsEnd x → (e : Ending) × (x ≡ Err e) × EndsInFull (Ok e)
  end-whole (Ok r) w = absurd w
  end-whole (Err (EndSequence n)) w = (EndSequence n, refl, tt)
  end-whole (Err Stopped) w = absurd w
  end-whole (Err UsedUp) w = (UsedUp, refl, tt)

  -- a state at which the program ends says how it ends
  ended_so :
      (r : Runs symbol s) (e : Ending) → step_of r.header s r.last ≡ Err e → ending_of s symbol ≡ Ok e
  ended_so r e q =
      read r.header r.place r.reads
      ∙ ap (λ (x : Ending). Ok x) (end_is r.header s e r.leads q)

  in_full : EndsInFull (ending_of s symbol) ↔ LineInFull symbol s
  in_full = (
    λ w. by-header
        (λ cause e. absurd (subst EndsInFull (unread cause e) w))
        (λ h n e.
        let r = ends_of h s (start_state h symbol n) in
        record {
          ran = record { header = h; place = n; reads = e; last = r.last; leads = r.leads };
          ends =
              subst IsEnd (sym r.ends)
              (whole-end (run_of h s (start_state h symbol n)).ended (subst EndsInFull (read h n e) w));
        }),
    λ L. let x = end-whole (step_of L.ran.header s L.ran.last) L.ends in
        subst EndsInFull (sym (ended_so L.ran x.0 x.1)) x.2,
  )

  stops : (ending_of s symbol ≡ Ok Stopped) ↔ LineStops symbol s
  stops = (
    λ q. by-header
        (λ cause e. absurd cc (unread cause e))
        (λ h n e.
        let r = ends_of h s (start_state h symbol n) in
        let z : (run_of h s (start_state h symbol n)).ended ≡ Stopped = cc (read h n e) in
        record {
          ran = record { header = h; place = n; reads = e; last = r.last; leads = r.leads };
          stops = (stopped_is h s r.last _ refl).0 (r.ends ∙ ap (λ (x : Ending). Err x) z);
        }),
    λ L. ended_so L.ran Stopped ((stopped_is L.ran.header s L.ran.last _ refl).1 L.stops),
  )

  unread_is : (cause : Cause) → (ending_of s symbol ≡ Err cause) ↔ IsUnread s 0 cause
  unread_is cause =
      let h = header_unread s 0 cause (header_of s 0) refl in (
        λ q. by-header
            (λ other e.
            let z : other ≡ cause = cc (unread other e) in
            h.0 (e ∙ ap (λ (x : Cause). Err x) z))
            (λ g n e. absurd cc (read g n e)),
        λ u. unread cause (h.1 u),
      )

  -- as a function tells it
  module _ (x : Result Ending Cause) (E : x ≡ ending_of s symbol) where
    pub end_full : EndsInFull x ↔ LineInFull symbol s
    end_full = rw E in_full

    pub end_stops : (x ≡ Ok Stopped) ↔ LineStops symbol s
    end_stops = rw E stops

    pub end_unread : (cause : Cause) → IsErrOf x cause ↔ IsUnread s 0 cause
    end_unread cause = rw E (unread_is cause)
