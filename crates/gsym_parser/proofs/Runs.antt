-- Where a run of equal entries starts: one entry to the front at a time; and what the start is.
-- Assumes nothing.
use Rattle.std.proofs.Common.{◌≡◌, ℕ, zero, suc, ◌<◌, ◌≤◌, Bool, true, false, eqb, List, get_or, refl, ap, ◌∙◌}
use Rattle.std.proofs.Common.{⊎_elim, arith, eq-eqb, ne_eqb, eqb-true, if◌then◌else◌}
use borrow.Author.Tests.{eqb-false}
use Rattle.std.proofs.lemmas.Bool.{cases_lt}
use Rattle.gsym_parser.specs.Search.{run_start}

module _ (table : List ℕ) where
  pub run_start-zero : run_start table 0 ≡ 0
  unfolding run_start
  run_start-zero = refl

  pub run_start-same :
      (k : ℕ) → get_or table k 0 ≡ get_or table (suc k) 0 → run_start table (suc k) ≡ run_start table k
  unfolding run_start
  run_start-same k h = rw (eq-eqb _ _ h)

  pub run_start-stop :
      (k : ℕ) → (get_or table k 0 ≡ get_or table (suc k) 0 → ⊥) → run_start table (suc k) ≡ suc k
  unfolding run_start
  run_start-stop k h = rw (ne_eqb _ _ h)

  -- entry i starts the run that ends with entry k
  pub record Starts (k i : ℕ) : Type 0 where
    pub not_after : i ≤ k
    pub same : (j : ℕ) → i ≤ j → j ≤ k → get_or table j 0 ≡ get_or table k 0
    pub starts_run : (j : ℕ) → i ≡ suc j → get_or table j 0 ≡ get_or table i 0 → ⊥

  starts-if : (k i : ℕ) (b : Bool) → eqb (get_or table k 0) (get_or table (suc k) 0) ≡ b → Starts k i →
      Starts (suc k) (if b then i else suc k)
  starts-if k i true q s =
      let e : get_or table k 0 ≡ get_or table (suc k) 0 = eqb-true _ _ q in
      record {
        not_after = omega (arith, s.not_after);
        same = λ j p l.
            ⊎_elim
            (λ (g : k < j). let z : j ≡ suc k = omega arith in ap (λ x. get_or table x 0) z)
            (λ (g : j ≤ k). s.same j p g ∙ e)
            (cases_lt k j);
        starts_run = s.starts_run;
      }
  starts-if k i false q s =
      record {
        not_after = omega arith;
        same = λ j p l. let z : j ≡ suc k = omega arith in ap (λ x. get_or table x 0) z;
        starts_run = λ j h g.
            let z : k ≡ j = omega (arith, h) in eqb-false _ _ q (ap (λ x. get_or table x 0) z ∙ g);
      }

  pub run-starts : (k : ℕ) → Starts k (run_start table k)
  unfolding run_start
  run-starts zero =
      record {
        not_after = omega arith;
        same = λ j p l. let z : j ≡ 0 = omega arith in ap (λ x. get_or table x 0) z;
        starts_run = λ j h g. absurd (omega (arith, h));
      }
  run-starts (suc k) =
      starts-if k (run_start table k) (eqb (get_or table k 0) (get_or table (suc k) 0)) refl (run-starts k)

  -- and it is the same entry
  pub run_start-entry : (k : ℕ) → get_or table (run_start table k) 0 ≡ get_or table k 0
  run_start-entry k = let s = run-starts k in s.same (run_start table k) (omega arith) s.not_after

-- the start depends on the entries up to the run's end alone
pub run_start-local :
    (s t : List ℕ) (k : ℕ) → ((j : ℕ) → j ≤ k → get_or s j 0 ≡ get_or t j 0) → run_start s k ≡ run_start t k
unfolding run_start
run_start-local s t zero h = refl
run_start-local s t (suc k) h =
    rw (h k (omega arith), h (suc k) (omega arith), run_start-local s t k (λ j l. h j (omega arith)))
