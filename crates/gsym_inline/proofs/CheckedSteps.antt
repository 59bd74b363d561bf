-- The steps of a check, judged in their order: the outcome is that of the check in one pass.
-- Assumes nothing.
use Rattle.std.proofs.Common.{Ok, Err, Result, ℕ, zero, suc, ◌+◌, Bool, true, false, cond, List, [], ◌≡◌, ◌↔◌, refl}
use Rattle.std.proofs.Common.{sym, ap, ◌∙◌, eqb, length}
use Rattle.std.specs.Result.{IsErrOf}
use Rattle.gsym_reads.specs.Steps.{◌>>=◌, told}
use Rattle.gsym_types.specs.declared.Refusal.{Refusal}
use Rattle.gsym_inline.specs.Frames.{first_off}
use Rattle.gsym_inline.specs.Judge.{judged_at}
use Rattle.gsym_inline.specs.Skip.{then_skip}
use Rattle.gsym_inline.specs.Checked.{check_context, checked_from, checked_within, checked_list, checked_node}
use Rattle.gsym_inline.specs.Checked.{checked_tree}
use Rattle.gsym_inline.specs.Block.{Block, refusal_of}
use Rattle.gsym_inline.specs.Steps.{Step, everywhere, judged, is_open, children_mode, children_steps, list_steps}
use Rattle.gsym_inline.specs.Steps.{block_steps, check_steps}
use Rattle.gsym_inline.specs.FirstFault.{FirstFault}
use Rattle.gsym_inline.specs.declared.head.Fault.{Fault}
use Rattle.gsym_inline.specs.declared.head.Head.{Head}
use Rattle.gsym_inline.specs.declared.judge.JudgedNode.{JudgedNode}
use Rattle.gsym_inline.specs.declared.skipping.Next.{Next}
use Rattle.gsym_inline.specs.declared.skipping.Next.TheVariants as after
use Rattle.gsym_inline.proofs.Follows.{bind_assoc}
use Rattle.gsym_inline.proofs.StepsHeads.{no, outcome, on, on-bind, on-same, judged-head}
use Rattle.gsym_inline.proofs.FirstFault.{outcome_fault}

-- no fault, and of steps no frames
abbrev ok : Result (Unit {0}) Refusal
ok = Ok tt

abbrev fine : Block
fine = Ok []

module _ (s : List ℕ) where
  pub checked_steps :
      (f level base at : ℕ) (rest : ℕ → List Step) →
      outcome 0 [] (list_steps f s everywhere level (judged base) at rest)
      ≡ on (checked_within f s (check_context level base) at) (λ n. outcome 0 [] (rest n))
  unfolding outcome list_steps checked_within checked_from then_skip children_steps is_open children_mode
  checked_steps zero level base at rest = refl
  checked_steps (suc f) level base at rest =
      judged-head 0 [] s (list_steps f s everywhere) everywhere level rest
      (λ n. list_steps f s everywhere level (judged base) n rest) 0 base at to (λ n. refl)
      (λ rs children name file line next. by-children (base + first_off rs) next (eqb children 0) (checked_steps f))
      ∙ on-bind (judged_at (check_context level base) s at) _ K
    where
      K : ℕ → Block
      K n = outcome 0 [] (rest n)

      to : Head JudgedNode → Block
      to x =
          on (checked_from (checked_within f s) (check_context level base) x
          >>= then_skip (checked_within f s (check_context level base))) K

      by-children :
          (b next : ℕ) (z : Bool) →
          ((level base at : ℕ) (rest : ℕ → List Step) →
          outcome 0 [] (list_steps f s everywhere level (judged base) at rest)
          ≡ on (checked_within f s (check_context level base) at) (λ n. outcome 0 [] (rest n))) →
          outcome 0 [] (cond z (list_steps f s everywhere level (judged base) next rest)
          (list_steps f s everywhere (level + 1) (judged b) next
          (λ n. list_steps f s everywhere level (judged base) n rest)))
          ≡ on ((cond z (Ok next) (checked_within f s (check_context (level + 1) b) next) >>= λ n. Ok (after.Past n))
          >>= then_skip (checked_within f s (check_context level base))) K
      by-children b next true ih = ih level base next rest
      by-children b next false ih =
          let w = checked_within f s (check_context (level + 1) b) next in
          ih (level + 1) b next (λ n. list_steps f s everywhere level (judged base) n rest)
          ∙ on-same w _ _ (λ n. ih level base n rest)
          ∙ on-bind w (checked_within f s (check_context level base)) K
          ∙ ap (λ (x : Result ℕ Fault). on x K)
          (sym (bind_assoc w (λ n. Ok (after.Past n)) (then_skip (checked_within f s (check_context level base)))))

-- ---- a block

-- the outcome of the steps of a block's check is the answer of the check in one pass
pub check-steps :
    (symbol : ℕ) (bytes : List ℕ) →
    outcome 0 [] (check_steps symbol bytes) ≡ (checked_tree symbol bytes >>= λ _. fine)
unfolding checked_tree block_steps checked_node checked_list checked_from outcome children_steps is_open children_mode
check-steps symbol bytes =
    let f = suc (length bytes) in
    let c = check_context 1 symbol in
    let none : ℕ → List Step = λ n. [] in
    judged-head 0 [] bytes (list_steps f bytes everywhere) everywhere 1 none none 0 symbol 0
    (λ x. on (checked_from (checked_within f bytes) c x) (λ _. fine)) (λ n. refl)
    (λ rs children name file line next. by-children (symbol + first_off rs) next (eqb children 0))
    ∙ on-bind (judged_at c bytes 0) (checked_from (checked_within f bytes) c) (λ _. fine)
    ∙ unsaid (judged_at c bytes 0 >>= checked_from (checked_within f bytes) c)
  where
    by-children :
        (b next : ℕ) (z : Bool) →
        outcome 0 [] (cond z [] (list_steps (suc (length bytes)) bytes everywhere 2 (judged b) next (λ n. [])))
        ≡ on (cond z (Ok next) (checked_within (suc (length bytes)) bytes (check_context 2 b) next)
        >>= λ n. Ok (after.Past n)) (λ _. fine)
    by-children b next true = refl
    by-children b next false =
        checked_steps bytes (suc (length bytes)) 2 b next (λ n. [])
        ∙ on-bind (checked_within (suc (length bytes)) bytes (check_context 2 b) next) (λ n. Ok (after.Past n))
        (λ _. fine)

    unsaid : (x : Result Next Fault) → on x (λ _. fine) ≡ ((told refusal_of x >>= λ _. ok) >>= λ _. fine)
    unsaid (Ok n) = refl
    unsaid (Err g) = refl

-- a check is refused with what the first fault among its steps is refused with, and so only
pub check_fault :
    (symbol : ℕ) (bytes : List ℕ) (r : Refusal) →
    (checked_tree symbol bytes ≡ Err r) ↔ FirstFault 0 (check_steps symbol bytes) r
check_fault symbol bytes r =
    let f = outcome_fault 0 (check_steps symbol bytes) r in
    let e = check-steps symbol bytes in (
      λ p. f.0 (e ∙ rw p refl),
      λ F. back (checked_tree symbol bytes) (sym e ∙ f.1 F),
    )
  where
    back : (x : Result (Unit {0}) Refusal) → (x >>= λ _. fine) ≡ no r → x ≡ Err r
    back (Ok u) q = absurd cc
    back (Err k) q = let z : k ≡ r = cc in rw z refl

-- as a function tells it
pub check_refused :
    (symbol : ℕ) (bytes : List ℕ) (x : Result (Unit {0}) Refusal) → x ≡ checked_tree symbol bytes →
    (r : Refusal) → IsErrOf x r ↔ FirstFault 0 (check_steps symbol bytes) r
check_refused symbol bytes x e r = rw e (check_fault symbol bytes r)
