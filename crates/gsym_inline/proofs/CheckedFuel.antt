-- As many turns as bytes are left, and one, are enough to check nodes: more change nothing. So a list of nodes that are
-- checked is its first node and then the rest.
-- Assumes nothing.
use Rattle.std.proofs.Common.{Ok, Err, Result, ℕ, zero, suc, ◌-◌, ◌<◌, ◌≤◌, List, ◌≡◌, refl, sym, ap, ◌∙◌, eqb}
use Rattle.std.proofs.Common.{length, arith, if◌then◌else◌}
use Rattle.gsym_reads.specs.Steps.{◌>>=◌}
use Rattle.gsym_reads.proofs.Steps.{bind_ok, ok_is}
use Rattle.gsym_inline.specs.Judge.{judged_at}
use Rattle.gsym_inline.specs.Skip.{then_skip}
use Rattle.gsym_inline.specs.Walk.{below}
use Rattle.gsym_inline.specs.Checked.{checked_from, checked_within, checked_list, checked_node}
use Rattle.gsym_inline.specs.Inherited.{Inherited}
use Rattle.gsym_inline.specs.declared.head.Fault.{Fault}
use Rattle.gsym_inline.specs.declared.head.Head.{Head}
use Rattle.gsym_inline.specs.declared.judge.JudgedNode.{JudgedNode}
use Rattle.gsym_inline.specs.declared.head.Head.TheVariants as head
use Rattle.gsym_inline.specs.declared.skipping.Next.{Next}
use Rattle.gsym_inline.specs.declared.skipping.Next.TheVariants as after
use Rattle.gsym_inline.proofs.Follows.{bind_assoc, bind_same}
use Rattle.gsym_inline.proofs.Progress.{judged-end-next, judged-next}
use Rattle.gsym_inline.proofs.Fuel.{On, children-on}

module _ (s : List ℕ) where
  checked-next : (f : ℕ) (c : Inherited) (at n : ℕ) → checked_within f s c at ≡ Ok n → On at (length s) n
  unfolding checked_within checked_from then_skip
  checked-next zero c at n e = absurd cc
  checked-next (suc f) c at n e =
      let h = bind_ok (judged_at c s at) _ n e in
      let t = bind_ok (checked_from (checked_within f s) c h.0) _ n h.2 in
      by-head h.0 h.1 t.0 t.1 t.2 (checked-next f)
    where
      by-head :
          (x : Head JudgedNode) → judged_at c s at ≡ Ok x → (y : Next) →
          checked_from (checked_within f s) c x ≡ Ok y →
          then_skip (checked_within f s c) y ≡ Ok n →
          ((c : Inherited) (at n : ℕ) → checked_within f s c at ≡ Ok n → On at (length s) n) →
          On at (length s) n
      by-head (head.End m) q (after.End k) p r ih =
          let g = judged-end-next s c at _ refl m q in
          let a : m ≡ k = cc in
          let b = ok_is _ _ r in
          (omega arith, omega arith)
      by-head (head.End m) q (after.Past k) p r ih = absurd cc
      by-head (head.Node i) q y p r ih =
          let g = judged-next s c at _ refl i q in
          let m = bind_ok (if eqb i.children 0 then Ok i.next else checked_within f s (below c i.base) i.next) _ y p in
          let d = below c i.base in
          let a = children-on (length s) (checked_within f s d) (ih d) i.children at i.next (g.0, g.1)
          (eqb i.children 0) m.0 m.1 in
          let b = ih c m.0 n (ap (then_skip (checked_within f s c)) (ok_is _ _ m.2) ∙ r) in
          (omega arith, b.1)

  checked-same :
      (f g : ℕ) (c : Inherited) (at : ℕ) →
      ((c : Inherited) (n : ℕ) → at < n → n ≤ length s → checked_within f s c n ≡ checked_within g s c n) →
      (x : Head JudgedNode) → judged_at c s at ≡ Ok x →
      (checked_from (checked_within f s) c x >>= then_skip (checked_within f s c))
      ≡ (checked_from (checked_within g s) c x >>= then_skip (checked_within g s c))
  unfolding checked_from then_skip
  checked-same f g c at same (head.End n) q = refl
  checked-same f g c at same (head.Node i) q =
      let n = judged-next s c at _ refl i q in
      ap (λ (x : Result ℕ Fault).
      ((if eqb i.children 0 then Ok i.next else x) >>= λ n. Ok (after.Past n)) >>= then_skip (checked_within f s c))
      (same (below c i.base) i.next n.0 n.1)
      ∙ by-children (if eqb i.children 0 then Ok i.next else checked_within g s (below c i.base) i.next)
      (λ m e. children-on (length s) (checked_within g s (below c i.base))
      (checked-next g (below c i.base)) i.children at i.next (n.0, n.1)
      (eqb i.children 0) m e)
    where
      by-children :
          (x : Result ℕ Fault) → ((m : ℕ) → x ≡ Ok m → On at (length s) m) →
          ((x >>= λ n. Ok (after.Past n)) >>= then_skip (checked_within f s c))
          ≡ ((x >>= λ n. Ok (after.Past n)) >>= then_skip (checked_within g s c))
      by-children (Ok m) h = let a = h m refl in same c m a.0 a.1
      by-children (Err e) h = refl

  checked-fuel :
      (f g : ℕ) (c : Inherited) (at : ℕ) → length s - at < f → length s - at < g →
      checked_within f s c at ≡ checked_within g s c at
  unfolding checked_within
  checked-fuel zero g c at hf hg = absurd (omega arith)
  checked-fuel (suc f) zero c at hf hg = absurd (omega arith)
  checked-fuel (suc f) (suc g) c at hf hg =
      bind_same (judged_at c s at) _ _
      (λ x q. checked-same f g c at (λ c n lt le. checked-fuel f g c n (omega arith) (omega arith)) x q)

  -- a list of nodes is its first node, and then the rest
  pub checked_step :
      (c : Inherited) (at : ℕ) → checked_list s c at ≡ (checked_node s c at >>= then_skip (checked_list s c))
  unfolding checked_list checked_node checked_within
  checked_step c at =
      let f = length s in
      bind_same (judged_at c s at) _ _
      (λ x q. checked-same f (suc f) c at
      (λ c n lt le. checked-fuel f (suc f) c n (omega arith) (omega arith)) x q)
      ∙ sym (bind_assoc (judged_at c s at) (checked_from (checked_within (suc f) s) c)
      (then_skip (checked_within (suc f) s c)))
