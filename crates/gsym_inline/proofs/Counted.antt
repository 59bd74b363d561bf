-- As many ranges are read as their count says.
-- Assumes nothing.
use Rattle.std.proofs.Common.{◌≡◌, ◌∙◌, sym, ap, ℕ, zero, suc, List, [], ◌∷◌, length, Ok}
use Rattle.gsym_reads.proofs.Steps.{bind_ok, ok_is}
use Rattle.gsym_inline.specs.Tree.{Range}
use Rattle.gsym_inline.specs.Head.{range_at, ranges_at}

module _ (s : List ℕ) where
  pub ranges_counted :
      (count at : ℕ) (rs : List Range) (m : ℕ) → ranges_at count s at ≡ Ok (rs, m) → length rs ≡ count
  unfolding ranges_at
  ranges_counted zero at rs m e =
      let q : [] ≡ rs = ap (λ p. p.0) (ok_is _ _ e) in
      sym (ap length q)
  ranges_counted (suc count) at rs m e =
      let r = bind_ok (range_at s at) _ (rs, m) e in
      let rest = bind_ok (ranges_at count s r.0.1) _ (rs, m) r.2 in
      let k : r.0.0 ∷ rest.0.0 ≡ rs = ap (λ p. p.0) (ok_is _ _ rest.2) in
      sym (ap length k) ∙ ap suc (ranges_counted count r.0.1 rest.0.0 rest.0.1 rest.1)
