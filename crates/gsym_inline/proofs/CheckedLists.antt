-- What is left of a list whose nodes are checked, one node on.
-- Assumes nothing.
use Rattle.std.proofs.Common.{Ok, Err, ℕ, List, ◌≡◌, refl, ◌∙◌}
use Rattle.gsym_inline.specs.Skip.{then_skip}
use Rattle.gsym_inline.specs.Checked.{checked_list, checked_node}
use Rattle.gsym_inline.specs.Inherited.{Inherited}
use Rattle.gsym_inline.specs.declared.head.Fault.{Fault}
use Rattle.gsym_inline.specs.declared.skipping.Next.TheVariants as after
use Rattle.gsym_inline.proofs.CheckedFuel.{checked_step}

module _ (s : List ℕ) (c : Inherited) (to : ℕ) where
  pub checked_end : (n : ℕ) → checked_node s c to ≡ Ok (after.End n) → checked_list s c to ≡ Ok n
  unfolding then_skip
  checked_end n e = checked_step s c to ∙ rw e refl

  pub checked_past : (n : ℕ) → checked_node s c to ≡ Ok (after.Past n) → checked_list s c to ≡ checked_list s c n
  unfolding then_skip
  checked_past n e = checked_step s c to ∙ rw e refl

  pub checked_bad : (f : Fault) → checked_node s c to ≡ Err f → checked_list s c to ≡ Err f
  checked_bad f e = checked_step s c to ∙ rw e refl
