-- What is left of a list that is passed over, one node on.
-- Assumes nothing.
use Rattle.std.proofs.Common.{Ok, Err, Result, ℕ, List, ◌≡◌, refl, ◌∙◌}
use Rattle.gsym_reads.specs.Steps.{◌>>=◌}
use Rattle.gsym_inline.specs.Skip.{then_skip, skip_list, skip_node}
use Rattle.gsym_inline.specs.declared.head.Fault.{Fault}
use Rattle.gsym_inline.specs.declared.skipping.Next.{Next}
use Rattle.gsym_inline.specs.declared.skipping.Next.TheVariants as after
use Rattle.gsym_inline.proofs.Fuel.{skip_step}

-- past a node whose list of children was passed
abbrev pub past_list : Result ℕ Fault → Result Next Fault
past_list x = do
  n ← x
  Ok (after.Past n)

module _ (s : List ℕ) (level to : ℕ) where
  pub skip_end : (n : ℕ) → skip_node s level to ≡ Ok (after.End n) → skip_list s level to ≡ Ok n
  unfolding then_skip
  skip_end n e = skip_step s level to ∙ rw e refl

  pub skip_past : (n : ℕ) → skip_node s level to ≡ Ok (after.Past n) → skip_list s level to ≡ skip_list s level n
  unfolding then_skip
  skip_past n e = skip_step s level to ∙ rw e refl

  pub skip_bad : (f : Fault) → skip_node s level to ≡ Err f → skip_list s level to ≡ Err f
  skip_bad f e = skip_step s level to ∙ rw e refl
