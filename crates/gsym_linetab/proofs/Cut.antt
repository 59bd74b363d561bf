-- A header in bytes that are cut: it is short, or that of the whole.
-- Assumes nothing.
use Rattle.std.proofs.Common.{ℕ, List, ◌++◌, inr, refl}
use Rattle.gsym_reads.proofs.Or.{Or, step_or}
use Rattle.gsym_leb128.specs.declared.Cause.TheVariants.{Short}
use Rattle.gsym_leb128.specs.Answers.{unsigned_at, signed_at}
use Rattle.gsym_leb128.proofs.Cut.{unsigned_at_cut, signed_at_cut}
use Rattle.gsym_linetab.specs.Machine.{header_of}

pub header_cut : (front rest : List ℕ) (at : ℕ) → Or Short (header_of front at) (header_of (front ++ rest) at)
unfolding header_of
header_cut front rest at =
    step_or Short (signed_at front at) (signed_at (front ++ rest) at) _ _ (signed_at_cut front rest at) (λ min.
    step_or Short (signed_at front min.1) (signed_at (front ++ rest) min.1) _ _ (signed_at_cut front rest min.1) (λ max.
    step_or Short (unsigned_at front max.1) (unsigned_at (front ++ rest) max.1) _ _ (unsigned_at_cut front rest max.1)
    (λ line. inr refl)))
