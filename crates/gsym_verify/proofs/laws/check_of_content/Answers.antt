-- A check behind the faults of the tables is one of what the file says.
-- Assumes nothing.
use Rattle.std.proofs.Common.{refl}
use Rattle.gsym_verify.specs.Check.{check_of}
use Rattle.gsym_verify.proofs.laws.check_of_content.Goals as goal

pub returns : goal.returns
unfolding check_of
returns c a b v w e f m n q = rw (e, f, m, n, q) refl
