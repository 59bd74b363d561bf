-- Laws of rules that may have no answer: where one has, each of its steps gives a value and each of its tests holds.
-- Assumes nothing.
use Rattle.std.proofs.Common.{◌≡◌, Bool, true, false, Option, Some, None, refl}
use Rattle.gsym_reads.specs.Maybe.{◌>>=◌, ◌>>◌, need}

pub bind_some :
    {A B : Type 0} (o : Option A) (f : A → Option B) (y : B) → (o >>= f) ≡ Some y →
    (x : A) × (o ≡ Some x) × (f x ≡ Some y)
bind_some (Some x) f y e = (x, refl, e)
bind_some None f y e = absurd cc

pub need_some : {B : Type 0} (b : Bool) (o : Option B) (y : B) → (need b >> o) ≡ Some y → (b ≡ true) × (o ≡ Some y)
need_some true o y e = (refl, e)
need_some false o y e = absurd cc
