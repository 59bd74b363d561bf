-- A rule that may have no answer, as a `do` block: where a step gives nothing or a test doesn't hold, there is none.
-- Assumes nothing.
use Rattle.std.specs.Prelude.{Bool, true, false, Option, Some, None, option_and_then}

infixl 10 ◌>>=◌
abbrev pub ◌>>=◌ : {A B : Type 0} → Option A → (A → Option B) → Option B
o >>= f = option_and_then f o

infixl 10 ◌>>◌
abbrev pub ◌>>◌ : {A B : Type 0} → Option A → Option B → Option B
(Some x) >> o = o
None >> o = None

abbrev pub need : Bool → Option (Unit {0})
need true = Some tt
need false = None
