-- A rule that reads and judges several things in a row is a `do` block: its lines stand in the order in which things
-- are read and judged, and the first that fails decides.
--
--   x ← step          goes on with what the step gives, or ends with the step's error
--   need test e       goes on where the test holds, or ends with the error e
--   given e option    gives what is there, or ends with the error e
--   told how step     the step, its error told as the rule tells it
--
-- Assumes nothing.
use Rattle.std.specs.Prelude.{Bool, true, false, Option, Some, None, Result, Ok, Err}

infixl 10 ◌>>=◌
abbrev pub ◌>>=◌ : {E A B : Type 0} → Result A E → (A → Result B E) → Result B E
(Ok x) >>= f = f x
(Err e) >>= f = Err e

infixl 10 ◌>>◌
abbrev pub ◌>>◌ : {E A B : Type 0} → Result A E → Result B E → Result B E
(Ok x) >> r = r
(Err e) >> r = Err e

abbrev pub need : {E : Type 0} → Bool → E → Result (Unit {0}) E
need true e = Ok tt
need false e = Err e

abbrev pub given : {A E : Type 0} → E → Option A → Result A E
given e (Some x) = Ok x
given e None = Err e

abbrev pub told : {A C E : Type 0} → (C → E) → Result A C → Result A E
told how (Ok x) = Ok x
told how (Err c) = Err (how c)
