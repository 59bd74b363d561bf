-- A result that is one error, or another result: of steps in a row, where that holds of each.
-- Assumes nothing.
use Rattle.std.proofs.Common.{◌≡◌, ◌⊎◌, inl, inr, None, Ok, Err, Option, Result, Bool, true, false, refl, ap}
use Rattle.std.proofs.Common.{if◌then◌else◌}
use Rattle.gsym_reads.specs.Steps.{◌>>=◌, ◌>>◌, need, given, told}

abbrev pub Or : {A E : Type 0} → E → Result A E → Result A E → Type 0
Or e x y = (x ≡ Err e) ⊎ (x ≡ y)

module _ {E : Type 0} (e : E) where
  -- a step, and what follows from each of its values
  pub step_or : {A B : Type 0} (x y : Result A E) (f g : A → Result B E) → Or e x y → ((a : A) → Or e (f a) (g a)) →
      Or e (x >>= f) (y >>= g)
  step_or x y f g (inl q) h = inl (ap (λ z. z >>= f) q)
  step_or x (Ok a) f g (inr q) h = rw q (h a)
  step_or x (Err r) f g (inr q) h = inr (ap (λ z. z >>= f) q)

  -- the same step
  pub same_or : {A B : Type 0} (x : Result A E) (f g : A → Result B E) → ((a : A) → Or e (f a) (g a)) →
      Or e (x >>= f) (x >>= g)
  same_or x f g h = step_or x x f g (inr refl) h

  pub need_or : {B : Type 0} (b : Bool) (r : E) (x y : Result B E) → Or e x y → Or e (need b r >> x) (need b r >> y)
  need_or true r x y h = h
  need_or false r x y h = inr refl

  pub pick_or : {A : Type 0} (b : Bool) (x y v w : Result A E) → Or e x v → Or e y w →
      Or e (if b then x else y) (if b then v else w)
  pick_or true x y v w h k = h
  pick_or false x y v w h k = k

-- an error that is told on
pub told_or : {A C E : Type 0} (how : C → E) (c : C) (x y : Result A C) → Or c x y →
    Or (how c) (told how x) (told how y)
told_or how c x y (inl q) = inl (ap (told how) q)
told_or how c x y (inr q) = inr (ap (told how) q)

-- a value that is there or not
pub given_or : {A E : Type 0} (e : E) (x y : Option A) → (x ≡ None) ⊎ (x ≡ y) → Or e (given e x) (given e y)
given_or e x y (inl q) = inl (ap (given e) q)
given_or e x y (inr q) = inr (ap (given e) q)
