-- Two rules side by side that read the same steps: what the second comes to where the first gives a value, and that it
-- fails where the first does.
-- Assumes nothing.
use Rattle.std.proofs.Common.{Ok, Err, Some, None, Option, Result, Bool, true, false, ◌≡◌, refl, if◌then◌else◌}
use Rattle.std.specs.Prelude.{is_err}
use Rattle.gsym_reads.specs.Steps.{◌>>=◌, ◌>>◌, given, told}

-- ---- a rule within a rule, and after one step the same rest

pub bind_assoc :
    {E A B C : Type 0} (r : Result A E) (f : A → Result B E) (g : B → Result C E) →
    ((r >>= f) >>= g) ≡ (r >>= λ x. f x >>= g)
bind_assoc (Ok x) f g = refl
bind_assoc (Err e) f g = refl

pub bind_same :
    {E A B : Type 0} (r : Result A E) (f g : A → Result B E) → ((x : A) → r ≡ Ok x → f x ≡ g x) → (r >>= f) ≡ (r >>= g)
bind_same (Ok x) f g h = h x refl
bind_same (Err e) f g h = refl

pub then_ok :
    {E A B : Type 0} (r : Result A E) (q : Result B E) (y : B) → (r >> q) ≡ Ok y → (x : A) × (r ≡ Ok x) × (q ≡ Ok y)
then_ok (Ok x) q y e = (x, refl, e)
then_ok (Err d) q y e = absurd cc

-- ---- two rules side by side

-- where x gives a value, R holds of it and of y; where it fails, y fails
abbrev pub Follows : {A C D E : Type 0} → (A → Result D E → Type 0) → Result A C → Result D E → Type 0
Follows R (Ok a) y = R a y
Follows R (Err k) y = is_err y ≡ true

module _ {B C D E : Type 0} (R : B → Result D E → Type 0) where
  -- the same step on both sides, its error told in another way
  pub by_told :
      {A : Type 0} (how : C → E) (x : Result A C) (f : A → Result B C) (g : A → Result D E) →
      ((a : A) → Follows R (f a) (g a)) → Follows R (x >>= f) (told how x >>= g)
  by_told how (Ok a) f g h = h a
  by_told how (Err k) f g h = refl

  pub by_given :
      {A : Type 0} (k : C) (e : E) (o : Option A) (f : A → Result B C) (g : A → Result D E) →
      ((a : A) → Follows R (f a) (g a)) → Follows R (given k o >>= f) (given e o >>= g)
  by_given k e (Some a) f g h = h a
  by_given k e None f g h = refl

  -- a step on each side, of which the second follows the first
  pub by_step :
      {A A' : Type 0} (S : A → Result A' E → Type 0) (x : Result A C) (y : Result A' E) (f : A → Result B C)
      (g : A' → Result D E) → Follows S x y → ((a : A) (z : Result A' E) → S a z → Follows R (f a) (z >>= g)) →
      Follows R (x >>= f) (y >>= g)
  by_step S (Ok a) y f g s h = h a y s
  by_step S (Err k) (Ok b) f g s h = absurd cc
  by_step S (Err k) (Err e) f g s h = refl

  -- a step on the first side alone
  pub by_first :
      {A : Type 0} (S : A → Result D E → Type 0) (x : Result A C) (y : Result D E) (f : A → Result B C) →
      Follows S x y → ((a : A) → S a y → Follows R (f a) y) → Follows R (x >>= f) y
  by_first S (Ok a) y f s h = h a s
  by_first S (Err k) y f s h = s

  -- whatever the first side gives, the second fails
  pub by_fault : (x : Result B C) (e : E) → ((b : B) → x ≡ Ok b → R b (Err e)) → Follows R x (Err e)
  by_fault (Ok b) e h = h b refl
  by_fault (Err k) e h = refl

  -- a choice by the same test
  pub by_test :
      (t : Bool) (x x' : Result B C) (y y' : Result D E) → (t ≡ true → Follows R x y) → (t ≡ false → Follows R x' y') →
      Follows R (if t then x else x') (if t then y else y')
  by_test true x x' y y' p q = p refl
  by_test false x x' y y' p q = q refl

-- what is said of all values holds of one
pub followed :
    {A C D E : Type 0} (R : A → Result D E → Type 0) (x : Result A C) (y : Result D E) → Follows R x y →
    (a : A) → x ≡ Ok a → R a y
followed R (Ok b) y s a e = let q : b ≡ a = cc in rw (← q) s
followed R (Err k) y s a e = absurd cc

-- and a rule that doesn't fail follows one that doesn't
pub leads :
    {A C D E : Type 0} (R : A → Result D E → Type 0) (x : Result A C) (d : D) → Follows R x (Ok d) →
    (a : A) × (x ≡ Ok a) × R a (Ok d)
leads R (Ok a) d s = (a, refl, s)
leads R (Err k) d s = absurd cc
