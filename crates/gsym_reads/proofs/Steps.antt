-- Laws of rules that are `do` blocks: what a rule that reads has read on its way, what holds of every way through, and
-- what follows a rule.
-- Assumes nothing.
use Rattle.std.proofs.Common.{◌≡◌, Bool, true, false, Result, Ok, Err, Option, Some, None, refl, if◌then◌else◌}
use Rattle.gsym_reads.specs.Steps.{◌>>=◌, ◌>>◌, need, given}

-- ---- a rule that gives a value: each of its steps gives one, each of its tests holds

pub bind_ok :
    {E A B : Type 0} (r : Result A E) (f : A → Result B E) (y : B) → (r >>= f) ≡ Ok y →
    (x : A) × (r ≡ Ok x) × (f x ≡ Ok y)
bind_ok (Ok x) f y e = (x, refl, e)
bind_ok (Err d) f y e = absurd cc

pub need_ok :
    {E B : Type 0} (b : Bool) (d : E) (r : Result B E) (y : B) → (need b d >> r) ≡ Ok y → (b ≡ true) × (r ≡ Ok y)
need_ok true d r y e = (refl, e)
need_ok false d r y e = absurd cc

pub given_ok : {E A : Type 0} (d : E) (o : Option A) (x : A) → given d o ≡ Ok x → o ≡ Some x
given_ok d (Some z) x e = cc
given_ok d None x e = absurd cc

pub ok_is : {E A : Type 0} (x y : A) → ◌≡◌ {A = Result A E} (Ok x) (Ok y) → x ≡ y
ok_is x y e = cc

-- ---- what holds of every error, and of the rest at each value of a step, holds of the rule

pub through :
    {E A B : Type 0} (P : Result B E → Type 0) (r : Result A E) (f : A → Result B E) →
    ((e : E) → r ≡ Err e → P (Err e)) →
    ((x : A) → r ≡ Ok x → P (f x)) → P (r >>= f)
through P (Ok x) f p q = q x refl
through P (Err e) f p q = p e refl

pub through_need :
    {E B : Type 0} (P : Result B E → Type 0) (b : Bool) (d : E) (r : Result B E) → P (Err d) → (b ≡ true → P r) →
    P (need b d >> r)
through_need P true d r p q = q refl
through_need P false d r p q = p

-- the same with what each outcome of the step says

module _ {B E : Type 0} (P : Result B E → Type 0) where
  pub by_given :
      {A : Type 0} (d : E) (o : Option A) (f : A → Result B E) → (o ≡ None → P (Err d)) →
      ((x : A) → o ≡ Some x → P (f x)) →
      P (given d o >>= f)
  by_given d (Some x) f n s = s x refl
  by_given d None f n s = n refl

  pub by_test : (b : Bool) (d : E) (r : Result B E) → (b ≡ false → P (Err d)) → (b ≡ true → P r) → P (need b d >> r)
  by_test true d r n s = s refl
  by_test false d r n s = n refl

  pub by_choice : (b : Bool) (r s : Result B E) → (b ≡ true → P r) → (b ≡ false → P s) → P (if b then r else s)
  by_choice true r s x y = x refl
  by_choice false r s x y = y refl

  -- a step of which something is known in both outcomes
  pub by_outcome :
      {A : Type 0} (Q : Result A E → Type 0) (r : Result A E) (f : A → Result B E) → Q r →
      ((e : E) → Q (Err e) → P (Err e)) → ((x : A) → r ≡ Ok x → Q (Ok x) → P (f x)) → P (r >>= f)
  by_outcome Q (Ok x) f q n s = s x refl q
  by_outcome Q (Err e) f q n s = n e q

-- ---- what follows a rule follows its last step

pub bind_bind :
    {A B C E : Type 0} (r : Result A E) (f : A → Result B E) (g : B → Result C E) →
    ((r >>= f) >>= g) ≡ (r >>= λ x. f x >>= g)
bind_bind (Ok x) f g = refl
bind_bind (Err e) f g = refl

pub need_bind :
    {B C E : Type 0} (b : Bool) (d : E) (r : Result B E) (g : B → Result C E) →
    ((need b d >> r) >>= g) ≡ (need b d >> (r >>= g))
need_bind true d r g = refl
need_bind false d r g = refl

pub if_bind :
    {B C E : Type 0} (b : Bool) (r s : Result B E) (g : B → Result C E) →
    ((if b then r else s) >>= g) ≡ (if b then r >>= g else s >>= g)
if_bind true r s g = refl
if_bind false r s g = refl

-- rules that are the same after a step are the same
pub bind_same :
    {A B E : Type 0} (r : Result A E) (f g : A → Result B E) → ((x : A) → r ≡ Ok x → f x ≡ g x) → (r >>= f) ≡ (r >>= g)
bind_same (Ok x) f g h = h x refl
bind_same (Err e) f g h = refl

pub given_same :
    {A B E : Type 0} (d : E) (o : Option A) (f g : A → Result B E) → ((x : A) → f x ≡ g x) →
    (given d o >>= f) ≡ (given d o >>= g)
given_same d (Some x) f g h = h x
given_same d None f g h = refl

-- a value that is there where a test holds is that test, and the value
pub given_if :
    {A B E : Type 0} (d : E) (b : Bool) (x : A) (f : A → Result B E) →
    (given d (if b then Some x else None) >>= f) ≡ (need b d >> f x)
given_if d true x f = refl
given_if d false x f = refl
