-- What a file is from a place on: the one form in which places are carried. A part is passed by the length that it is
-- known to have.
-- Assumes nothing.
use Rattle.std.proofs.Common.{◌≡◌, ℕ, ◌+◌, ◌≤◌, List, ◌++◌, length, take, drop, sym, ap, subst, ◌∙◌, arith}
use Rattle.std.proofs.Common.{length-append, length-drop, drop-drop, drop_at, take_at}

-- from a place within the file on, it is these bytes, up to its end
pub record From (file : List ℕ) (at : ℕ) (bytes : List ℕ) : Type 0 where
  pub inside : at ≤ length file
  pub is : drop at file ≡ bytes

module _ (file : List ℕ) where
  pub from_start : (bytes : List ℕ) → file ≡ bytes → From file 0 bytes
  from_start bytes e = record { inside = omega arith; is = e }

  -- the same place, counted otherwise
  pub from_at : (at to : ℕ) (bytes : List ℕ) → at ≡ to → From file at bytes → From file to bytes
  from_at at to bytes e f = subst (λ p. From file p bytes) e f

  module _ (at : ℕ) (a b : List ℕ) (f : From file at (a ++ b)) (n : ℕ) (e : length a ≡ n) where
    -- past a part
    pub from_next : From file (at + n) b
    from_next = record {
      inside = omega (arith, f.inside, length-drop at file, ap length f.is, length-append a b);
      is = sym (drop-drop n at file) ∙ ap (drop n) f.is ∙ drop_at a b n e;
    }

    -- the part itself
    pub from_part : take n (drop at file) ≡ a
    from_part = ap (take n) f.is ∙ take_at a b n e
