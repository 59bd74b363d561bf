-- A member by its place is one by the list's cases.
-- Assumes nothing.
use Rattle.std.proofs.Common.{zero, suc, List, [], ◌∷◌, sym, arith}
use mathlib.Core.List.Memᴰ
use mathlib.Core.List.{Memᴰ}
use Rattle.std.specs.List.{Contains}

module _ {X : Type 0} where
  pub contains_mem : (xs : List X) (x : X) → Contains xs x → Memᴰ x xs
  contains_mem [] x (k, l, e) = absurd (omega (arith, l))
  contains_mem (y ∷ ys) x (zero, l, e) = Memᴰ.head (sym e)
  contains_mem (y ∷ ys) x (suc k, l, e) = Memᴰ.tail (contains_mem ys x (k, omega (arith, l), e))

  pub mem_contains : (xs : List X) (x : X) → Memᴰ x xs → Contains xs x
  mem_contains [] x m = absurd (Memᴰ.not-nil m)
  mem_contains (y ∷ ys) x (Memᴰ.head e) = (0, omega arith, sym e)
  mem_contains (y ∷ ys) x (Memᴰ.tail m) = let i = mem_contains ys x m in (suc i.0, omega (arith, i.1), i.2)
