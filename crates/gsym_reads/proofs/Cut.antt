-- What is read of bytes that are cut at a place: nothing, or what is read of the whole.
-- Assumes nothing.
use Rattle.std.proofs.Common.{◌≡◌, ◌⊎◌, inl, inr, ⊎_elim, None, ℕ, ◌≤◌, ◌<◌, List, [], ◌∷◌, ◌++◌, length}
use Rattle.std.proofs.Common.{drop, refl, ap, ◌∙◌, arith, lt-ltb, le-ltb}
use Rattle.std.proofs.lemmas.Bool.{cases_lt}
use Rattle.std.proofs.lemmas.List.{drop-append-le, drop_all, take-append-le, length-append}
use Rattle.gsym_reads.specs.Fronts.{byte_front, u32_front}
use Rattle.gsym_reads.specs.Answers.{value_of, u8_at, u32_at}

-- what reads nothing of no bytes, and of a front nothing or what it reads of the whole, does so from a place on
pub cut_at :
    {R : Type 0} (read : List ℕ → R) (nothing : R) → read [] ≡ nothing →
    ((xs more : List ℕ) → (read xs ≡ nothing) ⊎ (read xs ≡ read (xs ++ more))) →
    (s more : List ℕ) (at : ℕ) → (read (drop at s) ≡ nothing) ⊎ (read (drop at s) ≡ read (drop at (s ++ more)))
cut_at read nothing n h s more at =
    ⊎_elim
    (λ (l : length s < at). inl (ap read (drop_all at s (omega arith)) ∙ n))
    (λ (l : at ≤ length s). rw (drop-append-le at s more l) (h (drop at s) more))
    (cases_lt (length s) at)

byte_cut :
    (xs more : List ℕ) →
    (value_of (byte_front xs) ≡ None) ⊎ (value_of (byte_front xs) ≡ value_of (byte_front (xs ++ more)))
unfolding byte_front
byte_cut [] more = inl refl
byte_cut (b ∷ bs) more = inr refl

u32_cut_front :
    (xs more : List ℕ) →
    (value_of (u32_front xs) ≡ None) ⊎ (value_of (u32_front xs) ≡ value_of (u32_front (xs ++ more)))
unfolding u32_front
u32_cut_front xs more =
    ⊎_elim
    (λ (l : length xs < 4). inl (rw (lt-ltb _ _ l) refl))
    (λ (l : 4 ≤ length xs).
    let m : 4 ≤ length (xs ++ more) = omega (arith, l, length-append xs more) in
    inr (rw (le-ltb _ _ l, le-ltb _ _ m, take-append-le 4 xs more l) refl))
    (cases_lt (length xs) 4)

module _ (s more : List ℕ) (at : ℕ) where
  pub u8_cut : (u8_at s at ≡ None) ⊎ (u8_at s at ≡ u8_at (s ++ more) at)
  unfolding u8_at byte_front
  u8_cut = cut_at (λ xs. value_of (byte_front xs)) None refl byte_cut s more at

  pub u32_cut : (u32_at s at ≡ None) ⊎ (u32_at s at ≡ u32_at (s ++ more) at)
  unfolding u32_at u32_front
  u32_cut = cut_at (λ xs. value_of (u32_front xs)) None refl u32_cut_front s more at
