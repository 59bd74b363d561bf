-- A number in bytes that are cut: it is short, or that of the whole.
-- Assumes nothing.
use Rattle.std.proofs.Common.{◌≡◌, inl, inr, ⊎_elim, ℕ, zero, suc, ◌<◌, ◌≤◌, List, [], ◌∷◌, ◌++◌, drop}
use Rattle.std.proofs.Common.{refl, sym, ◌∙◌, Err}
use Rattle.std.proofs.lemmas.Bool.{cases_lt}
use Rattle.gsym_reads.proofs.Or.{Or, step_or}
use Rattle.gsym_reads.proofs.Cut.{cut_at}
use Rattle.gsym_leb128.specs.declared.Cause.TheVariants.{Short}
use Rattle.gsym_leb128.specs.Leb.{digits, unsigned, signed}
use Rattle.gsym_leb128.specs.Answers.{unsigned_at, signed_at}
use Rattle.gsym_leb128.proofs.Digits.{digits-zero, digits-nil, digits_last, digits_more}

digits_cut : (k : ℕ) (bs rest : List ℕ) → Or Short (digits k bs) (digits k (bs ++ rest))
digits_cut zero bs rest = inr (digits-zero bs ∙ sym (digits-zero (bs ++ rest)))
digits_cut (suc k) [] rest = inl (digits-nil k)
digits_cut (suc k) (b ∷ bs) rest =
    ⊎_elim
    (λ (l : b < 128). inr (digits_last k b bs l ∙ sym (digits_last k b (bs ++ rest) l)))
    (λ (l : 128 ≤ b).
    rw (digits_more k b bs l, digits_more k b (bs ++ rest) l)
    (step_or Short (digits k bs) (digits k (bs ++ rest)) _ _ (digits_cut k bs rest) (λ p. inr refl)))
    (cases_lt b 128)

unsigned_cut : (bs rest : List ℕ) → Or Short (unsigned bs) (unsigned (bs ++ rest))
unfolding unsigned
unsigned_cut bs rest = step_or Short (digits 10 bs) (digits 10 (bs ++ rest)) _ _ (digits_cut 10 bs rest) (λ p. inr refl)

signed_cut : (bs rest : List ℕ) → Or Short (signed bs) (signed (bs ++ rest))
unfolding signed
signed_cut bs rest = step_or Short (digits 10 bs) (digits 10 (bs ++ rest)) _ _ (digits_cut 10 bs rest) (λ p. inr refl)

module _ (s rest : List ℕ) (at : ℕ) where
  pub unsigned_at_cut : Or Short (unsigned_at s at) (unsigned_at (s ++ rest) at)
  unfolding unsigned_at unsigned
  unsigned_at_cut =
      step_or Short (unsigned (drop at s)) (unsigned (drop at (s ++ rest))) _ _
      (cut_at unsigned (Err Short) nothing unsigned_cut s rest at) (λ p. inr refl)
    where
      nothing : unsigned [] ≡ Err Short
      nothing = rw (digits-nil 9) refl

  pub signed_at_cut : Or Short (signed_at s at) (signed_at (s ++ rest) at)
  unfolding signed_at signed
  signed_at_cut =
      step_or Short (signed (drop at s)) (signed (drop at (s ++ rest))) _ _
      (cut_at signed (Err Short) nothing signed_cut s rest at) (λ p. inr refl)
    where
      nothing : signed [] ≡ Err Short
      nothing = rw (digits-nil 9) refl
