-- Counted bytes: a count goes by parts, and where all are counted a run goes on past them.
-- Assumes nothing.
use Rattle.std.proofs.Common.{ℕ, zero, suc, ◌+◌, ◌≤◌, ◌<◌, Bool, true, false, List, [], ◌∷◌, ◌≡◌, refl, ap, sym, ◌∙◌}
use Rattle.std.proofs.Common.{length, get_or, drop, drop-cons, drop-drop, zero-add, suc-add, arith, if◌then◌else◌}
use Rattle.gsym_strtab.specs.Utf8.{Range, within}
use Rattle.gsym_strtab.specs.Steps.{run_len, count_in}
use Rattle.gsym_strtab.proofs.Runs.{Skipped}

-- a byte is counted as 1 or 0
abbrev pub ones : Bool → ℕ
ones t = if t then 1 else 0

ones-le : (t : Bool) → ones t ≤ 1
ones-le true = omega arith
ones-le false = omega arith

pub one-counted : (t : Bool) → t ≡ true → (1 ≡ ones t) × (1 ≤ 1)
one-counted t e = (ap ones (sym e), omega arith)

pub none-counted : (t : Bool) → t ≡ false → (0 ≡ ones t) × (0 ≤ 1)
none-counted t e = (ap ones (sym e), omega arith)

module _ (r : Range) where
  count-le : (k : ℕ) (bs : List ℕ) → count_in r k bs ≤ k
  unfolding count_in
  count-le zero bs = omega arith
  count-le (suc k) [] = omega arith
  count-le (suc k) (b ∷ bs) = omega (arith, ones-le (within r b), count-le k bs)

  pub counted_le : (k n : ℕ) (bs : List ℕ) → n ≡ count_in r k bs → n ≤ k
  counted_le k n bs e = omega (arith, count-le k bs, e)

  count_none : (k : ℕ) → count_in r k [] ≡ 0
  unfolding count_in
  count_none zero = refl
  count_none (suc k) = refl

  -- those of a first part, and those of the rest
  count-parts : (j k : ℕ) (bs : List ℕ) → count_in r (j + k) bs ≡ count_in r j bs + count_in r k (drop j bs)
  unfolding count_in
  count-parts zero k bs = ap (λ (n : ℕ). count_in r n bs) (zero-add k) ∙ sym (zero-add (count_in r k bs))
  count-parts (suc j) k [] = count_none (suc j + k) ∙ sym (zero-add (count_in r k []) ∙ count_none k)
  count-parts (suc j) k (b ∷ bs) =
      let h = count-parts j k bs in
      let e = ap (λ (n : ℕ). count_in r n (b ∷ bs)) (suc-add j k) in
      omega (arith, h, e)

  -- where all are counted, the run goes on past them
  count-run : (k : ℕ) (bs : List ℕ) → count_in r k bs ≡ k → run_len r bs ≡ k + run_len r (drop k bs)
  unfolding count_in run_len
  count-run zero bs e = sym (zero-add (run_len r bs))
  count-run (suc k) [] e = absurd (omega arith)
  count-run (suc k) (b ∷ bs) e = go (within r b) (count-run k bs) e
    where
      go : (t : Bool) → (count_in r k bs ≡ k → run_len r bs ≡ k + run_len r (drop k bs)) →
          ones t + count_in r k bs ≡ suc k → (if t then suc (run_len r bs) else 0) ≡ suc k + run_len r (drop k bs)
      go true rest e = let h = rest (omega arith) in omega arith
      go false rest e = absurd (omega (arith, count-le k bs))

  module _ (s : List ℕ) (at : ℕ) where
    -- one byte more
    count_next : (k i j : ℕ) → i < length s → j ≡ suc i →
        count_in r (suc k) (drop i s) ≡ ones (within r (get_or s i 0)) + count_in r k (drop j s)
    unfolding count_in
    count_next k i j l e = rw (e, drop-cons s i 0 l) refl

    pub four-counted :
        (a b c d : ℕ) → at + 4 ≤ length s → a ≡ ones (within r (get_or s at 0)) →
        b ≡ ones (within r (get_or s (at + 1) 0)) → c ≡ ones (within r (get_or s (at + 2) 0)) →
        d ≡ ones (within r (get_or s (at + 3) 0)) → a + b + c + d ≡ count_in r 4 (drop at s)
    unfolding count_in
    four-counted a b c d l A B C D =
        let e = count_next 3 at (at + 1) (omega arith) (omega arith) in
        let f = count_next 2 (at + 1) (at + 2) (omega arith) (omega arith) in
        let g = count_next 1 (at + 2) (at + 3) (omega arith) (omega arith) in
        let h = count_next 0 (at + 3) (at + 4) (omega arith) (omega arith) in
        omega (arith, e, f, g, h, A, B, C, D)

    halves-counted :
        (k x y : ℕ) → x ≡ count_in r k (drop at s) → y ≡ count_in r k (drop (at + k) s) →
        x + y ≡ count_in r (k + k) (drop at s)
    halves-counted k x y X Y =
        let h = count-parts k k (drop at s) in
        let e = ap (count_in r k) (drop-drop k at s) in
        omega (arith, h, e, X, Y)

    -- of eight and of sixteen bytes
    pub eight_counted :
        (x y : ℕ) → x ≡ count_in r 4 (drop at s) → y ≡ count_in r 4 (drop (at + 4) s) → x + y ≡ count_in r 8 (drop at s)
    eight_counted x y X Y = halves-counted 4 x y X Y

    pub sixteen_counted :
        (x y : ℕ) → x ≡ count_in r 8 (drop at s) → y ≡ count_in r 8 (drop (at + 8) s) →
        x + y ≡ count_in r 16 (drop at s)
    sixteen_counted x y X Y = halves-counted 8 x y X Y

-- all of them are passed
pub skip_counted :
    {r : Range} {s : List ℕ} {at i : ℕ} → Skipped r s at i → (k n : ℕ) → n ≡ count_in r k (drop i s) → n ≡ k →
    i + k ≤ length s → Skipped r s at (i + k)
skip_counted {r} {s} {at} {i} h k n C e l =
    let f = count-run r k (drop i s) (sym C ∙ e) in
    let g = ap (run_len r) (drop-drop k i s) in
    record { inside = l; run = omega (arith, h.run, f, g) }
