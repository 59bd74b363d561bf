-- Reading a string byte by byte: what was passed and what is left, and each way out of the scan.
-- Assumes nothing.
use Rattle.std.proofs.Common.{ℕ, ◌+◌, suc, ◌-◌, ◌≤◌, ◌<◌, List, [], ◌∷◌, ◌≡◌, refl, ap, sym, ◌∙◌, ⊎_elim, length, ◌==◌}
use Rattle.std.proofs.Common.{get_or, drop, drop_of_length-le, drop-cons, arith, lt-ltb, le-ltb, eq-eqb, ne_eqb, Option}
use Rattle.std.proofs.Common.{Some, None}
use Rattle.gsym_strtab.specs.Strings.{before_zero, text_in}
use Rattle.std.proofs.lemmas.Bool.{cases_lt}
use Rattle.std.specs.List.{position_or_len}

-- a length with n bytes before it
abbrev pub longer : ℕ → Option ℕ → Option ℕ
longer n (Some m) = Some (n + m)
longer n None = None

pub longer-none : (l : Option ℕ) → l ≡ longer 0 l
longer-none (Some n) = let e : n ≡ 0 + n = omega arith in ap Some e
longer-none None = refl

pub longer-longer : (n m : ℕ) (l : Option ℕ) → longer n (longer m l) ≡ longer (n + m) l
longer-longer n m (Some k) = let e : n + (m + k) ≡ n + m + k = omega arith in ap Some e
longer-longer n m None = refl

-- of the answer `whole` for the bytes from at on, those from at to i are passed, and `read` of the rest is left
pub record Passed (whole : Option ℕ) (read : List ℕ → Option ℕ) (s : List ℕ) (at i : ℕ) : Type 0 where
  pub from : at ≤ i
  pub rest : whole ≡ longer (i - at) (read (drop i s))

pub begin : {whole : Option ℕ} {read : List ℕ → Option ℕ} (s : List ℕ) (at : ℕ) →
    whole ≡ read (drop at s) → Passed whole read s at at
begin {whole} {read} s at e =
    let z : 0 ≡ at - at = omega arith in
    record { from = omega arith; rest = e ∙ longer-none (read (drop at s)) ∙ ap (λ k. longer k (read (drop at s))) z }

module _ {whole : Option ℕ} {read : List ℕ → Option ℕ} {s : List ℕ} {at i : ℕ} (h : Passed whole read s at i) where
  pub pass : (n : ℕ) → read (drop i s) ≡ longer n (read (drop (i + n) s)) → Passed whole read s at (i + n)
  pass n e =
      let z : i - at + n ≡ i + n - at = omega (arith, h.from) in
      record {
        from = omega (arith, h.from);
        rest =
            h.rest ∙ ap (longer (i - at)) e ∙ longer-longer (i - at) n (read (drop (i + n) s))
            ∙ ap (λ k. longer k (read (drop (i + n) s))) z;
      }

  pub ended : read (drop i s) ≡ Some 0 → Some (i - at) ≡ whole
  ended e = let z : i - at ≡ i - at + 0 = omega arith in ap Some z ∙ sym (h.rest ∙ ap (longer (i - at)) e)

  pub failed : read (drop i s) ≡ None → None ≡ whole
  failed e = sym (h.rest ∙ ap (longer (i - at)) e)

-- ------------------------------------------------------------------------------------------------
-- a string

pub before_zero-nil : before_zero [] ≡ None
unfolding before_zero
before_zero-nil = refl

pub before_zero-zero : (b : ℕ) (bs : List ℕ) → b ≡ 0 → before_zero (b ∷ bs) ≡ Some 0
unfolding before_zero
before_zero-zero b bs e =
    let l : 0 < suc (length bs) = omega arith in
    rw (eq-eqb _ _ e, lt-ltb _ _ l)

pub text-more : (b : ℕ) (bs : List ℕ) → (b ≡ 0 → ⊥) → before_zero (b ∷ bs) ≡ longer 1 (before_zero bs)
unfolding before_zero
text-more b bs d =
    let n = position_or_len (λ b. b == 0) bs in
    ⊎_elim
    (λ (l : n < length bs). let m : 1 + n < suc (length bs) = omega arith in
    rw (ne_eqb _ _ d, lt-ltb _ _ m, lt-ltb _ _ l))
    (λ (l : length bs ≤ n). let m : suc (length bs) ≤ 1 + n = omega arith in
    rw (ne_eqb _ _ d, le-ltb _ _ m, le-ltb _ _ l))
    (cases_lt n (length bs))

pub text-begin : (s : List ℕ) (at : ℕ) → text_in s at ≡ before_zero (drop at s)
unfolding text_in
text-begin s at =
    ⊎_elim
    (λ (l : at < length s). rw (lt-ltb _ _ l))
    (λ (l : length s ≤ at). rw (le-ltb _ _ l, drop_of_length-le s l) (sym before_zero-nil))
    (cases_lt at (length s))

module _ (s : List ℕ) (i : ℕ) where
  pub text-over : length s ≤ i → before_zero (drop i s) ≡ None
  text-over l = rw (drop_of_length-le s l) before_zero-nil

  pub text-zero : i < length s → get_or s i 0 ≡ 0 → before_zero (drop i s) ≡ Some 0
  text-zero l e = rw (drop-cons s i 0 l) (before_zero-zero _ _ e)
