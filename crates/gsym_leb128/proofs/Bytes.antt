-- Which bytes a number depends on, and when the bytes end before it does.
-- Assumes nothing.
use Rattle.std.proofs.Common.{◌≡◌, ℕ, zero, suc, ◌^◌, ◌<◌, ◌≤◌, ◌↔◌, Bool, true, false, List, [], ◌∷◌, ◌++◌, All}
use Rattle.std.proofs.Common.{length, take, drop, nat_lt, ℤ, sym, ap, ◌∙◌, ⊎_elim, arith, Ok, Err, Result}
use Rattle.std.proofs.lemmas.Bool.{cases_lt}
use lib.Signed.{mag}
use Rattle.gsym_reads.specs.Steps.{◌>>=◌, ◌>>◌, need}
use Rattle.gsym_reads.proofs.Steps.{ok_is}
use Rattle.gsym_leb128.specs.declared.Cause.{Cause}
use Rattle.gsym_leb128.specs.declared.Cause.TheVariants.{Short, Wide}
use Rattle.gsym_leb128.specs.Leb.{digits, complement, unsigned, signed}
use Rattle.gsym_leb128.specs.Answers.{unsigned_at, signed_at, EndsEarly}
use Rattle.gsym_leb128.proofs.Digits.{more, digits-zero, digits-nil, digits_last, digits_more}
use Rattle.gsym_leb128.proofs.Taken.{more-inv, unsigned-inv, signed-inv}

-- ---- what follows a number does not matter

digits-local :
    (k : ℕ) (bs : List ℕ) (v n : ℕ) (rest : List ℕ) → digits k bs ≡ Ok (v, n) →
    digits k (take n bs ++ rest) ≡ digits k bs
digits-local zero bs v n rest e = absurd (cc (digits-zero bs))
digits-local (suc k) [] v n rest e = absurd (cc (digits-nil k))
digits-local (suc k) (b ∷ bs) v n rest e =
    ⊎_elim
    (λ (l : b < 128).
    let q : n ≡ suc 0 = sym (ap (λ q. q.1) (ok_is _ _ (sym (digits_last k b bs l) ∙ e))) in
    rw (q, digits_last k b rest l, digits_last k b bs l))
    (λ (l : 128 ≤ b).
    let i = more-inv b v n (digits k bs) (sym (digits_more k b bs l) ∙ e) in
    ap (λ m. digits (suc k) (take m (b ∷ bs) ++ rest)) i.3
    ∙ digits_more k b (take i.1 bs ++ rest) l
    ∙ ap (more b) (digits-local k bs i.0 i.1 rest i.2)
    ∙ sym (digits_more k b bs l))
    (cases_lt b 128)

module _ (bs : List ℕ) (n : ℕ) (rest : List ℕ) where
  pub unsigned-local : (v : ℕ) → unsigned bs ≡ Ok (v, n) → unsigned (take n bs ++ rest) ≡ Ok (v, n)
  unfolding unsigned
  unsigned-local v e = rw (digits-local 10 bs v n rest (unsigned-inv bs n v e).0) e

  pub signed-local : (z : ℤ) → signed bs ≡ Ok (z, n) → signed (take n bs ++ rest) ≡ Ok (z, n)
  unfolding signed
  signed-local z e = let i = signed-inv bs n z e in rw (digits-local 10 bs i.0 n rest i.1) e

-- ---- short: fewer than k bytes are there, and each of them asks for another

more-short : (b : ℕ) (d : Result (ℕ × ℕ) Cause) → more b d ≡ Err Short → d ≡ Err Short
more-short b (Ok (v, n)) e = absurd (cc)
more-short b (Err c) e = e

pub each-asks : (b : ℕ) (bs : List ℕ) → 128 ≤ b → All (λ b. 128 ≤ b) bs → All (λ b. 128 ≤ b) (b ∷ bs)
each-asks b bs l a zero d t = l
each-asks b bs l a (suc i) d t = a i d (omega arith)

short-asks : (k : ℕ) (bs : List ℕ) → digits k bs ≡ Err Short → (length bs < k) × All (λ b. 128 ≤ b) bs
short-asks zero bs e = absurd (cc (digits-zero bs))
short-asks (suc k) [] e = (omega arith, λ i d l. absurd (omega arith))
short-asks (suc k) (b ∷ bs) e =
    ⊎_elim
    (λ (l : b < 128). absurd (cc (digits_last k b bs l)))
    (λ (l : 128 ≤ b).
    let a = short-asks k bs (more-short b (digits k bs) (sym (digits_more k b bs l) ∙ e)) in
    (omega (arith, a.0), each-asks b bs l a.1))
    (cases_lt b 128)

asks-short : (k : ℕ) (bs : List ℕ) → (length bs < k) × All (λ b. 128 ≤ b) bs → digits k bs ≡ Err Short
asks-short zero bs a = absurd (omega (arith, a.0))
asks-short (suc k) [] a = digits-nil k
asks-short (suc k) (b ∷ bs) a =
    digits_more k b bs (a.1 0 0 (omega arith))
    ∙ ap (more b) (asks-short k bs (omega (arith, a.0), λ i d t. a.1 (suc i) d (omega arith)))

-- what is short stays so where something is done with a value
then-short : {A B : Type 0} (d : Result A Cause) (f : A → Result B Cause) →
    ((x : A) → f x ≡ Err Short → ⊥) → (d >>= f) ≡ Err Short → d ≡ Err Short
then-short (Ok x) f never e = absurd (never x e)
then-short (Err c) f never e = let q : c ≡ Short = cc in ap Err q

judged-short : {A : Type 0} (b : Bool) (x : A) → (need b Wide >> Ok x) ≡ Err Short → ⊥
judged-short true x e = absurd (cc)
judged-short false x e = absurd (cc)

module _ (bs : List ℕ) where
  unsigned-short : unsigned bs ≡ Err Short ↔ EndsEarly bs
  unfolding unsigned
  unsigned-short = (
    λ e. short-asks 10 bs (then-short (digits 10 bs) _ (λ p q. judged-short (nat_lt p.0 (2 ^ 64)) p q) e),
    λ a. rw (asks-short 10 bs a),
  )

  signed-short : signed bs ≡ Err Short ↔ EndsEarly bs
  unfolding signed
  signed-short = (
    λ e. short-asks 10 bs
        (then-short (digits 10 bs) _
        (λ p q. judged-short (nat_lt (mag (complement p.0 p.1)) (2 ^ 63)) (complement p.0 p.1, p.1) q) e),
    λ a. rw (asks-short 10 bs a),
  )

module _ (s : List ℕ) (at : ℕ) where
  pub unsigned_at_short : (unsigned_at s at ≡ Err Short) ↔ EndsEarly (drop at s)
  unfolding unsigned_at
  unsigned_at_short = (
    λ e. (unsigned-short (drop at s)).0 (then-short (unsigned (drop at s)) _ (λ p q. absurd (cc)) e),
    λ a. rw ((unsigned-short (drop at s)).1 a),
  )

  pub signed_at_short : (signed_at s at ≡ Err Short) ↔ EndsEarly (drop at s)
  unfolding signed_at
  signed_at_short = (
    λ e. (signed-short (drop at s)).0 (then-short (signed (drop at s)) _ (λ p q. absurd (cc)) e),
    λ a. rw ((signed-short (drop at s)).1 a),
  )
