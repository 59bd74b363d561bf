-- What a number that reads keeps to: it takes one to ten of the bytes there, and its value is in range.
-- Assumes nothing.
use Rattle.std.proofs.Common.{◌≡◌, ℕ, zero, suc, ◌^◌, ◌<◌, ◌≤◌, List, [], ◌∷◌, length, ℤ, sym, ap, ◌∙◌, ⊎_elim, arith}
use Rattle.std.proofs.Common.{ltb-true, Ok, Result}
use Rattle.std.proofs.lemmas.Bool.{cases_lt}
use lib.Signed.{mag}
use Rattle.gsym_reads.proofs.Steps.{bind_ok, need_ok, ok_is}
use Rattle.gsym_leb128.specs.declared.Cause.{Cause}
use Rattle.gsym_leb128.specs.Leb.{digits, complement, unsigned, signed}
use Rattle.gsym_leb128.proofs.Digits.{more, digits-zero, digits-nil, digits_last, digits_more}

-- ---- what a number was made of

pub more-inv :
    (b v n : ℕ) (d : Result (ℕ × ℕ) Cause) → more b d ≡ Ok (v, n) →
    (x : ℕ) × (m : ℕ) × (d ≡ Ok (x, m)) × (n ≡ suc m)
more-inv b v n d e =
    let i = bind_ok d _ (v, n) e in
    let p = ap (λ q. q.1) (ok_is _ _ i.2) in
    (i.0.0, i.0.1, i.1, omega arith)

-- ---- on a list

-- n bytes of `bs`, where k may be taken
pub record Taken (k : ℕ) (bs : List ℕ) (n : ℕ) : Type 0 where
  pub some : 1 ≤ n
  pub within : n ≤ length bs
  pub few : n ≤ k

pub digits-taken : (k : ℕ) (bs : List ℕ) (v n : ℕ) → digits k bs ≡ Ok (v, n) → Taken k bs n
digits-taken zero bs v n e = absurd (cc (digits-zero bs))
digits-taken (suc k) [] v n e = absurd (cc (digits-nil k))
digits-taken (suc k) (b ∷ bs) v n e =
    ⊎_elim
    (λ (l : b < 128).
    let q = ap (λ q. q.1) (ok_is _ _ (sym (digits_last k b bs l) ∙ e)) in
    record { some = omega arith; within = omega arith; few = omega arith })
    (λ (l : 128 ≤ b).
    let i = more-inv b v n (digits k bs) (sym (digits_more k b bs l) ∙ e) in
    let t = digits-taken k bs i.0 i.1 i.2 in
    record {
      some = omega (arith, i.3);
      within = omega (arith, i.3, t.within);
      few = omega (arith, i.3, t.few);
    })
    (cases_lt b 128)

module _ (bs : List ℕ) (n : ℕ) where
  pub unsigned-inv : (v : ℕ) → unsigned bs ≡ Ok (v, n) → (digits 10 bs ≡ Ok (v, n)) × (v < 2 ^ 64)
  unfolding unsigned
  unsigned-inv v e =
      let d = bind_ok (digits 10 bs) _ (v, n) e in
      let t = need_ok _ _ _ (v, n) d.2 in
      let p = ok_is _ _ t.1 in
      let y : d.0.0 ≡ v = ap (λ q. q.0) p in
      let l : d.0.0 < 2 ^ 64 = ltb-true _ _ t.0 in
      (d.1 ∙ ap Ok p, omega arith)

  pub signed-inv :
      (z : ℤ) → signed bs ≡ Ok (z, n) → (v : ℕ) × (digits 10 bs ≡ Ok (v, n)) × (complement v n ≡ z) × (mag z < 2 ^ 63)
  unfolding signed
  signed-inv z e =
      let d = bind_ok (digits 10 bs) _ (z, n) e in
      let t = need_ok _ _ _ (z, n) d.2 in
      let p = ok_is _ _ t.1 in
      let m : d.0.1 ≡ n = ap (λ q. q.1) p in
      let y : complement d.0.0 d.0.1 ≡ z = ap (λ q. q.0) p in
      let l : mag (complement d.0.0 d.0.1) < 2 ^ 63 = ltb-true _ _ t.0 in
      (d.0.0, d.1 ∙ ap (λ k. Ok (d.0.0, k)) m, ap (complement d.0.0) (sym m) ∙ y, rw y at l)

  pub unsigned-taken : (v : ℕ) → unsigned bs ≡ Ok (v, n) → Taken 10 bs n
  unsigned-taken v e = digits-taken 10 bs v n (unsigned-inv v e).0

  pub signed-taken : (z : ℤ) → signed bs ≡ Ok (z, n) → Taken 10 bs n
  signed-taken z e = let i = signed-inv z e in digits-taken 10 bs i.0 n i.1

  pub unsigned-lt : (v : ℕ) → unsigned bs ≡ Ok (v, n) → v < 2 ^ 64
  unsigned-lt v e = (unsigned-inv v e).1

  pub signed-lt : (z : ℤ) → signed bs ≡ Ok (z, n) → mag z < 2 ^ 63
  signed-lt z e = (signed-inv z e).3
