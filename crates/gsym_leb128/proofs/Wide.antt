-- When a number is too wide.
-- Assumes nothing.
use Rattle.std.proofs.Common.{◌≡◌, ℕ, zero, suc, ◌+◌, ◌-◌, ◌*◌, ◌%◌, ◌^◌, ◌<◌, ◌≤◌, ◌↔◌, inl, inr, Bool, true, false}
use Rattle.std.proofs.Common.{List, [], ◌∷◌, All, length, get_or, take, drop, nat_lt, ℤ, sym, ap, ◌∙◌, ⊎_elim, arith}
use Rattle.std.proofs.Common.{refl, Ok, Err, Result, le-ltb, ltb-false, subst, slice_index}
use Rattle.std.proofs.lemmas.Bool.{cases_lt}
use lib.Signed.{mag}
use Rattle.gsym_reads.specs.Steps.{◌>>=◌, ◌>>◌, need}
use Rattle.gsym_leb128.specs.declared.Cause.{Cause}
use Rattle.gsym_leb128.specs.declared.Cause.TheVariants.{Short, Wide}
use Rattle.gsym_leb128.specs.Leb.{digits, complement, unsigned, signed}
use Rattle.gsym_leb128.specs.Answers.{unsigned_at, signed_at, value_of, IsWide, IsWideUnsigned, IsWideSigned}
use Rattle.gsym_leb128.proofs.Digits.{more, digits-zero, digits-nil, digits_last, digits_more, weight-le}
use Rattle.gsym_leb128.proofs.Taken.{more-inv, digits-taken}
use Rattle.gsym_leb128.proofs.Bytes.{each-asks}
use Rattle.gsym_leb128.proofs.Signs.{below-zero}
use Rattle.std.proofs.Common.{lt-ltb, get_or-drop}
use Rattle.gsym_reads.proofs.Steps.{ok_is}
use Rattle.std.proofs.Common.{pow-suc}

abbrev pub IsBytes : List ℕ → Type 0
IsBytes bs = (i : ℕ) → get_or bs i 0 < 256

-- k + 1 bytes are there, and the first k ask for another
abbrev Asking : ℕ → List ℕ → Type 0
Asking k bs = (suc k ≤ length bs) × All (λ b. 128 ≤ b) (take k bs)

asking-more : (k b : ℕ) (bs : List ℕ) → 128 ≤ b → Asking k bs → Asking (suc k) (b ∷ bs)
asking-more k b bs l a = (omega (arith, a.0), each-asks b (take k bs) l a.1)

asking-first : (k b : ℕ) (bs : List ℕ) → Asking (suc k) (b ∷ bs) → 128 ≤ b
asking-first k b bs a = a.1 0 0 (omega arith)

asking-rest : (k b : ℕ) (bs : List ℕ) → Asking (suc k) (b ∷ bs) → Asking k bs
asking-rest k b bs a = (omega (arith, a.0), λ i d t. a.1 (suc i) d (omega arith))

-- ---- the last of them asks for another too

more-wide : (b : ℕ) (d : Result (ℕ × ℕ) Cause) → more b d ≡ Err Wide → d ≡ Err Wide
more-wide b (Ok (v, n)) e = absurd (cc)
more-wide b (Err c) e = e

wide-asks : (k : ℕ) (bs : List ℕ) → digits (suc k) bs ≡ Err Wide → Asking k bs × (128 ≤ slice_index bs k)
wide-asks k [] e = absurd (cc (digits-nil k))
wide-asks zero (b ∷ bs) e =
    ⊎_elim
    (λ (l : b < 128). absurd (cc (digits_last 0 b bs l)))
    (λ (l : 128 ≤ b). ((omega arith, λ i d t. absurd (omega arith)), l))
    (cases_lt b 128)
wide-asks (suc k) (b ∷ bs) e =
    ⊎_elim
    (λ (l : b < 128). absurd (cc (digits_last (suc k) b bs l)))
    (λ (l : 128 ≤ b).
    let a = wide-asks k bs (more-wide b (digits (suc k) bs) (sym (digits_more (suc k) b bs l) ∙ e)) in
    (asking-more k b bs l a.0, a.1))
    (cases_lt b 128)

asks-wide : (k : ℕ) (bs : List ℕ) → Asking k bs → 128 ≤ slice_index bs k → digits (suc k) bs ≡ Err Wide
asks-wide k [] a l = absurd (omega (arith, a.0))
asks-wide zero (b ∷ bs) a l = digits_more 0 b bs l ∙ ap (more b) (digits-zero bs)
asks-wide (suc k) (b ∷ bs) a l =
    digits_more (suc k) b bs (asking-first k b bs a) ∙ ap (more b) (asks-wide k bs (asking-rest k b bs a) l)

-- ---- the last of them ends the number

more-is :
    (b v n : ℕ) (d : Result (ℕ × ℕ) Cause) → more b d ≡ Ok (v, n) →
    (x : ℕ) × (m : ℕ) × (d ≡ Ok (x, m)) × (n ≡ suc m) × (v ≡ b - 128 + 128 * x)
more-is b v n (Err c) e = absurd (cc)
more-is b v n (Ok (x, m)) e =
    let p = ok_is _ _ e in (x, m, refl, omega (arith, ap (λ q. q.1) p), sym (ap (λ q. q.0) p))

seven : (b : ℕ) → b < 256 → 128 ≤ b → b - 128 ≡ b % 128
seven b f l = omega arith

rest-bytes : (b : ℕ) (bs : List ℕ) → IsBytes (b ∷ bs) → IsBytes bs
rest-bytes b bs f i = f (suc i)

-- its digits come to what its bytes do
ended : (k : ℕ) (bs : List ℕ) → IsBytes bs → Asking k bs → slice_index bs k < 128 →
    digits (suc k) bs ≡ Ok (value_of (take (suc k) bs), suc k)
unfolding value_of
ended k [] f a l = absurd (omega (arith, a.0))
ended zero (b ∷ bs) f a l =
    let v : b ≡ b % 128 + 128 * 0 = omega arith in
    digits_last 0 b bs l ∙ ap (λ v. Ok (v, 1)) v
ended (suc k) (b ∷ bs) f a l =
    let t = asking-first k b bs a in
    let n : 1 + suc k ≡ suc (suc k) = omega arith in
    digits_more (suc k) b bs t ∙ ap (more b) (ended k bs (rest-bytes b bs f) (asking-rest k b bs a) l)
    ∙ ap (λ x. Ok (x + 128 * value_of (take (suc k) bs), 1 + suc k)) (seven b (f 0) t)
    ∙ ap (λ n. Ok (value_of (take (suc (suc k)) (b ∷ bs)), n)) n

ended-count :
    (k : ℕ) (bs : List ℕ) (v : ℕ) → digits (suc k) bs ≡ Ok (v, suc k) → Asking k bs × (slice_index bs k < 128)
ended-count k [] v e = absurd (cc (digits-nil k))
ended-count zero (b ∷ bs) v e =
    ⊎_elim
    (λ (l : b < 128). ((omega arith, λ i d t. absurd (omega arith)), l))
    (λ (l : 128 ≤ b).
    absurd (cc (sym (digits_more 0 b bs l ∙ ap (more b) (digits-zero bs)) ∙ e)))
    (cases_lt b 128)
ended-count (suc k) (b ∷ bs) v e =
    ⊎_elim
    (λ (l : b < 128). absurd (omega (arith, ap (λ q. q.1) (ok_is _ _ (sym (digits_last (suc k) b bs l) ∙ e)))))
    (λ (l : 128 ≤ b).
    let i = more-inv b v (suc (suc k)) (digits (suc k) bs) (sym (digits_more (suc k) b bs l) ∙ e) in
    let n : i.1 ≡ suc k = omega (arith, i.3) in
    let a = ended-count k bs i.0 (i.2 ∙ ap (λ n. Ok (i.0, n)) n) in
    (asking-more k b bs l a.0, a.1))
    (cases_lt b 128)

-- n bytes come to less than 128^n
room : (k : ℕ) (bs : List ℕ) (v n : ℕ) → IsBytes bs → digits k bs ≡ Ok (v, n) → v < 128 ^ n
room zero bs v n f e = absurd (cc (digits-zero bs))
room (suc k) [] v n f e = absurd (cc (digits-nil k))
room (suc k) (b ∷ bs) v n f e =
    ⊎_elim
    (λ (l : b < 128).
    let p = ok_is _ _ (sym (digits_last k b bs l) ∙ e) in
    let one : 128 ^ n ≡ 128 ^ 1 = ap (λ n. 128 ^ n) (sym (ap (λ q. q.1) p)) in
    omega (arith, ap (λ q. q.0) p, one, l))
    (λ (l : 128 ≤ b).
    let i = more-is b v n (digits k bs) (sym (digits_more k b bs l) ∙ e) in
    let r = room k bs i.0 i.1 (rest-bytes b bs f) i.2 in
    let p : 128 ^ n ≡ 128 ^ i.1 * 128 = ap (λ n. 128 ^ n) i.3 ∙ pow-suc 128 i.1 in
    omega (arith, r, p, i.4, f 0))
    (cases_lt b 128)

-- n bytes of more than 63 bits are ten
ten : (bs : List ℕ) (v n : ℕ) → IsBytes bs → digits 10 bs ≡ Ok (v, n) → (n ≤ 9 → ⊥) →
    Asking 9 bs × (slice_index bs 9 < 128) × (v ≡ value_of (take 10 bs))
ten bs v n f e o =
    let q : n ≡ 10 = omega (arith, (digits-taken 10 bs v n e).few, o) in
    let d : digits 10 bs ≡ Ok (v, 10) = e ∙ ap (λ n. Ok (v, n)) q in
    let a = ended-count 9 bs v d in
    (a.0, a.1, ap (λ q. q.0) (ok_is _ _ (sym d ∙ ended 9 bs f a.0 a.1)))

-- where a number is judged by its value and its length
module _ {A : Type 0} (judge : ℕ → ℕ → Bool) (what : ℕ → ℕ → A) (bs : List ℕ) (f : IsBytes bs)
    (early : (v n : ℕ) → v < 128 ^ n → n ≤ 9 → judge v n ≡ true)
    (outside : ℕ → Type 0) (is-outside : (v : ℕ) → (judge v 10 ≡ false) ↔ outside v) where
  abbrev judged : Result (ℕ × ℕ) Cause → Result A Cause
  judged d = do
    (v, n) ← d
    need (judge v n) Wide
    Ok (what v n)

  judged-wide : judged (digits 10 bs) ≡ Err Wide ↔ IsWide outside bs
  judged-wide = (go (digits 10 bs) refl, back)
    where
      go : (d : Result (ℕ × ℕ) Cause) → digits 10 bs ≡ d → judged d ≡ Err Wide → IsWide outside bs
      go (Err Short) e j = absurd (cc)
      go (Err Wide) e j = let a = wide-asks 9 bs e in (a.0.0, a.0.1, inl a.1)
      go (Ok (v, n)) e j = over (judge v n) refl j
        where
          over : (b : Bool) → judge v n ≡ b → (need b Wide >> Ok (what v n)) ≡ Err Wide →
              IsWide outside bs
          over true q j = absurd (cc)
          over false q j =
              let a = ten bs v n f e (λ l. let z = early v n (room 10 bs v n f e) l in absurd (cc)) in
              let n10 : n ≡ 10 = ap (λ q. q.1) (ok_is _ _ (sym e ∙ ended 9 bs f a.0 a.1)) in
              (a.0.0, a.0.1, inr ((is-outside _).0 (rw (sym a.2) (rw (sym n10) q))))

      back : IsWide outside bs → judged (digits 10 bs) ≡ Err Wide
      back w =
          ⊎_elim
          (λ (l : slice_index bs 9 < 128).
          ⊎_elim
          (λ (m : 128 ≤ slice_index bs 9). absurd (omega arith))
          (λ (o : outside (value_of (take 10 bs))).
          ap judged (ended 9 bs f (w.0, w.1) l) ∙ rw ((is-outside _).1 o))
          w.2)
          (λ (l : 128 ≤ slice_index bs 9). ap judged (asks-wide 9 bs (w.0, w.1) l))
          (cases_lt (slice_index bs 9) 128)

-- up to nine bytes fit into 64 bits, with a sign too
fits : (v n : ℕ) → v < 128 ^ n → n ≤ 9 → mag (complement v n) < 2 ^ 63
fits v n l few =
    ⊎_elim
    (λ (t : 2 * v < 128 ^ n). rw (lt-ltb _ _ t) (omega (arith, l, weight-le n (128 ^ n) refl 9 few)))
    (λ (t : 128 ^ n ≤ 2 * v).
    rw (le-ltb _ _ t, below-zero v (128 ^ n) l) (omega (arith, l, weight-le n (128 ^ n) refl 9 few)))
    (cases_lt (2 * v) (128 ^ n))

module _ (bs : List ℕ) (f : IsBytes bs) where
  unsigned-wide : unsigned bs ≡ Err Wide ↔ IsWideUnsigned bs
  unfolding unsigned
  unsigned-wide =
      judged-wide (λ v n. nat_lt v (2 ^ 64)) (λ v n. (v, n)) bs f
      (λ v n l few. lt-ltb _ _ (omega (arith, l, weight-le n (128 ^ n) refl 9 few)))
      (λ v. 2 ^ 64 ≤ v) (λ v. (λ e. ltb-false _ _ e, λ l. le-ltb _ _ l))

  signed-wide : signed bs ≡ Err Wide ↔ IsWideSigned bs
  unfolding signed
  signed-wide =
      judged-wide (λ v n. nat_lt (mag (complement v n)) (2 ^ 63)) (λ v n. (complement v n, n)) bs f
      (λ v n l few. lt-ltb _ _ (fits v n l few))
      (λ v. 2 ^ 63 ≤ mag (complement v 10)) (λ v. (λ e. ltb-false _ _ e, λ l. le-ltb _ _ l))

-- ---- at a place

then-wide : {A B : Type 0} (d : Result A Cause) (f : A → B) → (d >>= λ x. Ok (f x)) ≡ Err Wide → d ≡ Err Wide
then-wide (Ok x) f e = absurd (cc)
then-wide (Err c) f e = let q : c ≡ Wide = cc in ap Err q

dropped : (s : List ℕ) (at : ℕ) → IsBytes s → IsBytes (drop at s)
dropped s at f i = rw (get_or-drop at s i) (f (at + i))

module _ (s : List ℕ) (at : ℕ) (f : IsBytes s) where
  unsigned_at_wide : (unsigned_at s at ≡ Err Wide) ↔ IsWideUnsigned (drop at s)
  unfolding unsigned_at
  unsigned_at_wide =
      let w = unsigned-wide (drop at s) (dropped s at f) in
      (λ e. w.0 (then-wide (unsigned (drop at s)) _ e), λ h. rw (w.1 h))

  signed_at_wide : (signed_at s at ≡ Err Wide) ↔ IsWideSigned (drop at s)
  unfolding signed_at
  signed_at_wide =
      let w = signed-wide (drop at s) (dropped s at f) in
      (λ e. w.0 (then-wide (signed (drop at s)) _ e), λ h. rw (w.1 h))

  pub unsigned_wide-is :
      {r : Result (ℕ × ℕ) Cause} → r ≡ unsigned_at s at → (r ≡ Err Wide) ↔ IsWideUnsigned (drop at s)
  unsigned_wide-is e = subst (λ r. (r ≡ Err Wide) ↔ IsWideUnsigned (drop at s)) (sym e) unsigned_at_wide

  pub signed_wide-is :
      {r : Result (ℤ × ℕ) Cause} → r ≡ signed_at s at → (r ≡ Err Wide) ↔ IsWideSigned (drop at s)
  signed_wide-is e = subst (λ r. (r ≡ Err Wide) ↔ IsWideSigned (drop at s)) (sym e) signed_at_wide
