-- What `signed_at` answers, from what it has read: one law for each way out.
-- Assumes nothing.
use Rattle.std.proofs.Common.{◌≡◌, ℕ, zero, suc, ◌+◌, ◌-◌, ◌*◌, ◌%◌, ◌^◌, ◌<◌, ◌≤◌, ◌⊎◌, List, length, get_or, drop, ℤ}
use Rattle.std.proofs.Common.{pos, negsuc, ◌-ℤ◌, sym, ap, ◌∙◌, inl, inr, ⊎_elim, mul-le-mul_right, mul_comm, add-mul}
use Rattle.std.proofs.Common.{pow-suc, add-one, arith, w64, to_z, of_z, le-ltb, lt-ltb, Ok, Err, Result, nat_lt}
use Rattle.gsym_leb128.specs.declared.Cause.{Cause}
use Rattle.gsym_leb128.specs.declared.Cause.TheVariants.{Short, Wide}
use lib.Signed.{mag}
use mir.ValLaws.{to_z_pos, to_z-neg, to_z-of_z}
use Rattle.gsym_reads.specs.Steps.{◌>>◌, need}
use Rattle.gsym_leb128.specs.Leb.{digits, complement, signed}
use Rattle.gsym_leb128.specs.Answers.{signed_at}
use Rattle.gsym_leb128.specs.Begun.{Begun}
use Rattle.gsym_leb128.proofs.Ends.{Ends}
use Rattle.std.proofs.lemmas.Bool.{cases_lt}
use Rattle.gsym_leb128.proofs.Digits.{weight-le, weight-early, digit_room}
use Rattle.gsym_leb128.proofs.Turn.{begin, tenth, used-up, ends, too_long, after-one}

-- ---- n groups with the digits x: of either sign, and in range or not

abbrev judged : ℕ → ℕ → Result (ℤ × ℕ) Cause
judged x n = do
  need (nat_lt (mag (complement x n)) (2 ^ 63)) Wide
  Ok (complement x n, n)

pub below-zero : (x p : ℕ) → x < p → pos x -ℤ pos p ≡ negsuc (p - suc x)
below-zero x zero h = absurd (omega arith)
below-zero x (suc p) h = rw (lt-ltb _ _ h)

module _ (x n : ℕ) where
  plus-fits : 2 * x < 128 ^ n → x < 2 ^ 63 → judged x n ≡ Ok (to_z w64 x, n)
  plus-fits h f = rw (lt-ltb _ _ h, to_z_pos w64 x f, lt-ltb _ _ f)

  plus-wide : 2 * x < 128 ^ n → 2 ^ 63 ≤ x → judged x n ≡ Err Wide
  plus-wide h f = rw (lt-ltb _ _ h, le-ltb _ _ f)

  module _ (k : ℕ) (h : 128 ^ n ≤ 2 * x) (e : 128 ^ n ≡ x + suc k) where
    -- k + 1 below zero
    below : pos x -ℤ pos (128 ^ n) ≡ negsuc k
    below = let d : 128 ^ n - suc x ≡ k = omega arith in below-zero x (128 ^ n) (omega arith) ∙ ap negsuc d

    minus-fits : k < 2 ^ 63 → judged x n ≡ Ok (to_z w64 (2 ^ 64 - suc k), n)
    minus-fits f = rw (le-ltb _ _ h, below, to_z-neg w64 k f, lt-ltb _ _ f)

    minus-wide : 2 ^ 63 ≤ k → judged x n ≡ Err Wide
    minus-wide f = rw (le-ltb _ _ h, below, le-ltb _ _ f)

-- ---- by how the number ends

-- a number that .cast_signed. made stands in the answer as it is
pub made :
    (r x : ℤ) (n : ℕ) (a : Result (ℤ × ℕ) Cause) →
    mag r < 2 ^ 63 → r ≡ x → Ok (x, n) ≡ a → Ok (to_z w64 (of_z w64 r), n) ≡ a
made r x n a f e q = ap (λ v. Ok (v, n)) (to_z-of_z w64 r (record { sfits = f }) ∙ e) ∙ q

module _ (s : List ℕ) (at : ℕ) where
  sign-short : digits 10 (drop at s) ≡ Err Short → Err Short ≡ signed_at s at
  unfolding signed_at signed
  sign-short e = rw e

  sign-long : digits 10 (drop at s) ≡ Err Wide → Err Wide ≡ signed_at s at
  unfolding signed_at signed
  sign-long e = rw e

module _ {s : List ℕ} {at low w last next : ℕ} (h : Ends s at low w last next) where
  found :
      (v : ℤ) → judged (low + last * w) (h.before + 1) ≡ Ok (v, h.before + 1) →
      Ok (v, next) ≡ signed_at s at
  unfolding signed_at signed
  found v e = rw (h.whole, e, h.place)

  refused : judged (low + last * w) (h.before + 1) ≡ Err Wide → Err Wide ≡ signed_at s at
  unfolding signed_at signed
  refused e = rw (h.whole, e)

  power : 128 ^ (h.before + 1) ≡ 128 * w
  power = rw (add-one, pow-suc, h.power) (mul_comm _ _)

  -- the digits and what is missing from them make all of the groups
  parts : (128 - last) * w + last * w ≡ 128 * w
  parts =
      let c : 128 - last + last ≡ 128 = omega (arith, h.digit) in
      sym (add-mul (128 - last) last w) ∙ ap (λ x. x * w) c

  -- a tenth byte that fits is 0 or 127
  module _ (o : (127 ≤ last) ⊎ ((last ≤ 0) ⊎ (w ≡ 2 ^ 63 → ⊥))) where
    sign-room : last < 64 → low + last * w < 2 ^ 63
    sign-room t =
        ⊎_elim
        (λ (q : 127 ≤ last). absurd (omega arith))
        (⊎_elim
        (λ (q : last ≤ 0).
        omega (arith, weight-le h.before w h.power 9 h.few, mul-le-mul_right w q, h.small))
        (λ (q : w ≡ 2 ^ 63 → ⊥).
        omega (
          arith,
          (weight-early h.before w h.power h.few q).1,
          digit_room last w low 128 h.digit h.small,
        )))
        o

    under-room : 64 ≤ last → ((128 - last) * w ≤ 2 ^ 63) × (low < (128 - last) * w)
    under-room t =
        let least : 1 ≤ 128 - last = omega (arith, h.digit) in
        let most : 128 - last ≤ 64 = omega arith in
        let room : (128 - last) * w ≤ 2 ^ 63 =
        ⊎_elim
        (λ (q : 127 ≤ last).
        let one : 128 - last ≤ 1 = omega arith in
        omega (arith, weight-le h.before w h.power 9 h.few, mul-le-mul_right w one))
        (⊎_elim
        (λ (q : last ≤ 0). absurd (omega arith))
        (λ (q : w ≡ 2 ^ 63 → ⊥).
        omega (arith, (weight-early h.before w h.power h.few q).1, mul-le-mul_right w most)))
        o in
        (room, omega (arith, mul-le-mul_right w least, h.small))

  sign-plus : last < 64 → low + last * w < 2 ^ 63 → Ok (to_z w64 (low + last * w), next) ≡ signed_at s at
  sign-plus t f =
      let m : last ≤ 63 = omega arith in
      found _ (plus-fits _ _ (omega (arith, power, mul-le-mul_right w m, h.small)) f)

  sign-minus :
      64 ≤ last → (128 - last) * w ≤ 2 ^ 63 → low < (128 - last) * w →
      Ok (to_z w64 (2 ^ 64 - 1 - ((128 - last) * w - low) + 1), next) ≡ signed_at s at
  sign-minus t f l =
      let k = (128 - last) * w - low - 1 in
      let b : 2 ^ 64 - suc k ≡ 2 ^ 64 - 1 - ((128 - last) * w - low) + 1 = omega arith in
      let d : 128 ^ (h.before + 1) ≡ low + last * w + suc k = omega (arith, power, parts) in
      found _
      (minus-fits (low + last * w) (h.before + 1) k (omega (arith, power, mul-le-mul_right w t)) d (omega arith)
      ∙ ap (λ x. Ok (to_z w64 x, h.before + 1)) b)

  sign-wide : w ≡ 2 ^ 63 → 0 < last → last < 127 → Err Wide ≡ signed_at s at
  sign-wide q y t =
      let m : last * w ≡ last * 2 ^ 63 = ap (λ x. last * x) q in
      let x = low + last * w in
      refused
      (⊎_elim
      (λ (p : last < 64). plus-wide x (h.before + 1) (omega (arith, power, h.small)) (omega arith))
      (λ (p : 64 ≤ last).
      minus-wide x (h.before + 1) (128 * w - suc x) (omega (arith, power)) (omega (arith, power, h.small))
      (omega (arith, h.small)))
      (cases_lt last 64))

-- ---- the ways out of the loop

module _ (s : List ℕ) (at low w i : ℕ) (h : Begun s at low w i) where
  pub signed-ended : length s ≤ i → Err Short ≡ signed_at s at
  signed-ended l = sign-short s at (used-up s at low w i h l)

  module _ (l : i < length s) where
    -- before the tenth byte
    module _ (q : w < 2 ^ 63) where
      other : w ≡ 2 ^ 63 → ⊥
      other e = omega (arith, e, q)

      signed-plus :
          get_or s i 0 < 64 →
          (low + get_or s i 0 * w < 2 ^ 63)
          × (Ok (to_z w64 (low + get_or s i 0 * w), i + 1) ≡ signed_at s at)
      signed-plus t =
          let e = ends s at low w i h l (omega arith) in
          let f = sign-room e (inr (inr other)) t in
          (f, sign-plus e t f)

      signed-minus :
          64 ≤ get_or s i 0 → get_or s i 0 < 128 →
          let least = (128 - get_or s i 0) * w in
          (least ≤ 2 ^ 63)
          × (low < least)
          × (Ok (to_z w64 (2 ^ 64 - 1 - (least - low) + 1), i + 1) ≡ signed_at s at)
      signed-minus t y =
          let e = ends s at low w i h l y in
          let f = under-room e (inr (inr other)) t in
          (f.0, f.1, sign-minus e t f.0 f.1)

      -- of either sign: the last seven bits count from -64 on
      pub signed-last :
          get_or s i 0 < 128 →
          let above = low + (get_or s i 0 + 64) % 128 * w in
          (above < 2 ^ 63)
          × (64 * w < 2 ^ 63)
          × ((bits : ℕ) → bits < 2 ^ 64 → (bits + 64 * w) % 2 ^ 64 ≡ above →
          Ok (to_z w64 bits, i + 1) ≡ signed_at s at)
      signed-last y =
          let b = get_or s i 0 in
          let e = ends s at low w i h l y in
          let early = (weight-early e.before w e.power e.few other).1 in
          let room = digit_room ((b + 64) % 128) w low 128 (omega arith) e.small in (
            omega (arith, early, room),
            omega (arith, early, e.small),
            λ bits f r.
                ⊎_elim
                (λ (t : b < 64).
                let seven : (b + 64) % 128 * w ≡ b * w + 64 * w = ap (λ x. x * w) (omega arith) ∙ add-mul b 64 w in
                let v : bits ≡ low + b * w = omega (arith, early, e.small, seven, r, (signed-plus t).0) in
                ap (λ x. Ok (to_z w64 x, i + 1)) v ∙ (signed-plus t).1)
                (λ (t : 64 ≤ b).
                let m = signed-minus t y in
                let one : b * w ≡ (b + 64) % 128 * w + 64 * w =
                ap (λ x. x * w) (omega arith) ∙ add-mul ((b + 64) % 128) 64 w in
                let v : bits ≡ 2 ^ 64 - 1 - ((128 - b) * w - low) + 1 =
                omega (arith, early, e.small, one, parts e, r, m.0, m.1) in
                ap (λ x. Ok (to_z w64 x, i + 1)) v ∙ m.2)
                (cases_lt b 64),
          )

    -- the tenth byte
    module _ (q : 2 ^ 63 ≤ w) where
      pub signed-tenth-clear : get_or s i 0 ≡ 0 → Ok (to_z w64 low, i + 1) ≡ signed_at s at
      signed-tenth-clear t =
          let e = ends s at low w i h l (omega arith) in
          let f = sign-room e (inr (inl (omega arith))) (omega arith) in
          let v : low ≡ low + get_or s i 0 * w = omega (arith, ap (λ x. x * w) t) in
          ap (λ x. Ok (to_z w64 x, i + 1)) v ∙ sign-plus e (omega arith) f

      pub signed-tenth-set :
          get_or s i 0 ≡ 127 →
          (low < 2 ^ 63) × (Ok (to_z w64 (low + 2 ^ 63), i + 1) ≡ signed_at s at)
      signed-tenth-set t =
          let e = ends s at low w i h l (omega arith) in
          let f = under-room e (inl (omega arith)) (omega arith) in
          let p : (128 - get_or s i 0) * w ≡ 1 * 2 ^ 63 =
          ap (λ x. (128 - x) * w) t ∙ ap (λ x. 1 * x) (tenth s at low w i h q) in
          let v : low + 2 ^ 63 ≡ 2 ^ 64 - 1 - ((128 - get_or s i 0) * w - low) + 1 = omega (arith, f.1, p) in (
            omega (arith, f.1, p),
            ap (λ x. Ok (to_z w64 x, i + 1)) v ∙ sign-minus e (omega arith) f.0 f.1,
          )

      pub signed-tenth-wide : (get_or s i 0 ≡ 0 → ⊥) → (get_or s i 0 ≡ 127 → ⊥) → Err Wide ≡ signed_at s at
      signed-tenth-wide n m =
          ⊎_elim
          (λ (p : get_or s i 0 < 128).
          sign-wide (ends s at low w i h l p) (tenth s at low w i h q) (omega (arith, n)) (omega (arith, m)))
          (λ (p : 128 ≤ get_or s i 0). sign-long s at (too_long s at low w i h l p (tenth s at low w i h q)))
          (cases_lt (get_or s i 0) 128)

-- ---- numbers of one byte and of two, whose last seven bits count from -64 on

module _ (s : List ℕ) (at : ℕ) (l : at < length s) (bits : ℕ) (f : bits < 2 ^ 64) where
  pub signed-one :
      get_or s at 0 < 128 → (bits + 64) % 2 ^ 64 ≡ (get_or s at 0 + 64) % 128 →
      Ok (to_z w64 bits, at + 1) ≡ signed_at s at
  signed-one t r = (signed-last s at 0 1 at (begin s at) l (omega arith) t).2 bits f (omega (arith, r))

  pub signed-two :
      get_or s at 0 < 256 → 128 ≤ get_or s at 0 → at + 1 < length s → get_or s (at + 1) 0 < 128 →
      (bits + 64 * 128) % 2 ^ 64 ≡ get_or s at 0 - 128 + (get_or s (at + 1) 0 + 64) % 128 * 128 →
      Ok (to_z w64 bits, at + 1 + 1) ≡ signed_at s at
  signed-two z g m t r = (signed-last s at _ _ (at + 1) (after-one s at l z g) m (omega arith) t).2 bits f r
