-- What `unsigned_at` answers, from what it has read: one law for each way out.
-- Assumes nothing.
use Rattle.std.proofs.Common.{◌≡◌, ℕ, ◌+◌, ◌*◌, ◌^◌, ◌<◌, ◌≤◌, ◌⊎◌, List, length, get_or, drop, ap, ⊎_elim}
use Rattle.std.proofs.Common.{◌-◌, ◌∙◌, inr, mul-le-mul_right, arith, le-ltb, lt-ltb, Ok, Err}
use Rattle.gsym_leb128.specs.declared.Cause.TheVariants.{Short, Wide}
use Rattle.gsym_leb128.specs.Leb.{digits, unsigned}
use Rattle.gsym_leb128.specs.Answers.{unsigned_at}
use Rattle.gsym_leb128.specs.Begun.{Begun}
use Rattle.gsym_leb128.proofs.Ends.{Ends}
use Rattle.std.proofs.lemmas.Bool.{cases_lt}
use Rattle.gsym_leb128.proofs.Digits.{weight-le, weight-early, digit_room}
use Rattle.gsym_leb128.proofs.Turn.{begin, tenth, used-up, ends, too_long, after-one}

-- ---- by how the number ends

module _ (s : List ℕ) (at : ℕ) where
  plain-short : digits 10 (drop at s) ≡ Err Short → Err Short ≡ unsigned_at s at
  unfolding unsigned_at unsigned
  plain-short e = rw e

  plain-long : digits 10 (drop at s) ≡ Err Wide → Err Wide ≡ unsigned_at s at
  unfolding unsigned_at unsigned
  plain-long e = rw e

module _ {s : List ℕ} {at low w last next : ℕ} (h : Ends s at low w last next) where
  -- a tenth byte that fits is 0 or 1
  plain-room : (last ≤ 1) ⊎ (w < 2 ^ 63) → low + last * w < 2 ^ 64
  plain-room =
      ⊎_elim
      (λ (q : last ≤ 1).
      omega (arith, weight-le h.before w h.power 9 h.few, mul-le-mul_right w q, h.small))
      (λ (q : w < 2 ^ 63).
      omega (
        arith,
        (weight-early h.before w h.power h.few (λ e. omega (arith, e, q))).1,
        digit_room last w low 128 h.digit h.small,
      ))

  plain_value : low + last * w < 2 ^ 64 → Ok (low + last * w, next) ≡ unsigned_at s at
  unfolding unsigned_at unsigned
  plain_value f = rw (h.whole, lt-ltb _ _ f, h.place)

  plain-wide : w ≡ 2 ^ 63 → 1 < last → Err Wide ≡ unsigned_at s at
  unfolding unsigned_at unsigned
  plain-wide q t =
      let f : 2 ^ 64 ≤ low + last * w = omega (arith, ap (λ x. last * x) q) in
      rw (h.whole, le-ltb _ _ f)

-- ---- the ways out of the loop

module _ (s : List ℕ) (at low w i : ℕ) (h : Begun s at low w i) where
  pub plain-ended : length s ≤ i → Err Short ≡ unsigned_at s at
  plain-ended l = plain-short s at (used-up s at low w i h l)

  module _ (l : i < length s) where
    pub plain-last :
        get_or s i 0 < 128 → (get_or s i 0 ≤ 1) ⊎ (w < 2 ^ 63) →
        (low + get_or s i 0 * w < 2 ^ 64) × (Ok (low + get_or s i 0 * w, i + 1) ≡ unsigned_at s at)
    plain-last t o =
        let e = ends s at low w i h l t in
        let f = plain-room e o in
        (f, plain_value e f)

    pub plain-above : 2 ^ 63 ≤ w → 1 < get_or s i 0 → Err Wide ≡ unsigned_at s at
    plain-above q t =
        ⊎_elim
        (λ (p : get_or s i 0 < 128). plain-wide (ends s at low w i h l p) (tenth s at low w i h q) t)
        (λ (p : 128 ≤ get_or s i 0). plain-long s at (too_long s at low w i h l p (tenth s at low w i h q)))
        (cases_lt (get_or s i 0) 128)

-- ---- numbers of one byte and of two

module _ (s : List ℕ) (at : ℕ) (l : at < length s) where
  pub plain-one : get_or s at 0 < 128 → Ok (get_or s at 0, at + 1) ≡ unsigned_at s at
  plain-one t =
      let v : get_or s at 0 ≡ 0 + get_or s at 0 * 1 = omega arith in
      ap (λ x. Ok (x, at + 1)) v ∙ (plain-last s at 0 1 at (begin s at) l t (inr (omega arith))).1

  pub plain-two :
      get_or s at 0 < 256 → 128 ≤ get_or s at 0 → at + 1 < length s → get_or s (at + 1) 0 < 128 →
      Ok (get_or s at 0 - 128 + get_or s (at + 1) 0 * 128, at + 1 + 1) ≡ unsigned_at s at
  plain-two z f m t = (plain-last s at _ _ (at + 1) (after-one s at l z f) m t (inr (omega arith))).1
