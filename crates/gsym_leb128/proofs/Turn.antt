-- A loop over the bytes of a number: what it has read, one more byte, its ways out, and the first two bytes before it.
-- Assumes nothing.
use Rattle.std.proofs.Common.{◌≡◌, ℕ, suc, ◌+◌, ◌-◌, ◌*◌, ◌^◌, ◌<◌, ◌≤◌, List, ◌∷◌, length, get_or, drop, refl, ap, ◌∙◌}
use Rattle.std.proofs.Common.{mul_assoc, add-mul, pow-suc, add-one, arith, drop_of_length-le, drop-cons, Result, Ok}
use Rattle.std.proofs.Common.{Err}
use Rattle.gsym_leb128.specs.declared.Cause.{Cause}
use Rattle.gsym_leb128.specs.declared.Cause.TheVariants.{Short, Wide}
use Rattle.gsym_leb128.specs.Leb.{digits}
use Rattle.gsym_leb128.specs.Begun.{onto, Begun}
use Rattle.gsym_leb128.proofs.Ends.{Ends}
use Rattle.gsym_leb128.proofs.Digits.{
  more,
  digits-zero,
  digits-nil,
  digits_last,
  digits_more,
  weight-le,
  weight-tenth,
  weight-early,
  digit_room,
}

onto-none : (d : Result (ℕ × ℕ) Cause) → d ≡ onto 0 1 0 d
onto-none (Ok (v, m)) = let e : v ≡ 0 + v * 1 = omega arith in let f : m ≡ 0 + m = omega arith in cc
onto-none (Err e) = refl

onto-more :
    (low w n b : ℕ) (d : Result (ℕ × ℕ) Cause) →
    onto low w n (more b d) ≡ onto (low + (b - 128) * w) (w * 128) (n + 1) d
onto-more low w n b (Ok (v, m)) =
    let p : low + (b - 128 + 128 * v) * w ≡ low + (b - 128) * w + v * (w * 128) =
    omega (arith, add-mul (b - 128) (128 * v) w, mul_assoc 128 v w, mul_assoc v w 128) in
    let q : n + (1 + m) ≡ n + 1 + m = omega arith in
    rw (p, q)
onto-more low w n b (Err e) = refl

pub begin : (s : List ℕ) (at : ℕ) → Begun s at 0 1 at
begin s at =
    record {
      passed = 0;
      few = omega arith;
      place = omega arith;
      power = refl;
      small = omega arith;
      rest = onto-none (digits 10 (drop at s));
    }

module _ (s : List ℕ) (at low w i : ℕ) (h : Begun s at low w i) where
  -- only the tenth byte counts so much
  pub tenth : 2 ^ 63 ≤ w → w ≡ 2 ^ 63
  tenth q = omega (arith, weight-le h.passed w h.power 9 h.few)

  pub used-up : length s ≤ i → digits 10 (drop at s) ≡ Err Short
  used-up l = rw (h.rest, drop_of_length-le s l, digits-nil)

  module _ (l : i < length s) where
    here : drop i s ≡ get_or s i 0 ∷ drop (i + 1) s
    here = rw add-one (drop-cons s i 0 l)

    pub ends : get_or s i 0 < 128 → Ends s at low w (get_or s i 0) (i + 1)
    ends t =
        record {
          before = h.passed;
          few = h.few;
          power = h.power;
          small = h.small;
          digit = t;
          place = omega arith;
          whole = rw (h.rest, here, digits_last (9 - h.passed) (get_or s i 0) (drop (i + 1) s) t);
        }

    asks :
        128 ≤ get_or s i 0 →
        digits 10 (drop at s) ≡ onto low w h.passed (more (get_or s i 0) (digits (9 - h.passed) (drop (i + 1) s)))
    asks t = rw (h.rest, here, digits_more (9 - h.passed) (get_or s i 0) (drop (i + 1) s) t)

    pub too_long : 128 ≤ get_or s i 0 → w ≡ 2 ^ 63 → digits 10 (drop at s) ≡ Err Wide
    too_long t q =
        let n : 9 - h.passed ≡ 0 = omega (arith, weight-tenth h.passed w h.power h.few q) in
        rw (asks t, n, digits-zero)

    module _ (z : get_or s i 0 < 256) (t : 128 ≤ get_or s i 0) (q : w ≡ 2 ^ 63 → ⊥) where
      early : (h.passed ≤ 8) × (w ≤ 2 ^ 56)
      early = weight-early h.passed w h.power h.few q

      room : low + (get_or s i 0 - 128) * w < 128 * w
      room = digit_room (get_or s i 0 - 128) w low 128 (omega arith) h.small

      more-read : Begun s at (low + (get_or s i 0 - 128) * w) (w * 128) (i + 1)
      more-read =
          let b = get_or s i 0 in
          let d = drop (i + 1) s in
          let v = low + (b - 128) * w in
          let n : 9 - h.passed ≡ suc (9 - (h.passed + 1)) = omega (arith, early.0) in
          let r : digits 10 (drop at s) ≡ onto v (w * 128) (h.passed + 1) (digits (9 - h.passed) d) =
          asks t ∙ onto-more low w h.passed b (digits (9 - h.passed) d) in
          record {
            passed = h.passed + 1;
            few = omega (arith, early.0);
            place = omega arith;
            power = rw (add-one, pow-suc, h.power);
            small = omega (arith, room);
            rest = r ∙ ap (λ k. onto v (w * 128) (h.passed + 1) (digits k d)) n;
          }

      pub goes_on :
          (low + (get_or s i 0 - 128) * w < 2 ^ 63)
          × (w * 128 ≤ 2 ^ 63)
          × Begun s at (low + (get_or s i 0 - 128) * w) (w * 128) (i + 1)
      goes_on = (omega (arith, room, early.1), omega (arith, early.1), more-read)

-- ---- the first two bytes, where they ask for another

-- what is read so far, by other names
pub read-as :
    {s : List ℕ} {at low w i low' w' i' : ℕ} → low' ≡ low → w' ≡ w → i' ≡ i → Begun s at low w i → Begun s at low' w' i'
read-as e f g h = rw (e, f, g) h

module _ (s : List ℕ) (at : ℕ) (l : at < length s) (z : get_or s at 0 < 256) (t : 128 ≤ get_or s at 0) where
  pub after-one : Begun s at (get_or s at 0 - 128) 128 (at + 1)
  after-one =
      read-as (omega arith) (omega arith) (omega arith)
      (goes_on s at 0 1 at (begin s at) l z t (λ e. omega (arith, e))).2

  pub after-two :
      at + 1 < length s → get_or s (at + 1) 0 < 256 → 128 ≤ get_or s (at + 1) 0 →
      Begun s at (get_or s at 0 - 128 + (get_or s (at + 1) 0 - 128) * 128) 16384 (at + 1 + 1)
  after-two m y u =
      read-as (omega arith) (omega arith) (omega arith)
      (goes_on s at _ _ (at + 1) after-one m y u (λ e. omega (arith, e))).2
