-- Reading what was written gives it back, at every width and wherever it was written; and the widths that are read.
-- Assumes nothing.
use Rattle.std.proofs.Common.{◌≡◌, ℕ, zero, suc, ◌+◌, ◌*◌, ◌/◌, ◌%◌, ◌^◌, ◌<◌, ◌≤◌, List, [], ◌∷◌, ◌++◌, Some}
use Rattle.std.proofs.Common.{refl, ap, sym, ◌∙◌, ⊎_elim, length, take, drop, length-append, length-drop, pow-suc}
use Rattle.std.proofs.Common.{arith, le-leb, le-ltb, lt-ltb}
use Rattle.std.proofs.Math.Nat.{div-one, div-div-eq-div-mul}
use Rattle.std.proofs.lemmas.Bool.{cases_lt, lt-leb}
use Rattle.std.specs.Int.{Width, byte_len, byte_at, bytes_low_first, to_le_bytes}
use lib.Seq.{drop-append_seam, take-append_seam}
use Rattle.gsym_reads.specs.Fronts.{byte_front, u16_front, u32_front, u64_front}
use Rattle.gsym_reads.specs.Answers.{value_of, u8_at, u16_at, u32_at, u64_at}
use Rattle.gsym_reads.proofs.Bytes.{le, le_in, le_at, le_of}
use Rattle.gsym_reads.proofs.Places.{there}
use Rattle.gsym_reads.proofs.Window.{window-is, le-two, le-four, le-eight}

-- as many bytes are written as the width says
pub length-le_of : (width v : ℕ) → length (le_of width v) ≡ width
unfolding le_of
length-le_of zero v = refl
length-le_of (suc width) v = ap suc (length-le_of width (v / 256))

-- the bytes that say a number say that number
pub le-le_of : (width v : ℕ) → v < 256 ^ width → le (le_of width v) ≡ v
unfolding le le_of
le-le_of zero v h = omega arith
le-le_of (suc width) v h =
    let e : le (le_of width (v / 256)) ≡ v / 256 = le-le_of width (v / 256) (less (rw pow-suc at h)) in
    omega arith
  where
    less : v < 256 ^ width * 256 → v / 256 < 256 ^ width
    less g = omega arith

-- a number that was written between any bytes reads as itself at the place where it was written
pub read-written :
    (before after : List ℕ) (width v : ℕ) → v < 256 ^ width →
    le_at width (before ++ (le_of width v ++ after)) (length before) ≡ Some v
read-written before after width v h =
    let l : length (before ++ (le_of width v ++ after)) ≡ length before + (width + length after) =
    simp (length-append, length-le_of) in
    there (before ++ (le_of width v ++ after)) (length before) width (omega arith) ∙ ap Some (said ∙ le-le_of width v h)
  where
    said : le (take width (drop (length before) (before ++ (le_of width v ++ after)))) ≡ le (le_of width v)
    said =
        rw drop-append_seam (ap (λ l. le (take l (le_of width v ++ after))) (sym (length-le_of width v))
        ∙ ap le (take-append_seam (le_of width v) after))

-- ---- what std writes of a number

byte_is : (i v : ℕ) → byte_at i v ≡ v / 256 ^ i % 256
byte_is zero v = omega arith
byte_is (suc i) v = refl

cons_same : (a b : ℕ) (s t : List ℕ) → a ≡ b → s ≡ t → a ∷ s ≡ b ∷ t
cons_same a b s t e f = cc

bytes_from : (i width v : ℕ) → bytes_low_first i width v ≡ le_of width (v / 256 ^ i)
unfolding le_of
bytes_from i zero v = refl
bytes_from i (suc width) v =
    cons_same _ _ _ _ (byte_is i v)
    (bytes_from (suc i) width v
    ∙ ap (λ m. le_of width (v / m)) (pow-suc 256 i)
    ∙ ap (le_of width) (sym (div-div-eq-div-mul v (256 ^ i) 256)))

-- std's bytes of a number are those that say it, at every width
pub to_le_bytes_is : (w : Width) (v : ℕ) → to_le_bytes w v ≡ le_of (byte_len w) v
to_le_bytes_is w v = bytes_from 0 (byte_len w) v ∙ ap (le_of (byte_len w)) (div-one v)

-- ---- what is read at a place

one_is : (bs : List ℕ) → value_of (byte_front bs) ≡ le_in 1 bs
unfolding byte_front le_in le
one_is [] = refl
one_is (b ∷ bs) =
    let m : 1 ≤ suc (length bs) = omega arith in
    let e : b ≡ b + 256 * 0 = omega arith in
    rw (le-leb _ _ m) (ap Some e)

module _ (s : List ℕ) (at : ℕ) where
  -- a read of one byte gives the number at that place, of that width
  pub u8_at_is : u8_at s at ≡ le_at 1 s at
  unfolding u8_at
  u8_at_is = one_is (drop at s)

  -- a read of two bytes gives the number at that place, of that width
  pub u16_at_is : u16_at s at ≡ le_at 2 s at
  unfolding u16_at u16_front le_in
  u16_at_is =
      ⊎_elim
      (λ (l : length (drop at s) < 2). rw (lt-ltb _ _ l, lt-leb _ _ l) refl)
      (λ (l : 2 ≤ length (drop at s)).
      let e = window-is 2 s at (omega (arith, l, length-drop at s)) in
      rw (le-ltb _ _ l, le-leb _ _ l, e) (ap Some (le-two _ _)))
      (cases_lt (length (drop at s)) 2)

  -- a read of four bytes gives the number at that place, of that width
  pub u32_at_is : u32_at s at ≡ le_at 4 s at
  unfolding u32_at u32_front le_in
  u32_at_is =
      ⊎_elim
      (λ (l : length (drop at s) < 4). rw (lt-ltb _ _ l, lt-leb _ _ l) refl)
      (λ (l : 4 ≤ length (drop at s)).
      let e = window-is 4 s at (omega (arith, l, length-drop at s)) in
      rw (le-ltb _ _ l, le-leb _ _ l, e) (ap Some (le-four _ _ _ _)))
      (cases_lt (length (drop at s)) 4)

  -- a read of eight bytes gives the number at that place, of that width
  pub u64_at_is : u64_at s at ≡ le_at 8 s at
  unfolding u64_at u64_front le_in
  u64_at_is =
      ⊎_elim
      (λ (l : length (drop at s) < 8). rw (lt-ltb _ _ l, lt-leb _ _ l) refl)
      (λ (l : 8 ≤ length (drop at s)).
      let e = window-is 8 s at (omega (arith, l, length-drop at s)) in
      rw (le-ltb _ _ l, le-leb _ _ l, e) (ap Some (le-eight _ _ _ _ _ _ _ _)))
      (cases_lt (length (drop at s)) 8)
