-- Runs of bytes in a range: each turn and way out of passing one, and what it passes of a string, a name and UTF-8.
-- Assumes nothing.
use Rattle.std.proofs.Common.{ℕ, suc, ◌+◌, ◌-◌, ◌≤◌, ◌<◌, Bool, true, false, List, [], ◌∷◌, ◌≡◌, refl, ap, sym, ◌∙◌}
use Rattle.std.proofs.Common.{length, get_or, drop, length-drop, drop_of_length-le, drop-cons, drop-drop, get_or-drop}
use Rattle.std.proofs.Common.{arith, Option, Some, None, if◌then◌else◌}
use Rattle.gsym_strtab.specs.Utf8.{Range, range, within, utf8}
use Rattle.gsym_strtab.specs.Steps.{run_len}
use Rattle.gsym_strtab.specs.Strings.{before_zero, text_in}
use Rattle.gsym_strtab.proofs.Ranges.{in-range, below-range, over-range}
use Rattle.gsym_strtab.proofs.Chars.{utf8-byte}
use Rattle.gsym_strtab.proofs.Passing.{Passed, begin, pass, ended, failed, longer, longer-none, longer-longer}
use Rattle.gsym_strtab.proofs.Passing.{text-begin, text-more, text-over, text-zero}

-- from at on, the bytes before i lie in the range
pub record Skipped (r : Range) (s : List ℕ) (at i : ℕ) : Type 0 where
  pub inside : i ≤ length s
  pub run : at + run_len r (drop at s) ≡ i + run_len r (drop i s)

module _ {r : Range} {s : List ℕ} {at i : ℕ} (h : Skipped r s at i) where
  pub skip : (j : ℕ) → j ≡ i + 1 → i < length s → within r (get_or s i 0) ≡ true → Skipped r s at j
  unfolding run_len
  skip j e l w =
      let q : run_len r (drop i s) ≡ suc (run_len r (drop (suc i) s)) = rw (drop-cons s i 0 l, w) in
      let p : suc i ≡ j = omega arith in
      let k : run_len r (drop (suc i) s) ≡ run_len r (drop j s) = ap (λ n. run_len r (drop n s)) p in
      record { inside = omega arith; run = omega (arith, h.run) }

  pub stop : i < length s → within r (get_or s i 0) ≡ false → i ≡ at + run_len r (drop at s)
  unfolding run_len
  stop l w =
      let q : run_len r (drop i s) ≡ 0 = rw (drop-cons s i 0 l, w) in
      omega (arith, h.run)

  pub over : length s ≤ i → i ≡ at + run_len r (drop at s)
  unfolding run_len
  over l =
      let q : run_len r (drop i s) ≡ 0 = rw (drop_of_length-le s l) in
      omega (arith, h.run)

  pub rest : (e : ℕ) → e ≡ i + run_len r (drop i s) → e ≡ at + run_len r (drop at s)
  rest e q = omega (arith, h.run)

-- no byte from 1 to 7f stands where one beyond ASCII does
pub beyond_ascii : (s : List ℕ) (i : ℕ) → i < length s → 0x80 ≤ get_or s i 0 → i ≡ i + run_len (range 1 0x7f) (drop i s)
unfolding run_len
beyond_ascii s i l b =
    let e : run_len (range 1 0x7f) (drop i s) ≡ 0 =
    rw (drop-cons s i 0 l, over-range 1 0x7f (get_or s i 0) (omega arith)) in
    omega arith

-- ------------------------------------------------------------------------------------------------
-- where a run ends

run-last : (r : Range) (bs : List ℕ) → run_len r bs < length bs → within r (get_or bs (run_len r bs) 0) ≡ false
unfolding run_len
run-last r [] h = absurd (omega arith)
run-last r (b ∷ bs) h = go (run-last r bs) (within r b) refl h
  where
    go : (run_len r bs < length bs → within r (get_or bs (run_len r bs) 0) ≡ false) →
        (t : Bool) → within r b ≡ t → (if t then suc (run_len r bs) else 0) < suc (length bs) →
        within r (get_or (b ∷ bs) (if t then suc (run_len r bs) else 0) 0) ≡ false
    go i true q l = i (omega arith)
    go i false q l = q

module _ (r : Range) (s : List ℕ) (i j : ℕ) (e : j ≡ i + run_len r (drop i s)) where
  run-stops : j < length s → within r (get_or s j 0) ≡ false
  run-stops l =
      ap (λ k. within r (get_or s k 0)) e ∙ ap (within r) (sym (get_or-drop i s (run_len r (drop i s)) 0))
      ∙ run-last r (drop i s) (omega (arith, length-drop i s))

-- ------------------------------------------------------------------------------------------------
-- what a run passes

module _ {A : Type 0} (r : Range) (read : List ℕ → A) where
  -- a reader for which a byte in the range may be left out
  run-same : ((b : ℕ) (bs : List ℕ) → within r b ≡ true → read (b ∷ bs) ≡ read bs) →
      (bs : List ℕ) → read bs ≡ read (drop (run_len r bs) bs)
  unfolding run_len
  run-same h [] = refl
  run-same h (b ∷ bs) = go (run-same h bs) (within r b) refl
    where
      go : read bs ≡ read (drop (run_len r bs) bs) → (t : Bool) → within r b ≡ t →
          read (b ∷ bs) ≡ read (drop (if t then suc (run_len r bs) else 0) (b ∷ bs))
      go i true q = h b bs q ∙ i
      go i false q = refl

-- a reader for which it counts as one byte
module _ (r : Range) (read : List ℕ → Option ℕ)
    (h : (b : ℕ) (bs : List ℕ) → within r b ≡ true → read (b ∷ bs) ≡ longer 1 (read bs)) where
  run-longer : (bs : List ℕ) → read bs ≡ longer (run_len r bs) (read (drop (run_len r bs) bs))
  unfolding run_len
  run-longer [] = longer-none (read [])
  run-longer (b ∷ bs) = go (run-longer bs) (within r b) refl
    where
      go : read bs ≡ longer (run_len r bs) (read (drop (run_len r bs) bs)) → (t : Bool) → within r b ≡ t →
          read (b ∷ bs) ≡ longer (if t then suc (run_len r bs) else 0)
          (read (drop (if t then suc (run_len r bs) else 0) (b ∷ bs)))
      go i true q =
          let e : 1 + run_len r bs ≡ suc (run_len r bs) = omega arith in
          h b bs q ∙ ap (longer 1) i ∙ longer-longer 1 (run_len r bs) (read (drop (run_len r bs) bs))
          ∙ ap (λ k. longer k (read (drop (run_len r bs) bs))) e
      go i false q = longer-none (read (b ∷ bs))

  pub pass-run : {whole : Option ℕ} {s : List ℕ} {at i : ℕ} → Passed whole read s at i →
      (j : ℕ) → j ≡ i + run_len r (drop i s) → Passed whole read s at j
  pass-run {whole} {s} {at} {i} p j e =
      let n : ℕ = run_len r (drop i s) in
      rw e (pass p n (run-longer (drop i s) ∙ ap (λ l. longer n (read l)) (drop-drop n i s)))

-- ------------------------------------------------------------------------------------------------
-- a run of bytes that are not zero, in a string

text-byte : (b : ℕ) (bs : List ℕ) → within (range 1 0xff) b ≡ true → before_zero (b ∷ bs) ≡ longer 1 (before_zero bs)
text-byte b bs w = let i = in-range 1 0xff b w in text-more b bs (λ z. omega arith)

module _ (s : List ℕ) (at j : ℕ) (e : j ≡ at + run_len (range 1 0xff) (drop at s)) where
  text-passed : Passed (text_in s at) before_zero s at j
  text-passed = pass-run (range 1 0xff) before_zero text-byte (begin s at (text-begin s at)) j e

  pub text_endless : length s ≤ j → None ≡ text_in s at
  text_endless l = failed text-passed (text-over s j l)

  pub text_ended : j < length s → get_or s j 0 < 256 → Some (j - at) ≡ text_in s at
  text_ended l z =
      let b = below-range 1 0xff (get_or s j 0) (omega arith) (run-stops (range 1 0xff) s at j e l) in
      ended text-passed (text-zero s j l (omega arith))

pub text_outside : (s : List ℕ) (at : ℕ) → length s ≤ at → None ≡ text_in s at
text_outside s at l = sym (text-begin s at ∙ text-over s at l)

-- and one of bytes below 80, in UTF-8
pub utf8-run : (s : List ℕ) (i j : ℕ) → j ≡ i + run_len (range 1 0x7f) (drop i s) → utf8 (drop i s) ≡ utf8 (drop j s)
utf8-run s i j e =
    run-same (range 1 0x7f) utf8 utf8-byte (drop i s)
    ∙ ap utf8 (drop-drop (run_len (range 1 0x7f) (drop i s)) i s ∙ ap (λ k. drop k s) (sym e))
