-- Tests on numbers and ranges of bytes.
-- Assumes nothing.
use Rattle.std.proofs.Common.{ℕ, ◌≤◌, ◌<◌, Bool, true, false, ◌≡◌, refl, arith, leb-true, leb-false, leb, if◌then◌else◌}
use mathlib.Core.Bool.{false≢true}
use borrow.Author.Tests.{lt-leb}
use Rattle.gsym_strtab.specs.Utf8.{range, within}

module _ (low high b : ℕ) where
  pub in-range : within (range low high) b ≡ true → (low ≤ b) × (b ≤ high)
  in-range e = go (leb low b) refl e
    where
      go : (t : Bool) → leb low b ≡ t → (if t then leb b high else false) ≡ true → (low ≤ b) × (b ≤ high)
      go true q e = (leb-true low b q, leb-true b high e)
      go false q e = absurd (false≢true e)

  pub below-range : b ≤ high → within (range low high) b ≡ false → b < low
  below-range l e = go (leb low b) refl e
    where
      go : (t : Bool) → leb low b ≡ t → (if t then leb b high else false) ≡ false → b < low
      go true q e = absurd (omega (arith, leb-false b high e))
      go false q e = leb-false low b q

  pub over-range : high < b → within (range low high) b ≡ false
  over-range l = rw (lt-leb b high l) (either (leb low b))
    where
      either : (t : Bool) → (if t then false else false) ≡ false
      either true = refl
      either false = refl
