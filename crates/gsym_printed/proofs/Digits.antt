-- Digits one at a time.
-- Assumes nothing.
use Rattle.std.proofs.Common.{◌≡◌, ℕ, ◌+◌, ◌*◌, ◌^◌, ◌<◌, ◌≤◌, List, length, get_or, drop, Some, None, refl, add-one}
use Rattle.std.proofs.Common.{drop-cons, lt-ltb, le-ltb}
use Rattle.std.proofs.Math.ListN.{drop_of_length-le}
use Rattle.gsym_printed.specs.Words.{digit_of, hex_onto}

pub hex-step : (v : ℕ) (xs : List ℕ) (i d : ℕ) → i < length xs → digit_of (get_or xs i 0) ≡ Some d → v < 2 ^ 60
    → hex_onto v (drop i xs) ≡ hex_onto (v * 16 + d) (drop (i + 1) xs)
unfolding hex_onto
hex-step v xs i d l e s = rw (drop-cons xs i 0 l, add-one i, e, lt-ltb v (2 ^ 60) s) refl

pub hex-bad : (v : ℕ) (xs : List ℕ) (i : ℕ) → i < length xs → digit_of (get_or xs i 0) ≡ None
    → hex_onto v (drop i xs) ≡ None
unfolding hex_onto
hex-bad v xs i l e = rw (drop-cons xs i 0 l, e) refl

pub hex-wide : (v : ℕ) (xs : List ℕ) (i d : ℕ) → i < length xs → digit_of (get_or xs i 0) ≡ Some d → 2 ^ 60 ≤ v
    → hex_onto v (drop i xs) ≡ None
unfolding hex_onto
hex-wide v xs i d l e s = rw (drop-cons xs i 0 l, e, le-ltb v (2 ^ 60) s) refl

pub hex-end : (v : ℕ) (xs : List ℕ) (i : ℕ) → length xs ≤ i → hex_onto v (drop i xs) ≡ Some v
unfolding hex_onto
hex-end v xs i l = rw (drop_of_length-le xs l) refl

-- for the search
pub ruleset digits = (hex-step, hex-bad, hex-wide, hex-end)
