-- The bytes that `from_le_bytes` puts together, named one by one, are those at the place: one law for every width.
-- Assumes nothing.
use Rattle.std.proofs.Common.{◌≡◌, ℕ, zero, suc, ◌+◌, ◌≤◌, List, [], ◌∷◌, length, get_or, take, drop, refl, ap, arith}
use Rattle.std.proofs.Common.{add-zero, w16, w32, w64, drop-cons}
use Rattle.std.specs.Int.{from_le_bytes}
use Rattle.gsym_reads.proofs.Bytes.{le}

-- n bytes of s, from the k-th after `at` on
abbrev pub window : ℕ → List ℕ → ℕ → ℕ → List ℕ
window zero s at k = []
window (suc n) s at k = get_or s (at + k) 0 ∷ window n s at (k + 1)

window-from : (n : ℕ) (s : List ℕ) (at k : ℕ) → at + k + n ≤ length s → take n (drop (at + k) s) ≡ window n s at k
window-from zero s at k h = refl
window-from (suc n) s at k h =
    let e : drop (at + k) s ≡ get_or s (at + k) 0 ∷ drop (suc (at + k)) s = drop-cons s (at + k) 0 (omega arith) in
    let j : suc (at + k) ≡ at + (k + 1) = omega arith in
    rw (e, j) (ap (λ l. get_or s (at + k) 0 ∷ l) (window-from n s at (k + 1) (omega arith)))

-- the first n bytes from a place on are the window of n bytes there
pub window-is : (n : ℕ) (s : List ℕ) (at : ℕ) → at + n ≤ length s → take n (drop at s) ≡ window n s at 0
window-is n s at h = let e = window-from n s at 0 (omega arith) in rw add-zero at e

-- what std puts together of two bytes is what they say
pub le-two : (a b : ℕ) → from_le_bytes w16 (a ∷ b ∷ []) ≡ le (a ∷ b ∷ [])
unfolding le
le-two a b = omega arith

-- what std puts together of four bytes is what they say
pub le-four : (a b c d : ℕ) → from_le_bytes w32 (a ∷ b ∷ c ∷ d ∷ []) ≡ le (a ∷ b ∷ c ∷ d ∷ [])
unfolding le
le-four a b c d = omega arith

-- what std puts together of eight bytes is what they say
pub le-eight :
    (a b c d e f g h : ℕ) →
    from_le_bytes w64 (a ∷ b ∷ c ∷ d ∷ e ∷ f ∷ g ∷ h ∷ []) ≡ le (a ∷ b ∷ c ∷ d ∷ e ∷ f ∷ g ∷ h ∷ [])
unfolding le
le-eight a b c d e f g h = omega arith
