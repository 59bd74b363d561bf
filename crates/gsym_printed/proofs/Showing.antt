-- A text piece by piece.
-- Assumes nothing.
use Rattle.std.proofs.Common.{◌≡◌, ℕ, zero, suc, ◌-◌, ◌<◌, List, [], ◌∷◌, ◌++◌, length, take, drop, refl, ap, ◌∙◌}
use Rattle.std.proofs.Common.{arith}
use Rattle.gsym_printed.specs.declared.view.Form.{Form}
use Rattle.gsym_printed.specs.Page.{put}
use Rattle.gsym_printed.specs.Pieces.{piece_len, piece_text, shown_rest, shown_text}
use Rattle.gsym_printed.proofs.Put.{put_append}

-- bytes that are shown already may be left out
after-drop : (form : Form) (k : ℕ) (s : List ℕ) → shown_rest form k s ≡ shown_text form (drop k s)
unfolding shown_rest shown_text
after-drop form zero s = refl
after-drop form (suc k) [] = refl
after-drop form (suc k) (b ∷ s) = after-drop form k s

dropped : (b : ℕ) (s : List ℕ) (n m : ℕ) → n ≡ suc m → drop n (b ∷ s) ≡ drop m s
dropped b s n m e = rw e refl

-- the piece at the front, and then the rest
pub step-by : (form : Form) (b : ℕ) (s : List ℕ) (n m : ℕ) → n ≡ piece_len (b ∷ s) → m ≡ n - 1 → n ≡ suc m
    → shown_text form (b ∷ s) ≡ piece_text form (take n (b ∷ s)) ++ shown_text form (drop n (b ∷ s))
unfolding shown_rest shown_text
step-by form b s n m e d f =
    rw (dropped b s n m f, d, e)
    (ap (λ t. piece_text form (take (piece_len (b ∷ s)) (b ∷ s)) ++ t) (after-drop form (piece_len (b ∷ s) - 1) s))

pub shown_turn : (form : Form) (s : List ℕ) (page : List ℕ × ℕ) → 0 < length s
    → put page (shown_text form s)
    ≡ put (put page (piece_text form (take (piece_len s) s))) (shown_text form (drop (piece_len s) s))
shown_turn form [] page l = absurd (omega (arith, l))
shown_turn form (b ∷ s) page l =
    ap (put page) (step-by form b s (piece_len (b ∷ s)) (piece_len (b ∷ s) - 1) refl refl (omega arith))
    ∙ put_append page (piece_text form (take (piece_len (b ∷ s)) (b ∷ s)))
    (shown_text form (drop (piece_len (b ∷ s)) (b ∷ s)))

pub shown_end : (form : Form) (s : List ℕ) (page : List ℕ × ℕ) → length s ≡ 0 → put page (shown_text form s) ≡ page
unfolding shown_rest shown_text put
shown_end form [] page e = refl
shown_end form (b ∷ s) page e = absurd (omega (arith, e))
