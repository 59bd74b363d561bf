-- Bytes that are shown as they are.
-- Assumes nothing.
use Rattle.std.proofs.Common.{◌≡◌, ℕ, suc, ◌≤◌, Bool, true, false, List, [], ◌∷◌, ◌++◌, length, take, drop}
use Rattle.std.proofs.Common.{refl, sym, ap, ◌∙◌, arith}
use Rattle.std.proofs.Math.Dec.{leb-zero}
use Rattle.std.proofs.lemmas.Bool.{le-leb}
use Rattle.std.proofs.lemmas.Bool.Decides.{nat_tests}
use Rattle.std.specs.Prelude.{nat_le, ◌==◌, ◌||◌}
use Rattle.gsym_strtab.specs.Utf8.{sequence_len, utf8, octets, followers}
use Rattle.gsym_printed.specs.declared.view.Form.{Form}
use Rattle.gsym_printed.specs.declared.view.Form.TheVariants.{Lines, Pretty, Json}
use Rattle.gsym_printed.specs.Page.{put}
use Rattle.gsym_printed.specs.Pieces.{char_len, piece_len, is_control, is_mark, escaped_byte, escaped_piece, piece_text}
use Rattle.gsym_printed.specs.Pieces.{shown_text, is_bare, bare_len}
use Rattle.gsym_printed.proofs.Put.{put_append}
use Rattle.gsym_printed.proofs.Showing.{step-by}

-- ---- counting

bare-more : (b : ℕ) (s : List ℕ) → is_bare b ≡ true → bare_len (b ∷ s) ≡ suc (bare_len s)
unfolding bare_len
bare-more b s e = rw e (omega arith)

bare-stop : (b : ℕ) (s : List ℕ) → is_bare b ≡ false → bare_len (b ∷ s) ≡ 0
unfolding bare_len
bare-stop b s e = rw e refl

-- ---- one of them

low : (b : ℕ) → is_bare b ≡ true → b ≤ 127
unfolding is_bare
low b e = grind (arith, nat_tests)

one-byte : (b : ℕ) → b ≤ 127 → sequence_len b ≡ 1
unfolding sequence_len
one-byte b l = rw (leb-zero b, le-leb b 127 l) refl

alone : (b : ℕ) → b ≤ 127 → utf8 (b ∷ []) ≡ true
unfolding utf8 octets followers
alone b l = rw (leb-zero b, le-leb b 127 l) refl

ascii : (b : ℕ) (s : List ℕ) → b ≤ 127 → char_len (b ∷ s) ≡ 1
unfolding char_len
ascii b s l = rw (one-byte b l, le-leb 1 (length (b ∷ s)) (omega arith), alone b l) refl

uncontrolled : (b : ℕ) → is_bare b ≡ true → is_control b ≡ false
unfolding is_bare
uncontrolled b e = grind (arith, nat_tests)

unquoted : (b : ℕ) → is_bare b ≡ true → ((b == 34) || (b == 92)) ≡ false
unfolding is_bare
unquoted b e = grind (arith, nat_tests)

below : (b : ℕ) → is_bare b ≡ true → nat_le 128 b ≡ false
unfolding is_bare
below b e = grind (arith, nat_tests)

itself : (form : Form) (b : ℕ) → is_bare b ≡ true → piece_text form (b ∷ []) ≡ b ∷ []
unfolding is_mark escaped_piece escaped_byte
itself Lines b e = rw (uncontrolled b e) refl
itself Pretty b e = rw (uncontrolled b e) refl
itself Json b e = rw (below b e, uncontrolled b e, unquoted b e) refl

first : (form : Form) (b : ℕ) (s : List ℕ) → is_bare b ≡ true → shown_text form (b ∷ s) ≡ b ∷ shown_text form s
first form b s e =
    let p : piece_len (b ∷ s) ≡ 1 = omega (arith, ascii b s (low b e)) in
    step-by form b s 1 0 (sym p) refl refl ∙ ap (λ t. t ++ shown_text form s) (itself form b e)

-- ---- all at the front

run-by : (form : Form) (b : ℕ) (s : List ℕ) (t : Bool) → is_bare b ≡ t
    → shown_text form s ≡ take (bare_len s) s ++ shown_text form (drop (bare_len s) s)
    → shown_text form (b ∷ s) ≡ take (bare_len (b ∷ s)) (b ∷ s) ++ shown_text form (drop (bare_len (b ∷ s)) (b ∷ s))
run-by form b s true e h = rw (bare-more b s e) (first form b s e ∙ ap (λ t. b ∷ t) h)
run-by form b s false e h = rw (bare-stop b s e) refl

run : (form : Form) (s : List ℕ) → shown_text form s ≡ take (bare_len s) s ++ shown_text form (drop (bare_len s) s)
unfolding bare_len
run form [] = refl
run form (b ∷ s) = run-by form b s (is_bare b) refl (run form s)

pub shown_bare : (form : Form) (s : List ℕ) (page : List ℕ × ℕ)
    → put page (shown_text form s) ≡ put (put page (take (bare_len s) s)) (shown_text form (drop (bare_len s) s))
shown_bare form s page =
    ap (put page) (run form s) ∙ put_append page (take (bare_len s) s) (shown_text form (drop (bare_len s) s))
