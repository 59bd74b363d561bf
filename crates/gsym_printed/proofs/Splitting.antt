-- An input is its first word, and then the words of the bytes after it.
-- Assumes nothing.
use Rattle.std.proofs.Common.{◌≡◌, ℕ, suc, ◌<◌, ◌≤◌, Bool, true, false, List, [], ◌∷◌, ◌++◌, length, take, drop, refl}
use Rattle.std.proofs.Common.{sym, ap, ◌∙◌, arith, append_assoc, length-take}
use Rattle.std.specs.Prelude.{not}
use Rattle.std.proofs.lemmas.List.Sums.{prefix_len-le-length}
use Rattle.gsym_printed.specs.Words.{parts, ended, words_onto, words, blank_count, word_len}

nothing-after : {A : Type 0} (s : List A) → s ++ [] ≡ s
nothing-after [] = refl
nothing-after (x ∷ s) = ap (λ t. x ∷ t) (nothing-after s)

-- ---- the lengths, a byte at a time

blank-more : (b : ℕ) (s : List ℕ) → parts b ≡ true → blank_count (b ∷ s) ≡ suc (blank_count s)
unfolding blank_count
blank-more b s e = rw e (omega arith)

blank-stop : (b : ℕ) (s : List ℕ) → parts b ≡ false → blank_count (b ∷ s) ≡ 0
unfolding blank_count
blank-stop b s e = rw e refl

word-more : (b : ℕ) (s : List ℕ) → parts b ≡ false → word_len (b ∷ s) ≡ suc (word_len s)
unfolding word_len
word-more b s e = rw e (omega arith)

word-stop : (b : ℕ) (s : List ℕ) → parts b ≡ true → word_len (b ∷ s) ≡ 0
unfolding word_len
word-stop b s e = rw e refl

word-fits : (s : List ℕ) → word_len s ≤ length s
unfolding word_len
word-fits s = prefix_len-le-length (λ b. not (parts b)) s

-- ---- the words

-- bytes that part words, at the front, make none
skipped-by : (t : Bool) (b : ℕ) (s : List ℕ) → parts b ≡ t → words_onto [] s ≡ words_onto [] (drop (blank_count s) s)
    → words_onto [] (b ∷ s) ≡ words_onto [] (drop (blank_count (b ∷ s)) (b ∷ s))
unfolding words_onto
skipped-by true b s e h = rw (blank-more b s e, e) h
skipped-by false b s e h = rw (blank-stop b s e, e) refl

skipped : (s : List ℕ) → words_onto [] s ≡ words_onto [] (drop (blank_count s) s)
unfolding blank_count
skipped [] = refl
skipped (b ∷ s) = skipped-by (parts b) b s refl (skipped s)

-- behind them stands a word, or nothing
no-word-by : (t : Bool) (b : ℕ) (s : List ℕ) → parts b ≡ t
    → (word_len (drop (blank_count s) s) ≡ 0 → drop (blank_count s) s ≡ [])
    → word_len (drop (blank_count (b ∷ s)) (b ∷ s)) ≡ 0 → drop (blank_count (b ∷ s)) (b ∷ s) ≡ []
no-word-by true b s e h = rw (blank-more b s e) h
no-word-by false b s e h = rw (blank-stop b s e) (λ z. absurd (omega (arith, z, word-more b s e)))

no-word : (s : List ℕ) → word_len (drop (blank_count s) s) ≡ 0 → drop (blank_count s) s ≡ []
unfolding blank_count
no-word [] z = refl
no-word (b ∷ s) z = no-word-by (parts b) b s refl (no-word s) z

-- a word ends where a byte parts, or with the bytes
taken-by : (t : Bool) (w : List ℕ) (b : ℕ) (s : List ℕ) → parts b ≡ t
    → (words_onto (w ++ b ∷ []) s
    ≡ ended ((w ++ b ∷ []) ++ take (word_len s) s) ++ words_onto [] (drop (word_len s) s))
    → words_onto w (b ∷ s)
    ≡ ended (w ++ take (word_len (b ∷ s)) (b ∷ s)) ++ words_onto [] (drop (word_len (b ∷ s)) (b ∷ s))
unfolding words_onto
taken-by true w b s e h = rw (word-stop b s e, e, nothing-after w) refl
taken-by false w b s e h =
    rw (word-more b s e, e)
    (h ∙ ap (λ t. ended t ++ words_onto [] (drop (word_len s) s)) (append_assoc w (b ∷ []) (take (word_len s) s)))

taken : (w s : List ℕ) → words_onto w s ≡ ended (w ++ take (word_len s) s) ++ words_onto [] (drop (word_len s) s)
unfolding words_onto word_len
taken w [] = sym (nothing-after (ended (w ++ [])) ∙ ap ended (nothing-after w))
taken w (b ∷ s) = taken-by (parts b) w b s refl (taken (w ++ b ∷ []) s)

ended-some : (w : List ℕ) → 0 < length w → ended w ≡ w ∷ []
ended-some [] l = absurd (omega (arith, l))
ended-some (b ∷ w) l = refl

pub first_word : (s : List ℕ) (place len : ℕ) → place ≡ blank_count s → len ≡ word_len (drop place s) → 0 < len
    → words s ≡ take len (drop place s) ∷ words (drop len (drop place s))
unfolding words
first_word s place len p l h =
    let t = drop place s in
    let some : 0 < length (take len t) = omega (arith, length-take len t, word-fits t, l, h) in
    skipped s
    ∙ ap (λ k. words_onto [] (drop k s)) (sym p)
    ∙ taken [] t
    ∙ ap (λ k. ended (take k t) ++ words_onto [] (drop k t)) (sym l)
    ∙ ap (λ x. x ++ words_onto [] (drop len t)) (ended-some (take len t) some)

pub no_word : (s : List ℕ) (place : ℕ) → place ≡ blank_count s → 0 ≡ word_len (drop place s) → words s ≡ []
unfolding words words_onto
no_word s place p l =
    skipped s ∙ ap (λ t. words_onto [] t) (no-word s (ap (λ k. word_len (drop k s)) (sym p) ∙ sym l))
