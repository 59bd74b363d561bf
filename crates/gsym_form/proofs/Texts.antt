-- The text whose quote is open, a byte or an escape at a time.
-- Assumes nothing.
use Rattle.std.proofs.Common.{◌≡◌, ◌≢◌, ℕ, ◌<◌, ◌≤◌, ◌⊎◌, inl, inr, List, [], ◌∷◌, ◌++◌, length, refl}
use Rattle.std.proofs.Common.{Option, Some, None, Ok, Err, ap, sym, ◌∙◌, arith, append_assoc}
use Rattle.std.proofs.lemmas.List.{append-nil}
use Rattle.std.proofs.lemmas.Bool.{ne_eqb, lt-ltb, le-ltb}
use Rattle.gsym_form.specs.declared.wrong.Wrong.TheVariants.{Text}
use Rattle.gsym_form.specs.Words.{open_text, open_words, nothing, slash, behind_byte}

-- a text that is behind these bytes
abbrev pub behind : List ℕ → Option (List ℕ × List ℕ) → Option (List ℕ × List ℕ)
behind bytes (Some (text, rest)) = Some (bytes ++ text, rest)
behind bytes None = None

-- the text of all is these bytes, and then the text of the rest
abbrev pub IsLeft : (all bytes rest : List ℕ) → Type 0
IsLeft all bytes rest = open_text nothing all ≡ behind bytes (open_text nothing rest)

next-by : (o : Option (List ℕ × List ℕ)) (b : ℕ) (bytes : List ℕ) →
    behind bytes (behind_byte b o) ≡ behind (bytes ++ b ∷ []) o
next-by (Some (text, rest)) b bytes = ap (λ t. Some (t, rest)) (sym (append_assoc bytes (b ∷ []) text))
next-by None b bytes = refl

module _ (all bytes : List ℕ) (b : ℕ) (rest : List ℕ) (left : IsLeft all bytes (b ∷ rest)) where
  -- the quote that closes it
  pub text-closed : b ≡ 34 → open_words all ≡ Ok (bytes, rest)
  unfolding open_text
  text-closed e = rw (left, e, append-nil) refl

  -- a byte that stands for itself
  pub text-byte : b ≢ 34 → b ≢ 92 → 32 ≤ b → b ≢ 127 → IsLeft all (bytes ++ b ∷ []) rest
  unfolding open_text
  text-byte q s c d =
      left
      ∙ rw (ne_eqb b 34 q, ne_eqb b 92 s, le-ltb b 32 c, ne_eqb b 127 d) (next-by (open_text nothing rest) b bytes)

  -- one that stands nowhere in a text
  pub text-control : b ≢ 34 → b ≢ 92 → (b < 32) ⊎ (b ≡ 127) → open_words all ≡ Err Text
  unfolding open_text
  text-control q s (inl c) = rw (left, ne_eqb b 34 q, ne_eqb b 92 s, lt-ltb b 32 c) refl
  text-control q s (inr e) = rw (left, e) refl

  -- an escape
  pub text-escaped : (x : ℕ) (after : List ℕ) → b ≡ 92 →
      open_text slash rest ≡ behind_byte x (open_text nothing after) →
      IsLeft all (bytes ++ x ∷ []) after
  unfolding open_text
  text-escaped x after e h = left ∙ rw (e, h) (next-by (open_text nothing after) x bytes)

  -- a backslash that escapes nothing
  pub text-slash : b ≡ 92 → open_text slash rest ≡ None → open_words all ≡ Err Text
  unfolding open_text
  text-slash e h = rw (left, e, h) refl

-- a text whose quote stays open
pub text-open : (all bytes rest : List ℕ) → IsLeft all bytes rest → length rest ≡ 0 → open_words all ≡ Err Text
unfolding open_text
text-open all bytes [] left e = rw left refl
text-open all bytes (b ∷ rest) left e = absurd (omega (arith, e))

pub ruleset texts = (text-closed, text-byte, text-control, text-escaped, text-slash, text-open)
