-- The words of a printed line are read back: each stands behind a blank, and what is behind it is left.
-- Assumes nothing.
use Rattle.std.proofs.Common.{◌≡◌, ℕ, suc, ◌+◌, ◌/◌, ◌%◌, ◌^◌, ◌<◌, ◌≤◌, true, false, ◌==◌, List, [], ◌∷◌, ◌++◌, length}
use Rattle.std.proofs.Common.{drop, Some, None, Ok, Err, refl, sym, ap, ◌∙◌, arith, append_assoc, take_at, drop_at}
use Rattle.std.proofs.Common.{slice_index}
use Rattle.std.specs.Prelude.{decimal}
use Rattle.std.specs.List.{flat_map, prefix_len}
use Rattle.std.specs.Fmt.{digits}
use Rattle.std.proofs.lemmas.List.{append-nil}
use Rattle.std.proofs.lemmas.Bool.Decides.{nat_tests}
use Rattle.hex.specs.Hex.{hex_digit_value, lower_digits, encode_lower, encode_with, IsBytes, decode_of, decode_pairs}
use Rattle.hex.proofs.HexLemmas.{IsDigits-lower_digits, decode_of-encode_lower}
use Rattle.gsym_form.specs.declared.wrong.Wrong.TheVariants.{Number}
use Rattle.gsym_form.specs.Words.{is_blank, goes_on, next_word, is_empty, is_over, is_text, word, number_of, number}
use Rattle.gsym_form.specs.Words.{is_apart, text, hex}
use Rattle.gsym_form.specs.Printed.{text_byte, quoted, hexadecimal, bytes_behind}
use Rattle.gsym_form.proofs.Numerals.{is_plain, Digits, prints_decimal, number_decimal, number_hexadecimal}
use Rattle.gsym_form.proofs.Numerals.{prints_hexadecimal, number_above}
use Rattle.gsym_form.proofs.Quotes.{IsText, text_back}

-- ---- what a word is

abbrev pub AllPlain : List ℕ → Type 0
AllPlain [] = Unit {0}
AllPlain (b ∷ bs) = (is_plain b ≡ true) × AllPlain bs

pub record IsWord (w : List ℕ) : Type 0 where
  pub some : is_empty w ≡ false
  pub plain : AllPlain w

module _ (b : ℕ) (h : is_plain b ≡ true) where
  no_blank : is_blank b ≡ false
  unfolding is_plain
  no_blank = grind (arith, nat_tests)

  no_quote : (b == 34) ≡ false
  unfolding is_plain
  no_quote = grind (arith, nat_tests)

  no_sign : (b == 35) ≡ false
  unfolding is_plain
  no_sign = grind (arith, nat_tests)

-- ---- where a word begins and ends

drop_more_one : (n b : ℕ) (bs : List ℕ) → drop (1 + n) (b ∷ bs) ≡ drop n bs
drop_more_one n b bs = let e : 1 + n ≡ suc n = omega arith in rw e refl

pub next_blank : (bs : List ℕ) → next_word (32 ∷ bs) ≡ next_word bs
unfolding next_word
next_blank bs = drop_more_one (prefix_len is_blank bs) 32 bs

next_here : (b : ℕ) (bs : List ℕ) → is_blank b ≡ false → next_word (b ∷ bs) ≡ b ∷ bs
unfolding next_word
next_here b bs h = rw h refl

word_len : (w rest : List ℕ) → AllPlain w → is_apart rest ≡ true → prefix_len goes_on (w ++ rest) ≡ length w
word_len [] [] p a = refl
word_len [] (b ∷ bs) p a = rw a refl
word_len (b ∷ w) rest p a =
    let n = word_len w rest p.1 a in
    rw (no_blank b p.0) (omega (arith, n))

module _ (bs : List ℕ) where
  pub over_blank : is_over (32 ∷ bs) ≡ is_over bs
  unfolding is_over
  over_blank = rw (next_blank bs) refl

  pub text_blank : is_text (32 ∷ bs) ≡ is_text bs
  unfolding is_text
  text_blank = rw (next_blank bs) refl

  pub word_blank : word (32 ∷ bs) ≡ word bs
  unfolding word is_over is_text
  word_blank = rw (next_blank bs) refl

pub over_word : (w rest : List ℕ) → IsWord w → is_over (w ++ rest) ≡ false
unfolding is_over
over_word [] rest h = absurd cc
over_word (b ∷ w) rest h = rw (next_here b (w ++ rest) (no_blank b h.plain.0), no_sign b h.plain.0) refl

pub text_word : (w rest : List ℕ) → IsWord w → is_text (w ++ rest) ≡ false
unfolding is_text
text_word [] rest h = absurd cc
text_word (b ∷ w) rest h = rw (next_here b (w ++ rest) (no_blank b h.plain.0), no_quote b h.plain.0) refl

next_of_word : (w rest : List ℕ) → IsWord w → next_word (w ++ rest) ≡ w ++ rest
next_of_word [] rest h = absurd cc
next_of_word (b ∷ w) rest h = next_here b (w ++ rest) (no_blank b h.plain.0)

module _ (w rest : List ℕ) (h : IsWord w) (a : is_apart rest ≡ true) where
  pub word_front : word (w ++ rest) ≡ Some (w, rest)
  unfolding word
  word_front =
      rw (over_word w rest h, text_word w rest h, next_of_word w rest h, word_len w rest h.plain a)
      (ap (λ x. Some x) (ap (λ x. (x, drop (length w) (w ++ rest))) (take_at w rest (length w) refl)
      ∙ ap (λ x. (w, x)) (drop_at w rest (length w) refl)))

  pub number_front : (most n : ℕ) → number_of most w ≡ Some n → number most (32 ∷ (w ++ rest)) ≡ Ok (n, rest)
  unfolding number
  number_front most n q = rw (word_blank (w ++ rest), word_front, q) refl

  pub number_wrong : (most : ℕ) → number_of most w ≡ None → number most (32 ∷ (w ++ rest)) ≡ Err Number
  unfolding number
  number_wrong most q = rw (word_blank (w ++ rest), word_front, q) refl

  pub number_at_start : (most n : ℕ) → number_of most w ≡ Some n → number most (w ++ rest) ≡ Ok (n, rest)
  unfolding number
  number_at_start most n q = rw (word_front, q) refl

-- ---- numbers

plain_digits : (base : ℕ) (ds : List ℕ) → Digits base ds → AllPlain ds
plain_digits base [] d = tt
plain_digits base (b ∷ bs) d = (d.0.plain, plain_digits base bs d.1)

pub decimal_word : (n : ℕ) → n < 2 ^ 64 → IsWord (decimal n)
decimal_word n h =
    let p = prints_decimal n h in record { some = p.some; plain = plain_digits 10 (decimal n) p.all }

pub hexadecimal_word : (n : ℕ) → n < 2 ^ 65 → IsWord (hexadecimal n)
unfolding is_plain
hexadecimal_word n h =
    let p = prints_hexadecimal n h in
    record { some = refl; plain = (refl, (refl, plain_digits 16 (digits 16 false n) p.all)) }

module _ (most n : ℕ) (rest : List ℕ) (l : n ≤ most) (h : n < 2 ^ 64) (a : is_apart rest ≡ true) where
  pub decimal_front : number most (32 ∷ (decimal n ++ rest)) ≡ Ok (n, rest)
  decimal_front = number_front (decimal n) rest (decimal_word n h) a most n (number_decimal most n l h)

  pub hexadecimal_front : number most (32 ∷ (hexadecimal n ++ rest)) ≡ Ok (n, rest)
  hexadecimal_front =
      number_front (hexadecimal n) rest (hexadecimal_word n (omega arith)) a most n (number_hexadecimal most n l h)

pub hexadecimal_above : (most n : ℕ) (rest : List ℕ) → most < n → n < 2 ^ 65 → is_apart rest ≡ true →
    number most (32 ∷ (hexadecimal n ++ rest)) ≡ Err Number
hexadecimal_above most n rest l h a =
    number_wrong (hexadecimal n) rest (hexadecimal_word n h) a most (number_above most n l h)

-- ---- texts

quoted_split : (bs rest : List ℕ) → quoted bs ++ rest ≡ 34 ∷ (flat_map text_byte bs ++ 34 ∷ rest)
quoted_split bs rest = simp append_assoc

pub is_text_front : (bs rest : List ℕ) → is_text (32 ∷ (quoted bs ++ rest)) ≡ true
unfolding is_text next_word
is_text_front bs rest = refl

pub text_front : (bs rest : List ℕ) → IsText bs → is_apart rest ≡ true →
    text (32 ∷ (quoted bs ++ rest)) ≡ Ok (bs, rest)
unfolding text is_text next_word
text_front bs rest t a = rw (quoted_split bs rest, text_back bs rest t, a) refl

-- ---- bytes

plain_digit : (c v : ℕ) → hex_digit_value c ≡ Some v → is_plain c ≡ true
unfolding is_plain
plain_digit c v h = grind (arith, nat_tests)

plain_hex : (bs : List ℕ) → IsBytes bs → AllPlain (encode_lower bs)
unfolding encode_with
plain_hex [] h = tt
plain_hex (b ∷ bs) h =
    let l : b < 256 = h 0 in
    let hi = IsDigits-lower_digits (b / 16) (omega arith) in
    let lo = IsDigits-lower_digits (b % 16) (omega arith) in (
      plain_digit (slice_index lower_digits (b / 16)) (b / 16) hi,
      (plain_digit (slice_index lower_digits (b % 16)) (b % 16) lo, plain_hex bs (λ i. h (suc i))),
    )

hex_word : (b : ℕ) (bs : List ℕ) → IsBytes (b ∷ bs) → IsWord (encode_lower (b ∷ bs))
unfolding encode_with
hex_word b bs h = record { some = refl; plain = plain_hex (b ∷ bs) h }

pub text_end : (bs : List ℕ) → IsText bs → text (32 ∷ quoted bs) ≡ Ok (bs, [])
text_end bs t = ap (λ (x : List ℕ). text (32 ∷ x)) (sym (append-nil (quoted bs))) ∙ text_front bs [] t refl

text_word_end : (w : List ℕ) → IsWord w → is_text w ≡ false
text_word_end w h = ap is_text (sym (append-nil w)) ∙ text_word w [] h

word_end : (w : List ℕ) → IsWord w → word w ≡ Some (w, [])
word_end w h = ap word (sym (append-nil w)) ∙ word_front w [] h refl

hex_end : (w bs : List ℕ) → IsWord w → decode_of w ≡ Ok bs → hex (32 ∷ w) ≡ Ok (bs, [])
unfolding hex
hex_end w bs h q = rw (text_blank w, word_blank w, text_word_end w h, word_end w h, q) refl

pub hex_behind : (bs : List ℕ) → IsBytes bs → hex (bytes_behind bs) ≡ Ok (bs, [])
unfolding hex is_text word is_over next_word decode_pairs
hex_behind [] h = refl
hex_behind (b ∷ bs) h = hex_end (encode_lower (b ∷ bs)) (b ∷ bs) (hex_word b bs h) (decode_of-encode_lower (b ∷ bs) h)
