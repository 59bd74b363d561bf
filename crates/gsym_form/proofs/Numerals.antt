-- Printed numbers are read back: decimal and hexadecimal digits, each of them a byte of a word.
-- Assumes nothing.
use Rattle.std.proofs.Common.{◌≡◌, ℕ, ◌+◌, ◌*◌, ◌^◌, ◌<◌, ◌≤◌, Bool, true, false, not, ◌&&◌, ◌==◌, List, [], ◌∷◌}
use Rattle.std.proofs.Common.{◌++◌, length, Some, None, refl, ◌∙◌, arith, lt-ltb, le-leb}
use Rattle.std.specs.Prelude.{decimal, codes}
use Rattle.std.specs.Fmt.{digits}
use Rattle.std.specs.Char.{digit_value}
use Rattle.std.specs.Str.Parse.{AllDigits, digits_value_after}
use Rattle.std.proofs.lemmas.Fmt.{digits_is_IsNumeral}
use Rattle.std.proofs.lemmas.Bool.{lt-leb}
use Rattle.std.proofs.lemmas.Bool.Decides.{nat_tests}
use Rattle.hex.specs.Hex.{hex_digit_value}
use Rattle.gsym_form.specs.Words.{is_blank, digits_onto, digits_of, number_of, is_empty}

-- a byte of a word: no blank, and neither a quote nor a number sign
unfoldable pub is_plain : ℕ → Bool
is_plain b = not (is_blank b) && (not (b == 34) && not (b == 35))

pub record IsDigit (base b : ℕ) : Type 0 where
  pub value : hex_digit_value b ≡ Some (digit_value b)
  pub below : digit_value b < base
  pub plain : is_plain b ≡ true
  pub no_x : (120 == b) ≡ false
  pub shown : 32 < b

digit_known : (base b : ℕ) → base ≤ 16 → digit_value b < base → hex_digit_value b ≡ Some (digit_value b)
digit_known base b h l = grind (arith, nat_tests)

digit_plain : (base b : ℕ) → base ≤ 16 → digit_value b < base → is_plain b ≡ true
unfolding is_plain
digit_plain base b h l = grind (arith, nat_tests)

digit_no_x : (base b : ℕ) → base ≤ 16 → digit_value b < base → (120 == b) ≡ false
digit_no_x base b h l = grind (arith, nat_tests)

digit_shown : (base b : ℕ) → base ≤ 16 → digit_value b < base → 32 < b
digit_shown base b h l = grind (arith, nat_tests)

-- each of a list is a digit
abbrev pub Digits : ℕ → List ℕ → Type 0
Digits base [] = Unit {0}
Digits base (b ∷ bs) = IsDigit base b × Digits base bs

digits_all : (base : ℕ) → base ≤ 16 → (ds : List ℕ) → AllDigits base ds → Digits base ds
digits_all base h [] a = tt
digits_all base h (b ∷ bs) a = (
  record {
    value = digit_known base b h a.0;
    below = a.0;
    plain = digit_plain base b h a.0;
    no_x = digit_no_x base b h a.0;
    shown = digit_shown base b h a.0;
  },
  digits_all base h bs a.1,
)

onto_value : (base v : ℕ) (ds : List ℕ) → Digits base ds → digits_onto base v ds ≡ Some (digits_value_after base v ds)
unfolding digits_onto
onto_value base v [] d = refl
onto_value base v (b ∷ bs) d =
    rw (d.0.value, lt-ltb _ _ d.0.below) (onto_value base (v * base + digit_value b) bs d.1)

-- a printed number: digits, one at least, that give it
pub record Prints (base n : ℕ) (ds : List ℕ) : Type 0 where
  pub all : Digits base ds
  pub some : is_empty ds ≡ false
  pub gives : digits_value_after base 0 ds ≡ n

some_there : (ds : List ℕ) → 0 < length ds → is_empty ds ≡ false
some_there [] h = absurd (omega arith)
some_there (b ∷ bs) h = refl

pub prints_decimal : (n : ℕ) → n < 2 ^ 64 → Prints 10 n (decimal n)
prints_decimal n h =
    let r = digits_is_IsNumeral 10 false (omega arith) (omega arith) n (omega arith) in
    record {
      all = digits_all 10 (omega arith) (decimal n) r.0.1;
      some = some_there (decimal n) r.0.0;
      gives = r.1;
    }

pub prints_hexadecimal : (n : ℕ) → n < 2 ^ 65 → Prints 16 n (digits 16 false n)
prints_hexadecimal n h =
    let r = digits_is_IsNumeral 16 false (omega arith) (omega arith) n (omega arith) in
    record {
      all = digits_all 16 (omega arith) (digits 16 false n) r.0.1;
      some = some_there (digits 16 false n) r.0.0;
      gives = r.1;
    }

digits_read : (base most n : ℕ) (ds : List ℕ) → Prints base n ds → n ≤ most → digits_of base most ds ≡ Some n
unfolding digits_of
digits_read base most n ds p l =
    rw (p.some, onto_value base 0 ds p.all, p.gives, le-leb _ _ l)

no_more : (x : Bool) → (x && false) ≡ false
no_more true = refl
no_more false = refl

number_decimal_in : (most : ℕ) (ds : List ℕ) → Digits 10 ds → number_of most ds ≡ digits_of 10 most ds
unfolding number_of
number_decimal_in most [] d = refl
number_decimal_in most (b ∷ []) d = rw (no_more (48 == b))
number_decimal_in most (b ∷ c ∷ bs) d = rw (d.1.0.no_x, no_more (48 == b))

pub number_decimal : (most n : ℕ) → n ≤ most → n < 2 ^ 64 → number_of most (decimal n) ≡ Some n
number_decimal most n l h =
    let p = prints_decimal n h in
    number_decimal_in most (decimal n) p.all ∙ digits_read 10 most n (decimal n) p l

pub number_hexadecimal : (most n : ℕ) → n ≤ most → n < 2 ^ 64 →
    number_of most (codes "0x" ++ digits 16 false n) ≡ Some n
unfolding number_of
number_hexadecimal most n l h = digits_read 16 most n (digits 16 false n) (prints_hexadecimal n (omega arith)) l

-- one above the limit is none
digits_above : (base most n : ℕ) (ds : List ℕ) → Prints base n ds → most < n → digits_of base most ds ≡ None
unfolding digits_of
digits_above base most n ds p l =
    rw (p.some, onto_value base 0 ds p.all, p.gives, lt-leb _ _ l)

pub number_above : (most n : ℕ) → most < n → n < 2 ^ 65 → number_of most (codes "0x" ++ digits 16 false n) ≡ None
unfolding number_of
number_above most n l h = digits_above 16 most n (digits 16 false n) (prints_hexadecimal n h) l
