-- No newline is in a text as it is shown, and none in the name of a refusal.
-- Assumes nothing.
use Rattle.std.proofs.Common.{◌≡◌, ◌<◌, ◌≤◌, inl, inr, ℕ, zero, suc, ◌+◌, ◌-◌, ◌/◌, ◌%◌, Bool, true, false, ◌&&◌, ◌||◌}
use Rattle.std.proofs.Common.{not, List, [], ◌∷◌, ◌++◌, length, take, refl, sym, ap, ◌∙◌, arith}
use Rattle.std.specs.Prelude.{nat_lt, nat_le, ◌==◌, slice_index, if◌then◌else◌, codes, Contains}
use Rattle.std.specs.List.{list_all}
use Rattle.std.proofs.lemmas.List.Folds.{list_all-append}
use Rattle.std.proofs.lemmas.List.Sums.{AllPass-from_list_all}
use Rattle.std.proofs.lemmas.Bool.Decides.{nat_tests}
use Rattle.gsym_types.specs.declared.Refusal.{Refusal}
use Rattle.gsym_types.specs.declared.Refusal.TheVariants as refused
use Rattle.gsym_strtab.specs.Utf8.{Range, range, within, Start, starts, nowhere, after, characters, followers, begun}
use Rattle.gsym_strtab.specs.Utf8.{octets, utf8, sequence_len, size_of}
use Rattle.gsym_strtab.proofs.Leading.{sequence-len-size}
use Rattle.gsym_printed.specs.declared.view.Form.{Form}
use Rattle.gsym_printed.specs.declared.view.Form.TheVariants.{Lines, Pretty, Json}
use Rattle.gsym_printed.specs.Page.{joined, digit_byte, last_digits}
use Rattle.gsym_printed.specs.Pieces.{char_len, piece_len, is_control, is_mark, mark_number, escaped_byte}
use Rattle.gsym_printed.specs.Pieces.{escaped_piece, shown_piece, piece_text, shown_rest, shown_text}
use Rattle.gsym_printed.specs.Printed.{name_of}
use Rattle.gsym_printed.proofs.Front.{IsFront, front}

abbrev is_other : ℕ → Bool
is_other b = not (b == 10)

abbrev Unbroken : List ℕ → Type 0
Unbroken s = list_all is_other s ≡ true

both : (a b : Bool) → (a && b) ≡ true → (a ≡ true) × (b ≡ true)
both true b e = (refl, e)
both false b e = absurd (cc)

-- ---- texts after one another

unbroken-append : (s t : List ℕ) → Unbroken s → Unbroken t → Unbroken (s ++ t)
unbroken-append s t p q = rw (list_all-append is_other s t, p, q) refl

unbroken-join : (s t : List ℕ) → Unbroken s → Unbroken t → Unbroken (joined s t)
unfolding joined
unbroken-join s t p q = unbroken-append s t p q

unbroken-byte : (b : ℕ) → is_other b ≡ true → Unbroken (b ∷ [])
unbroken-byte b e = rw e refl

unbroken-cases : (t : Bool) (a b : List ℕ) → (t ≡ true → Unbroken a) → (t ≡ false → Unbroken b)
    → Unbroken (if t then a else b)
unbroken-cases true a b p q = p refl
unbroken-cases false a b p q = q refl

other-above : (b : ℕ) → 10 < b → is_other b ≡ true
other-above b l = grind (arith, nat_tests)

other-uncontrolled : (b : ℕ) → is_control b ≡ false → is_other b ≡ true
other-uncontrolled b e = grind (arith, nat_tests)

digit-by : (d : ℕ) (t : Bool) → nat_lt d 10 ≡ t → is_other (digit_byte d) ≡ true
digit-by d true e = rw e (other-above (48 + d) (omega arith))
digit-by d false e = rw e (other-above (87 + d) (omega arith))

digits-unbroken : (k n : ℕ) → Unbroken (last_digits k n)
unfolding last_digits
digits-unbroken zero n = refl
digits-unbroken (suc k) n =
    unbroken-append (last_digits k (n / 16)) (digit_byte (n % 16) ∷ []) (digits-unbroken k (n / 16))
    (unbroken-byte (digit_byte (n % 16)) (digit-by (n % 16) (nat_lt (n % 16) 10) refl))

-- ---- characters of several bytes, all of which are above 127

abbrev is_high : Range → Bool
is_high (range low high) = nat_le 128 low

are_high : Start → Bool
are_high (starts rs) = list_all is_high rs
are_high nowhere = true

-- those that follow a first byte
follow_high : List (List Range) → Bool
follow_high [] = true
follow_high ([] ∷ others) = follow_high others
follow_high ((r ∷ rs) ∷ others) = list_all is_high rs && follow_high others

after-by : (t : Bool) (x y : Start) → are_high x ≡ true → are_high y ≡ true → are_high (if t then x else y) ≡ true
after-by true x y p q = p
after-by false x y p q = q

after-high : (b : ℕ) (cs : List (List Range)) → follow_high cs ≡ true → are_high (after b cs) ≡ true
unfolding are_high follow_high
after-high b [] e = refl
after-high b ([] ∷ others) e = after-high b others e
after-high b ((r ∷ rs) ∷ others) e =
    let h = both (list_all is_high rs) (follow_high others) e in
    after-by (within r b) (starts rs) (after b others) h.0 (after-high b others h.1)

followers-high : (b : ℕ) → are_high (followers b) ≡ true
unfolding followers follow_high
followers-high b = after-high b characters refl

in-high : (low high b : ℕ) → nat_le 128 low ≡ true → within (range low high) b ≡ true → is_other b ≡ true
in-high low high b e w = grind (arith, nat_tests)

-- bytes in given ranges, and nothing behind them
owed-by : (t u : Bool) → (if t then u else false) ≡ true → (t ≡ true) × (u ≡ true)
owed-by true u e = (refl, e)
owed-by false u e = absurd (cc)

owed : (rs : List Range) (bs : List ℕ) → list_all is_high rs ≡ true → octets rs bs ≡ true → length bs ≡ length rs
    → Unbroken bs
unfolding octets
owed rs [] e o l = refl
owed [] (b ∷ bs) e o l = absurd (omega (arith, l))
owed (range low high ∷ rs) (b ∷ bs) e o l =
    let h = both (nat_le 128 low) (list_all is_high rs) e in
    let w = owed-by (within (range low high) b) (octets rs bs) o in
    rw (in-high low high b h.0 w.0, owed rs bs h.1 w.1 (omega (arith, l))) refl

-- behind a first byte
begun-unbroken : (st : Start) (bs : List ℕ) → are_high st ≡ true → begun st (λ rs. octets rs bs) ≡ true
    → suc (length bs) ≡ size_of st → Unbroken bs
unfolding are_high
begun-unbroken (starts rs) bs e o l = owed rs bs e o (omega (arith, l))
begun-unbroken nowhere bs e o l = absurd (omega (arith, l))

first-by : (b : ℕ) (t : Bool) → (b == 10) ≡ t → 2 ≤ sequence_len b → not t ≡ true
unfolding sequence_len
first-by b false e l = refl
first-by b true e l = absurd (omega (arith, l, ap sequence_len (same b e)))
  where
    same : (b : ℕ) → (b == 10) ≡ true → b ≡ 10
    same b e = grind (arith, nat_tests)

take-all : (s : List ℕ) → take (length s) s ≡ s
take-all [] = refl
take-all (b ∷ s) = ap (λ t. b ∷ t) (take-all s)

char-utf8 : (p : List ℕ) (b : ℕ) (t : Bool)
    → (nat_le (sequence_len b) (length p) && utf8 (take (sequence_len b) p)) ≡ t
    → (if t then sequence_len b else 0) ≡ length p → 0 < length p
    → (sequence_len b ≡ length p) × (utf8 p ≡ true)
char-utf8 p b true e c l =
    let h = both (nat_le (sequence_len b) (length p)) (utf8 (take (sequence_len b) p)) e in
    (c, ap utf8 (sym (take-all p)) ∙ ap (λ n. utf8 (take n p)) (sym c) ∙ h.1)
char-utf8 p b false e c l = absurd (omega (arith, c, l))

several : (b c : ℕ) (s : List ℕ) → char_len (b ∷ c ∷ s) ≡ length (b ∷ c ∷ s) → Unbroken (b ∷ c ∷ s)
unfolding char_len utf8 octets
several b c s e =
    let p = b ∷ c ∷ s in
    let h =
    char-utf8 p b (nat_le (sequence_len b) (length p) && utf8 (take (sequence_len b) p)) refl e (omega arith)
    in
    let k : is_other b ≡ true = first-by b (b == 10) refl (omega (arith, h.0)) in
    let r : Unbroken (c ∷ s) =
    begun-unbroken (followers b) (c ∷ s) (followers-high b) h.1 (sym h.0 ∙ sequence-len-size b)
    in
    rw (k, r) refl

-- ---- pieces

unmarked : (p : List ℕ) → IsFront p → is_mark p ≡ false → Unbroken p
unfolding IsFront is_mark
unmarked [] f m = refl
unmarked (b ∷ []) f m = unbroken-byte b (other-uncontrolled b m)
unmarked (b ∷ c ∷ s) (inl e) m = absurd (omega (arith, e))
unmarked (b ∷ c ∷ s) (inr g) m = several b c s g.1

piece-shown : (p : List ℕ) → IsFront p → Unbroken (shown_piece p)
piece-shown p f = unbroken-cases (is_mark p) (codes "?") p (λ _. refl) (unmarked p f)

byte-escaped : (b : ℕ) → Unbroken (escaped_byte b)
unfolding escaped_byte
byte-escaped b =
    unbroken-cases (nat_le 128 b) (codes "\\ufffd")
    (if is_control b then joined (codes "\\u") (last_digits 4 b)
    else if (b == 34) || (b == 92) then joined (92 ∷ []) (b ∷ []) else b ∷ []) (λ _. refl)
    (λ _. unbroken-cases (is_control b) (joined (codes "\\u") (last_digits 4 b))
    (if (b == 34) || (b == 92) then joined (92 ∷ []) (b ∷ []) else b ∷ [])
    (λ _. unbroken-join (codes "\\u") (last_digits 4 b) refl (digits-unbroken 4 b))
    (λ e. unbroken-cases ((b == 34) || (b == 92)) (joined (92 ∷ []) (b ∷ [])) (b ∷ [])
    (λ _. unbroken-join (92 ∷ []) (b ∷ []) refl (unbroken-byte b (other-uncontrolled b e)))
    (λ _. unbroken-byte b (other-uncontrolled b e))))

piece-escaped : (p : List ℕ) → IsFront p → Unbroken (escaped_piece p)
unfolding escaped_piece
piece-escaped p f =
    unbroken-cases (length p == 1) (escaped_byte (slice_index p 0))
    (if is_mark p then joined (codes "\\u") (last_digits 4 (mark_number p)) else p)
    (λ _. byte-escaped (slice_index p 0))
    (λ _. unbroken-cases (is_mark p) (joined (codes "\\u") (last_digits 4 (mark_number p))) p
    (λ _. unbroken-join (codes "\\u") (last_digits 4 (mark_number p)) refl (digits-unbroken 4 (mark_number p)))
    (unmarked p f))

piece-unbroken : (form : Form) (p : List ℕ) → IsFront p → Unbroken (piece_text form p)
piece-unbroken Lines p f = piece-shown p f
piece-unbroken Pretty p f = piece-shown p f
piece-unbroken Json p f = piece-escaped p f

rest-unbroken : (form : Form) (k : ℕ) (s : List ℕ) → Unbroken (shown_rest form k s)
unfolding shown_rest
rest-unbroken form zero [] = refl
rest-unbroken form (suc k) [] = refl
rest-unbroken form zero (b ∷ s) =
    unbroken-append (piece_text form (take (piece_len (b ∷ s)) (b ∷ s))) (shown_rest form (piece_len (b ∷ s) - 1) s)
    (piece-unbroken form (take (piece_len (b ∷ s)) (b ∷ s)) (front b s))
    (rest-unbroken form (piece_len (b ∷ s) - 1) s)
rest-unbroken form (suc k) (b ∷ s) = rest-unbroken form k s

-- ---- in the words of a clause

none : (s : List ℕ) → Unbroken s → ¬ Contains s 10
none s e c = absurd (clash (sym (ap is_other c.2) ∙ AllPass-from_list_all {X = ℕ} is_other s e c.0 10 c.1))
  where
    clash : is_other 10 ≡ true → ⊥
    clash h = cc

pub shown-unbroken : (form : Form) (s : List ℕ) → ¬ Contains (shown_text form s) 10
unfolding shown_text
shown-unbroken form s = none (shown_text form s) (rest-unbroken form 0 s)

pub name-unbroken : (r : Refusal) → ¬ Contains (name_of r) 10
unfolding name_of
name-unbroken refused.UnknownAddress = none (name_of refused.UnknownAddress) refl
name-unbroken refused.TooFewBytes = none (name_of refused.TooFewBytes) refl
name-unbroken refused.WrongMagic = none (name_of refused.WrongMagic) refl
name-unbroken refused.WrongVersion = none (name_of refused.WrongVersion) refl
name-unbroken refused.UnreadInfo = none (name_of refused.UnreadInfo) refl
name-unbroken refused.UnreadName = none (name_of refused.UnreadName) refl
name-unbroken refused.UnknownFile = none (name_of refused.UnknownFile) refl
name-unbroken refused.UnreadPath = none (name_of refused.UnreadPath) refl
name-unbroken refused.UnreadLineHeader = none (name_of refused.UnreadLineHeader) refl
name-unbroken refused.UnreadInline = none (name_of refused.UnreadInline) refl
name-unbroken refused.InlineSumTooLarge = none (name_of refused.InlineSumTooLarge) refl
name-unbroken refused.CallFileTooLarge = none (name_of refused.CallFileTooLarge) refl
name-unbroken refused.TooDeep = none (name_of refused.TooDeep) refl
name-unbroken refused.TooManyFrames = none (name_of refused.TooManyFrames) refl
name-unbroken refused.TooWide = none (name_of refused.TooWide) refl
