-- UTF-8 one character at a time: what the length of a character says, and each way out of judging one.
-- Assumes nothing.
use Rattle.std.proofs.Common.{ℕ, suc, ◌+◌, ◌-◌, ◌≤◌, ◌<◌, Bool, true, false, true≢false, List, [], ◌∷◌, ◌≡◌, refl, ap}
use Rattle.std.proofs.Common.{sym, ◌∙◌, ⊎_elim, length, get_or, take, drop, length-drop, drop_of_length-le, drop-cons}
use Rattle.std.proofs.Common.{drop-drop, length-take-le, arith, if◌then◌else◌}
use Rattle.gsym_strtab.specs.Utf8.{Range, range, within, tail, Start, starts, nowhere, begun}
use Rattle.gsym_strtab.specs.Utf8.{followers, octets, utf8, sequence_len}
use Rattle.gsym_strtab.specs.Steps.{second, met, sized, char_len}
use Rattle.std.proofs.lemmas.Bool.{cases_lt}
use Rattle.gsym_strtab.proofs.Ranges.{in-range}
use Rattle.gsym_strtab.proofs.Leading.{shape, followers-shape, followers-ascii, followers-two, sequence-len-le}

chosen :
    (t m x y : Bool) → x ≡ (if m then y else false) →
    (if t then x else false) ≡ (if if t then m else false then y else false)
chosen true m x y e = e
chosen false m x y e = refl

-- what is owed is met, and UTF-8 goes on after it
octets-met : (rs : List Range) (bs : List ℕ) → octets rs bs ≡ (if met rs bs then utf8 (drop (length rs) bs) else false)
unfolding octets met utf8
octets-met [] bs = refl
octets-met (r ∷ rs) [] = refl
octets-met (r ∷ rs) (b ∷ bs) =
    chosen (within r b) (met rs bs) (octets rs bs) (utf8 (drop (length rs) bs)) (octets-met rs bs)

short : (t : Bool) (m : Bool) → m ≡ false → (if t then m else false) ≡ false
short true m e = e
short false m e = refl

met-short : (rs : List Range) (bs : List ℕ) → length bs < length rs → met rs bs ≡ false
unfolding met
met-short [] bs h = absurd (omega arith)
met-short (r ∷ rs) [] h = refl
met-short (r ∷ rs) (b ∷ bs) h = short (within r b) (met rs bs) (met-short rs bs (omega arith))

-- a character's length and what follows, by what its first byte says
module _ (bs : List ℕ) where
  none-met : (t : Bool) (k : ℕ) (x : Bool) → (if t then suc k else 0) ≡ 0 → (if t then x else false) ≡ false
  none-met true k x e = absurd (omega arith)
  none-met false k x e = refl

  some-met : (t : Bool) (k n : ℕ) (x : Bool) → (if t then suc k else 0) ≡ n → 0 < n →
      ((if t then x else false) ≡ x) × (n ≡ suc k) × (t ≡ true)
  some-met true k n x e h = (refl, sym e, refl)
  some-met false k n x e h = absurd (omega arith)

  start_none : (st : Start) → sized st bs ≡ 0 → begun st (λ rs. octets rs bs) ≡ false
  start_none (starts rs) e = octets-met rs bs ∙ none-met (met rs bs) (length rs) (utf8 (drop (length rs) bs)) e
  start_none nowhere e = refl

  start-next : (st : Start) (n : ℕ) → sized st bs ≡ n → 0 < n → begun st (λ rs. octets rs bs) ≡ utf8 (drop (n - 1) bs)
  start-next (starts rs) n e h =
      let m = some-met (met rs bs) (length rs) n (utf8 (drop (length rs) bs)) e h in
      let k : length rs ≡ n - 1 = omega (arith, m.1) in
      octets-met rs bs ∙ m.0 ∙ ap (λ j. utf8 (drop j bs)) k
  start-next nowhere n e h = absurd (omega arith)

-- a byte below 80 may be left out
pub utf8-byte : (b : ℕ) (bs : List ℕ) → within (range 1 0x7f) b ≡ true → utf8 (b ∷ bs) ≡ utf8 bs
unfolding utf8 octets
utf8-byte b bs w = ap (λ st. begun st (λ rs. octets rs bs)) (followers-ascii b (in-range 1 0x7f b w).1)

-- the same at a place
pub utf8-done : (s : List ℕ) (i : ℕ) → length s ≤ i → utf8 (drop i s) ≡ true
unfolding utf8 octets
utf8-done s i l = rw (drop_of_length-le s l)

module _ (s : List ℕ) (i : ℕ) (h : i < length s) where
  utf8-at : utf8 (drop i s) ≡ begun (followers (get_or s i 0)) (λ rs. octets rs (drop (suc i) s))
  unfolding utf8 octets
  utf8-at = rw (drop-cons s i 0 h)

  pub char-at : char_len (drop i s) ≡ sized (followers (get_or s i 0)) (drop (suc i) s)
  unfolding char_len
  char-at = rw (drop-cons s i 0 h)

  pub utf8-none : (n : ℕ) → n ≡ char_len (drop i s) → n ≡ 0 → utf8 (drop i s) ≡ false
  utf8-none n e z = utf8-at ∙ start_none (drop (suc i) s) (followers (get_or s i 0)) (sym char-at ∙ sym e ∙ z)

  pub utf8-next : (n : ℕ) → n ≡ char_len (drop i s) → (n ≡ 0 → ⊥) → utf8 (drop i s) ≡ utf8 (drop (i + n) s)
  utf8-next n e z =
      let j : suc i + (n - 1) ≡ i + n = omega arith in
      utf8-at ∙ start-next (drop (suc i) s) (followers (get_or s i 0)) n (sym char-at ∙ sym e) (omega arith)
      ∙ ap utf8 (drop-drop (n - 1) (suc i) s ∙ ap (λ k. drop k s) j)

  -- a character lies inside the bytes
  met-fits : (rs : List Range) (n : ℕ) → sized (starts rs) (drop (suc i) s) ≡ n → 0 < n → i + n ≤ length s
  met-fits rs n e z =
      let m = some-met [] (met rs (drop (suc i) s)) (length rs) n true e z in
      ⊎_elim
      (λ (l : length (drop (suc i) s) < length rs). absurd (true≢false (sym m.2 ∙ met-short rs (drop (suc i) s) l)))
      (λ (l : length rs ≤ length (drop (suc i) s)). omega (arith, m.1, length-drop (suc i) s))
      (cases_lt (length (drop (suc i) s)) (length rs))

  start_fits : (st : Start) (n : ℕ) → sized st (drop (suc i) s) ≡ n → 0 < n → i + n ≤ length s
  start_fits (starts rs) n e z = met-fits rs n e z
  start_fits nowhere n e z = absurd (omega arith)

  pub char-fits : (n : ℕ) → n ≡ char_len (drop i s) → (n ≡ 0 → ⊥) → i + n ≤ length s
  char-fits n e z = start_fits (followers (get_or s i 0)) n (sym char-at ∙ sym e) (omega arith)

-- ------------------------------------------------------------------------------------------------
-- the ways out of judging the character at a place

-- its first byte's sequence has n bytes
pub record Lead (s : List ℕ) (i n : ℕ) : Type 0 where
  pub inside : i < length s
  pub byte : get_or s i 0 < 256
  pub sequence : n ≡ sequence_len (get_or s i 0)

-- and there are that many, the second a right one
pub record Twos (s : List ℕ) (i n : ℕ) : Type 0 where
  pub lead : Lead s i n
  pub several : 2 ≤ n
  pub room : n ≤ length s - i
  pub second_is : within (second (get_or s i 0)) (get_or s (i + 1) 0) ≡ true

-- and the third
pub record Threes (s : List ℕ) (i n : ℕ) : Type 0 where
  pub twos : Twos s i n
  pub more : 3 ≤ n
  pub third-is : within tail (get_or s (i + 2) 0) ≡ true

after-byte : (s : List ℕ) (i j : ℕ) → suc i ≡ j → j < length s → drop (suc i) s ≡ get_or s j 0 ∷ drop (suc j) s
after-byte s i j e l = ap (λ k. drop k s) e ∙ drop-cons s j 0 l

module _ {s : List ℕ} {i n : ℕ} where
  few : Lead s i n → n ≤ 4
  few h = rw h.sequence (sequence-len-le (get_or s i 0) h.byte)

  opened : Lead s i n → (m : ℕ) → n ≡ m → char_len (drop i s) ≡ sized (shape m (get_or s i 0)) (drop (suc i) s)
  opened h m q =
      let e = followers-shape (get_or s i 0) h.byte ∙ ap (λ k. shape k (get_or s i 0)) (sym h.sequence ∙ q) in
      char-at s i h.inside ∙ ap (λ st. sized st (drop (suc i) s)) e

  pub one-is : Lead s i n → n < 2 → n ≡ char_len (drop i s)
  unfolding met
  one-is h l =
      ⊎_elim
      (λ (k : n < 1). let q : n ≡ 0 = omega arith in q ∙ sym (opened h 0 q))
      (λ (k : 1 ≤ n). let q : n ≡ 1 = omega arith in q ∙ sym (opened h 1 q))
      (cases_lt n 1)

  pub cut : Lead s i n → 2 ≤ n → length s - i < n → 0 ≡ char_len (drop i s)
  cut h l k =
      let q : n ≡ suc (n - 1) = omega arith in
      let most : List Range = second (get_or s i 0) ∷ tail ∷ tail ∷ [] in
      let w : length (take (n - 1) most) ≡ n - 1 = length-take-le (n - 1) most (omega (arith, few h)) in
      let m = met-short (take (n - 1) most) (drop (suc i) s) (omega (arith, w, length-drop (suc i) s)) in
      rw (opened h (suc (n - 1)) q, m)

  pub second-wrong : Lead s i n → 2 ≤ n → n ≤ length s - i →
      within (second (get_or s i 0)) (get_or s (i + 1) 0) ≡ false → 0 ≡ char_len (drop i s)
  unfolding met
  second-wrong h k l b =
      let q : n ≡ suc (suc (n - 2)) = omega arith in
      let b₂ = after-byte s i (i + 1) (omega arith) (omega arith) in
      rw (opened h (suc (suc (n - 2))) q, b₂, b)

  -- two bytes, by whether the second may follow
  module _ (h : Lead s i n) (k : 2 ≤ n) (l : n < 3) (m : n ≤ length s - i) where
    two : char_len (drop i s) ≡ sized (starts (tail ∷ [])) (get_or s (i + 1) 0 ∷ drop (suc (i + 1)) s)
    two =
        let q : n ≡ 2 = omega arith in
        let f = followers-two (get_or s i 0) h.byte (sym h.sequence ∙ q) in
        let b₂ = after-byte s i (i + 1) (omega arith) (omega arith) in
        rw (char-at s i h.inside, f, b₂)

    pub two-are : within tail (get_or s (i + 1) 0) ≡ true → n ≡ char_len (drop i s)
    unfolding met
    two-are e = let q : n ≡ 2 = omega arith in q ∙ rw (two, e)

    pub two-wrong : within tail (get_or s (i + 1) 0) ≡ false → 0 ≡ char_len (drop i s)
    unfolding met
    two-wrong e = rw (two, e)

  pub third-wrong : Twos s i n → 3 ≤ n → within tail (get_or s (i + 2) 0) ≡ false → 0 ≡ char_len (drop i s)
  unfolding met
  third-wrong h k d =
      let q : n ≡ suc (suc (suc (n - 3))) = omega arith in
      let b₂ = after-byte s i (i + 1) (omega arith) (omega (arith, h.room)) in
      let b₃ = after-byte s (i + 1) (i + 2) (omega arith) (omega (arith, h.room)) in
      rw (opened h.lead (suc (suc (suc (n - 3)))) q, b₂, h.second_is, b₃, d)

  pub three-are : Threes s i n → n < 4 → n ≡ char_len (drop i s)
  unfolding met
  three-are h t =
      let w = h.twos in
      let q : n ≡ 3 = omega (arith, h.more) in
      let b₂ = after-byte s i (i + 1) (omega arith) (omega (arith, w.room)) in
      let b₃ = after-byte s (i + 1) (i + 2) (omega arith) (omega (arith, w.room)) in
      q ∙ rw (opened w.lead 3 q, b₂, w.second_is, b₃, h.third-is)

  pub fourth-wrong : Threes s i n → 4 ≤ n → within tail (get_or s (i + 3) 0) ≡ false → 0 ≡ char_len (drop i s)
  unfolding met
  fourth-wrong h k f =
      let w = h.twos in
      let q : n ≡ 4 = omega (arith, few w.lead) in
      let b₂ = after-byte s i (i + 1) (omega arith) (omega (arith, w.room)) in
      let b₃ = after-byte s (i + 1) (i + 2) (omega arith) (omega (arith, w.room)) in
      let b₄ = after-byte s (i + 2) (i + 3) (omega arith) (omega (arith, w.room)) in
      rw (opened w.lead 4 q, b₂, w.second_is, b₃, h.third-is, b₄, f)

  pub four_are : Threes s i n → 4 ≤ n → within tail (get_or s (i + 3) 0) ≡ true → n ≡ char_len (drop i s)
  unfolding met
  four_are h k f =
      let w = h.twos in
      let q : n ≡ 4 = omega (arith, few w.lead) in
      let b₂ = after-byte s i (i + 1) (omega arith) (omega (arith, w.room)) in
      let b₃ = after-byte s (i + 1) (i + 2) (omega arith) (omega (arith, w.room)) in
      let b₄ = after-byte s (i + 2) (i + 3) (omega arith) (omega (arith, w.room)) in
      q ∙ rw (opened w.lead 4 q, b₂, w.second_is, b₃, h.third-is, b₄, f)
