-- A name read in one pass: the zero byte is looked for and UTF-8 judged at the same time, since no character but the
-- zero byte itself has a zero byte in it.
-- Assumes nothing.
use Rattle.std.proofs.Common.{ℕ, suc, ◌+◌, ◌-◌, ◌≤◌, ◌<◌, Bool, true, false, not, List, [], ◌∷◌, ◌≡◌, refl, ap, sym}
use Rattle.std.proofs.Common.{◌∙◌, T, eqb, length, get_or, take, drop, drop_of_length-le, drop-cons, drop-drop, arith}
use Rattle.std.proofs.Common.{eqb-true, Option, Some, None, if◌then◌else◌}
use borrow.Author.Tests.{eqb-false}
use Rattle.gsym_reads.specs.Maybe.{◌>>=◌, ◌>>◌, need}
use Rattle.gsym_strtab.specs.Utf8.{Range, range, within, Start, starts, nowhere, characters, after}
use Rattle.gsym_strtab.specs.Utf8.{begun, followers, octets, utf8}
use Rattle.gsym_strtab.specs.Steps.{met, sized, char_len, run_len}
use Rattle.gsym_strtab.specs.Strings.{before_zero, name_in}
use Rattle.gsym_strtab.proofs.Ranges.{in-range}
use Rattle.gsym_strtab.proofs.Table.{both, both_left, both_right}
use Rattle.gsym_strtab.proofs.Leading.{followers-ascii}
use Rattle.gsym_strtab.proofs.Chars.{char-at}
use Rattle.gsym_strtab.proofs.Passing.{longer, text-begin, text-more, before_zero-nil, before_zero-zero, longer-none}
use Rattle.gsym_strtab.proofs.Passing.{longer-longer, Passed, begin, ended, failed}
use Rattle.gsym_strtab.proofs.Runs.{pass-run}
use Rattle.std.specs.Option.{option_map}

-- no range has the zero byte
high : List Range → Bool
high [] = true
high (r ∷ rs) = both (not (within r 0)) (high rs)

start-high : Start → Bool
start-high (starts rs) = high rs
start-high nowhere = true

rows-high : List (List Range) → Bool
rows-high [] = true
rows-high ([] ∷ rows) = rows-high rows
rows-high ((r ∷ rs) ∷ rows) = both (high rs) (rows-high rows)

one-high : (t : Bool) (rs : List Range) (st : Start) →
    T (high rs) → T (start-high st) → T (start-high (if t then starts rs else st))
unfolding start-high
one-high true rs st a b = a
one-high false rs st a b = b

after-high : (b : ℕ) (rows : List (List Range)) → T (rows-high rows) → T (start-high (after b rows))
unfolding rows-high start-high
after-high b [] t = tt
after-high b ([] ∷ rows) t = after-high b rows t
after-high b ((r ∷ rs) ∷ rows) t =
    one-high (within r b) rs (after b rows) (both_left (high rs) (rows-high rows) t)
    (after-high b rows (both_right (high rs) (rows-high rows) t))

followers-high : (b : ℕ) → T (start-high (followers b))
unfolding followers rows-high high start-high
followers-high b = after-high b characters tt

-- ------------------------------------------------------------------------------------------------
-- the name that bytes begin with, where ranges are still owed

abbrev weighed : List Range → List ℕ → Option ℕ → Option ℕ
weighed rs bs (Some n) = if octets rs (take n bs) then Some n else None
weighed rs bs None = None

pub named : List Range → List ℕ → Option ℕ
named rs bs = weighed rs bs (before_zero bs)

longer-if : (n : ℕ) (t : Bool) (l : Option ℕ) → longer n (if t then l else None) ≡ (if t then longer n l else None)
longer-if n true l = refl
longer-if n false l = refl

module _ (b : ℕ) (bs : List ℕ) (d : b ≡ 0 → ⊥) where
  one_more : (m : ℕ) → take (1 + m) (b ∷ bs) ≡ b ∷ take m bs
  one_more m = let e : 1 + m ≡ suc m = omega arith in ap (λ k. take k (b ∷ bs)) e

  owed-of : (t : Bool) (x : Bool) (m : ℕ) →
      (if if t then x else false then Some (1 + m) else None)
      ≡ (if t then longer 1 (if x then Some m else None) else None)
  owed-of true true m = refl
  owed-of true false m = refl
  owed-of false x m = refl

  owed-len : (r : Range) (rs : List Range) (l : Option ℕ) →
      weighed (r ∷ rs) (b ∷ bs) (longer 1 l) ≡ (if within r b then longer 1 (weighed rs bs l) else None)
  unfolding octets
  owed-len r rs (Some m) = rw (one_more m) (owed-of (within r b) (octets rs (take m bs)) m)
  owed-len r rs None = same (within r b)
    where
      same : (t : Bool) → ◌≡◌ {A = Option ℕ} None (if t then None else None)
      same true = refl
      same false = refl

  owed : (r : Range) (rs : List Range) → named (r ∷ rs) (b ∷ bs) ≡ (if within r b then longer 1 (named rs bs) else None)
  unfolding named
  owed r rs = ap (weighed (r ∷ rs) (b ∷ bs)) (text-more b bs d) ∙ owed-len r rs (before_zero bs)

named-nil : (rs : List Range) → named rs [] ≡ None
unfolding named
named-nil rs = rw before_zero-nil

-- a zero byte where more is owed
owed-zero : (r : Range) (rs : List Range) (b : ℕ) (bs : List ℕ) → b ≡ 0 → named (r ∷ rs) (b ∷ bs) ≡ None
unfolding named octets
owed-zero r rs b bs e = rw (before_zero-zero b bs e)

not-zero : (t : Bool) → T (not t) → t ≡ false
not-zero true h = absurd h
not-zero false h = refl

-- what is owed is met, and the name goes on after it
named-met : (rs : List Range) (bs : List ℕ) → T (high rs) →
    named rs bs ≡ (if met rs bs then longer (length rs) (named [] (drop (length rs) bs)) else None)
unfolding met high
named-met [] bs h = longer-none (named [] bs)
named-met (r ∷ rs) [] h = named-nil (r ∷ rs)
named-met (r ∷ rs) (b ∷ bs) h = go (named-met rs bs (both_right (not (within r 0)) (high rs) h)) (eqb b 0) refl
  where
    rest : Option ℕ
    rest = named [] (drop (length rs) bs)

    step : (t m : Bool) (n : ℕ) (l : Option ℕ) →
        (if t then longer 1 (if m then longer n l else None) else None)
        ≡ (if if t then m else false then longer (suc n) l else None)
    step true true n l = let e : 1 + n ≡ suc n = omega arith in longer-longer 1 n l ∙ ap (λ k. longer k l) e
    step true false n l = refl
    step false m n l = refl

    go : named rs bs ≡ (if met rs bs then longer (length rs) rest else None) → (t : Bool) → eqb b 0 ≡ t →
        named (r ∷ rs) (b ∷ bs)
        ≡ (if if within r b then met rs bs else false then longer (suc (length rs)) rest else None)
    go i true q =
        let e : b ≡ 0 = eqb-true b 0 q in
        let z : within r 0 ≡ false = not-zero (within r 0) (both_left (not (within r 0)) (high rs) h) in
        let w : within r b ≡ false = ap (within r) e ∙ z in
        owed-zero r rs b bs e
        ∙ sym (ap (λ t. if if t then met rs bs else false then longer (suc (length rs)) rest else None) w)
    go i false q =
        owed b bs (eqb-false b 0 q) r rs
        ∙ ap (λ l. if within r b then longer 1 l else None) i
        ∙ step (within r b) (met rs bs) (length rs) rest

-- ------------------------------------------------------------------------------------------------
-- a character that is not the zero byte

abbrev onward : Start → List ℕ → Option ℕ → Option ℕ
onward (starts rs) bs l = longer 1 (weighed rs bs l)
onward nowhere bs l = None

module _ (b : ℕ) (bs : List ℕ) (d : b ≡ 0 → ⊥) where
  onward-spans : (st : Start) (m : ℕ) →
      (if (begun st (λ rs. octets rs (take m bs))) then Some (1 + m) else None) ≡ onward st bs (Some m)
  onward-spans (starts rs) m = sym (longer-if 1 (octets rs (take m bs)) (Some m))
  onward-spans nowhere m = refl

  onward-nothing : (st : Start) → None ≡ onward st bs None
  onward-nothing (starts rs) = refl
  onward-nothing nowhere = refl

  start-len : (l : Option ℕ) → weighed [] (b ∷ bs) (longer 1 l) ≡ onward (followers b) bs l
  unfolding octets
  start-len (Some m) = rw (one_more b bs d m) (onward-spans (followers b) m)
  start-len None = onward-nothing (followers b)

  named_start : named [] (b ∷ bs) ≡ onward (followers b) bs (before_zero bs)
  unfolding named
  named_start = ap (weighed [] (b ∷ bs)) (text-more b bs d) ∙ start-len (before_zero bs)

pub name-byte : (b : ℕ) (bs : List ℕ) → within (range 1 0x7f) b ≡ true → named [] (b ∷ bs) ≡ longer 1 (named [] bs)
unfolding named
name-byte b bs w =
    let i = in-range 1 0x7f b w in
    named_start b bs (λ z. omega arith) ∙ ap (λ st. onward st bs (before_zero bs)) (followers-ascii b i.1)

-- by the character's length
module _ (bs : List ℕ) where
  cut_off :
      (t : Bool) (k : ℕ) (l : Option ℕ) → (if t then suc k else 0) ≡ 0 →
      longer 1 (if t then longer k l else None) ≡ None
  cut_off true k l e = absurd (omega arith)
  cut_off false k l e = refl

  carry-on : (t : Bool) (k n : ℕ) → (if t then suc k else 0) ≡ n → (n ≡ 0 → ⊥) →
      longer 1 (if t then longer k (named [] (drop k bs)) else None) ≡ longer n (named [] (drop (n - 1) bs))
  carry-on true k n e z =
      let p : 1 + k ≡ n = omega arith in
      let q : k ≡ n - 1 = omega arith in
      longer-longer 1 k (named [] (drop k bs)) ∙ ap (λ j. longer j (named [] (drop k bs))) p
      ∙ ap (λ j. longer n (named [] (drop j bs))) q
  carry-on false k n e z = absurd (z (sym e))

  onward-none : (st : Start) → T (start-high st) → sized st bs ≡ 0 → onward st bs (before_zero bs) ≡ None
  unfolding start-high named
  onward-none (starts rs) h e =
      ap (longer 1) (named-met rs bs h) ∙ cut_off (met rs bs) (length rs) (named [] (drop (length rs) bs)) e
  onward-none nowhere h e = refl

  onward-next : (st : Start) (n : ℕ) → T (start-high st) → sized st bs ≡ n → (n ≡ 0 → ⊥) →
      onward st bs (before_zero bs) ≡ longer n (named [] (drop (n - 1) bs))
  unfolding start-high named
  onward-next (starts rs) n h e z = ap (longer 1) (named-met rs bs h) ∙ carry-on (met rs bs) (length rs) n e z
  onward-next nowhere n h e z = absurd (z (sym e))

-- ------------------------------------------------------------------------------------------------
-- at a place of the table's bytes: each way out of the scan, and each turn

module _ (s : List ℕ) (i : ℕ) where
  judged : Option ℕ → Option ℕ
  judged l = do
    n ← l
    need (utf8 (take n (drop i s)))
    Some n

  kept : (b : Bool) (n : ℕ) → (need b >> Some n) ≡ (if b then Some n else None)
  kept true n = refl
  kept false n = refl

  judged-named : (l : Option ℕ) → judged l ≡ weighed [] (drop i s) l
  unfolding judged utf8
  judged-named (Some n) = kept (octets [] (take n (drop i s))) n
  judged-named None = refl

  pub name-begin : name_in s i ≡ named [] (drop i s)
  unfolding name_in named judged
  name-begin = ap judged (text-begin s i) ∙ judged-named (before_zero (drop i s))

  pub name-over : length s ≤ i → named [] (drop i s) ≡ None
  name-over l = rw (drop_of_length-le s l) (named-nil [])

  module _ (h : i < length s) where
    pub name-zero : get_or s i 0 ≡ 0 → named [] (drop i s) ≡ Some 0
    unfolding named octets
    name-zero e = rw (drop-cons s i 0 h, before_zero-zero _ _ e)

    module _ (d : get_or s i 0 ≡ 0 → ⊥) where
      named-at : named [] (drop i s) ≡ onward (followers (get_or s i 0)) (drop (suc i) s) (before_zero (drop (suc i) s))
      named-at = ap (named []) (drop-cons s i 0 h) ∙ named_start (get_or s i 0) (drop (suc i) s) d

      pub name-none : (n : ℕ) → n ≡ char_len (drop i s) → n ≡ 0 → named [] (drop i s) ≡ None
      name-none n e z =
          named-at
          ∙ onward-none (drop (suc i) s) (followers (get_or s i 0)) (followers-high (get_or s i 0))
          (sym (char-at s i h) ∙ sym e ∙ z)

      pub name-next : (n : ℕ) → n ≡ char_len (drop i s) → (n ≡ 0 → ⊥) →
          named [] (drop i s) ≡ longer n (named [] (drop (i + n) s))
      name-next n e z =
          let j : suc i + (n - 1) ≡ i + n = omega arith in
          named-at
          ∙ onward-next (drop (suc i) s) (followers (get_or s i 0)) n (followers-high (get_or s i 0))
          (sym (char-at s i h) ∙ sym e) z
          ∙ ap (λ x. longer n (named [] x)) (drop-drop (n - 1) (suc i) s ∙ ap (λ k. drop k s) j)

-- ------------------------------------------------------------------------------------------------
-- a run of ASCII in front of the rest of a name

module _ (s : List ℕ) (at j : ℕ) (e : j ≡ at + run_len (range 1 0x7f) (drop at s)) where
  ascii-passed : Passed (name_in s at) (named []) s at j
  ascii-passed = pass-run (range 1 0x7f) (named []) name-byte (begin s at (name-begin s at)) j e

  pub name_endless : length s ≤ j → None ≡ name_in s at
  name_endless l = failed ascii-passed (name-over s j l)

  pub name_ended : j < length s → get_or s j 0 ≡ 0 → Some (j - at) ≡ name_in s at
  name_ended l z = ended ascii-passed (name-zero s j l z)

  by-rest : (o : Option ℕ) → o ≡ name_in s j → longer (j - at) o ≡ name_in s at
  by-rest o q = ap (longer (j - at)) (q ∙ name-begin s j) ∙ sym ascii-passed.rest

  pub name_broken : None ≡ option_map (λ n. j + n) (name_in s j) → None ≡ name_in s at
  name_broken q = go (name_in s j) refl q
    where
      go : (o : Option ℕ) → o ≡ name_in s j → None ≡ option_map (λ n. j + n) o → None ≡ name_in s at
      go None r q = by-rest None r
      go (Some n) r q = absurd cc

  -- its end, and that it isn't in front of its start
  rest-ends :
      (end : ℕ) (o : Option ℕ) → o ≡ name_in s j → Some end ≡ option_map (λ n. j + n) o →
      (at ≤ end) × (Some (end - at) ≡ name_in s at)
  rest-ends end None r q = absurd cc
  rest-ends end (Some n) r q =
      let z : end ≡ j + n = cc in
      let f = ascii-passed.from in
      let y : end - at ≡ j - at + n = omega (arith, z, f) in
      (omega (arith, z, f), ap Some y ∙ by-rest (Some n) r)

  pub name_on : (end : ℕ) → Some end ≡ option_map (λ n. j + n) (name_in s j) →
      (at ≤ end) × (Some (end - at) ≡ name_in s at)
  name_on end q = rest-ends end (name_in s j) refl q

pub name_outside : (s : List ℕ) (at : ℕ) → length s ≤ at → None ≡ name_in s at
name_outside s at l = sym (name-begin s at ∙ name-over s at l)

-- the place where a name ends, from its length
pub end_none : (s : List ℕ) (at : ℕ) → None ≡ name_in s at → None ≡ option_map (λ n. at + n) (name_in s at)
end_none s at q = ap (option_map (λ n. at + n)) q

pub end_at :
    (s : List ℕ) (at j : ℕ) → at ≤ j → Some (j - at) ≡ name_in s at →
    Some j ≡ option_map (λ n. at + n) (name_in s at)
end_at s at j l q =
    let z : j ≡ at + (j - at) = omega arith in ap Some z ∙ ap (option_map (λ n. at + n)) q
