-- What a text from the front on leaves in lent bytes.
-- Assumes nothing.
use Rattle.std.proofs.Common.{◌≡◌, ℕ, zero, suc, ◌+◌, ◌-◌, ◌^◌, ◌<◌, ◌≤◌, List, [], ◌∷◌, ◌++◌, length, take, drop, set}
use Rattle.std.proofs.Common.{min, max, refl, sym, ap, ◌∙◌, arith, drop-cons, append_assoc}
use Rattle.std.proofs.lemmas.List.{take-append-drop, length-set, drop-set-lt}
use Rattle.std.proofs.Math.ListN.{drop_of_length-le}
use Rattle.std.proofs.Math.Seq.{take-suc-set}
use Rattle.std.specs.Prelude.{Bool, true, false, nat_lt}
use borrow.Author.Tests.{ltb-true, ltb-false}
use Rattle.gsym_printed.specs.Page.{with_byte, put}
use Rattle.gsym_printed.specs.Answers.{IsWritten}

-- a text over the front of a list
over : List ℕ → List ℕ → List ℕ
over [] room = room
over (b ∷ s) [] = []
over (b ∷ s) (x ∷ room) = b ∷ over s room

over-none : (s : List ℕ) → over s [] ≡ []
unfolding over
over-none [] = refl
over-none (b ∷ s) = refl

over-front : (s room : List ℕ) → take (length s) (over s room) ≡ take (length room) s
unfolding over
over-front [] [] = refl
over-front [] (x ∷ room) = refl
over-front (b ∷ s) [] = refl
over-front (b ∷ s) (x ∷ room) = ap (λ t. b ∷ t) (over-front s room)

over-rest : (s room : List ℕ) → drop (length s) (over s room) ≡ drop (length s) room
unfolding over
over-rest [] room = refl
over-rest (b ∷ s) [] = refl
over-rest (b ∷ s) (x ∷ room) = over-rest s room

take-all : (s : List ℕ) (n : ℕ) → length s ≤ n → take n s ≡ s
take-all [] zero l = refl
take-all [] (suc n) l = refl
take-all (x ∷ s) zero l = absurd (omega (arith, l))
take-all (x ∷ s) (suc n) l = ap (λ t. x ∷ t) (take-all s n (omega (arith, l)))

set-past : (s : List ℕ) (n b : ℕ) → length s ≤ n → set s n b ≡ s
set-past [] n b l = refl
set-past (x ∷ s) zero b l = absurd (omega (arith, l))
set-past (x ∷ s) (suc n) b l = ap (λ t. x ∷ t) (set-past s n b (omega (arith, l)))

-- a byte more at a place of the list, or past its end
more-inside : (s room : List ℕ) (n b : ℕ) → n < length room
    → take (suc n) (set room n b) ++ over s (drop (suc n) (set room n b)) ≡ take n room ++ over (b ∷ s) (drop n room)
unfolding over
more-inside s room n b l =
    rw (take-suc-set room n b l, drop-set-lt (suc n) room n b (omega arith), drop-cons room n 0 l)
    (append_assoc (take n room) (b ∷ []) (over s (drop (suc n) room)))

more-past : (s room : List ℕ) (n m b : ℕ) → length room ≤ n → length room ≤ m
    → take m (set room n b) ++ over s (drop m (set room n b)) ≡ take n room ++ over (b ∷ s) (drop n room)
unfolding over
more-past s room n m b l k =
    rw (
      set-past room n b l,
      take-all room m k,
      take-all room n l,
      drop_of_length-le room k,
      drop_of_length-le room l,
      over-none s,
    )
    refl

more-by : (s room : List ℕ) (n m b : ℕ) (inside : Bool) → nat_lt n (length room) ≡ inside
    → m ≡ min (n + 1) (max (length room) (2 ^ 64 - 1))
    → take m (set room n b) ++ over s (drop m (set room n b)) ≡ take n room ++ over (b ∷ s) (drop n room)
more-by s room n m b true t e =
    let k : n < length room = ltb-true _ _ t in
    let f : m ≡ suc n = omega (arith, e, k) in
    rw f (more-inside s room n b k)
more-by s room n m b false t e =
    let k : length room ≤ n = ltb-false _ _ t in
    more-past s room n m b k (omega (arith, e, k))

-- the bytes after a text was put at a place, and the place after it
put-bytes : (s room : List ℕ) (n : ℕ) → (put (room, n) s).0 ≡ take n room ++ over s (drop n room)
unfolding put with_byte over
put-bytes [] room n = sym (take-append-drop n room)
put-bytes (b ∷ s) room n =
    put-bytes s (set room n b) (min (n + 1) (max (length room) (2 ^ 64 - 1)))
    ∙ more-by s room n (min (n + 1) (max (length room) (2 ^ 64 - 1))) b (nat_lt n (length room)) refl refl

put-place : (s room : List ℕ) (n : ℕ) → n ≤ max (length room) (2 ^ 64 - 1)
    → (put (room, n) s).1 ≡ min (n + length s) (max (length room) (2 ^ 64 - 1))
unfolding put with_byte
put-place [] room n m = omega (arith, m)
put-place (b ∷ s) room n m =
    let k = length-set room n b in
    let h =
    put-place s (set room n b) (min (n + 1) (max (length room) (2 ^ 64 - 1))) (omega (arith, k))
    in
    omega (arith, h, m, k)

pub is_written : (old new : List ℕ) (n : ℕ) (s : List ℕ) → (new, n) ≡ put (old, 0) s → IsWritten old new n s
is_written old new n s e =
    let g : n ≡ (put (old, 0) s).1 = ap (λ p. p.1) e in
    let h : (put (old, 0) s).1 ≡ min (0 + length s) (max (length old) (2 ^ 64 - 1)) = put-place s old 0 (omega arith) in
    let f : new ≡ over s old = ap (λ p. p.0) e ∙ put-bytes s old 0 in
    record {
      counted = omega (arith, g, h);
      written = ap (take (length s)) f ∙ over-front s old;
      stays = ap (drop (length s)) f ∙ over-rest s old;
    }
