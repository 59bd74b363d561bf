-- Texts after one another on a page.
-- Assumes nothing.
use Rattle.std.proofs.Common.{◌≡◌, ℕ, ◌+◌, ◌<◌, ◌≤◌, List, [], ◌∷◌, ◌++◌, length, drop, get_or, refl, add-one}
use Rattle.std.proofs.Common.{drop-cons}
use Rattle.std.proofs.Math.ListN.{drop_of_length-le}
use Rattle.std.specs.List.{flat_map}
use Rattle.std.specs.Prelude.{◌/◌, ◌%◌, ◌^◌, decimal}
use Rattle.std.proofs.Common.{arith, ◌∙◌, ap}
use Rattle.std.proofs.lemmas.Fmt.{decimal_step, decimal_by_steps}
use Rattle.gsym_printed.specs.Page.{with_byte, put, joined}

-- a text of two parts is one after the other
pub put_append : (page : List ℕ × ℕ) (s t : List ℕ) → put page (s ++ t) ≡ put (put page s) t
unfolding put
put_append page [] t = refl
put_append page (b ∷ s) t = put_append (with_byte page b) s t

pub put_join : (page : List ℕ × ℕ) (s t : List ℕ) → put page (joined s t) ≡ put (put page s) t
unfolding joined
put_join page s t = put_append page s t

pub put_nothing : (page : List ℕ × ℕ) → put page [] ≡ page
unfolding put
put_nothing page = refl

-- for the search
pub ruleset putting = (put_join, put_append, put_nothing)

-- ---- decimal digits

pub decimal_one : (n : ℕ) → n < 10 → decimal n ≡ (48 + n) ∷ []
decimal_one n l =
    decimal_by_steps (λ m ds. m < 10 → ds ≡ (48 + m) ∷ []) (λ m s k. refl)
    (λ m ds t h k. absurd (omega (arith, t, k))) n
    (omega (arith, l)) l

pub put_decimal_more : (page : List ℕ × ℕ) (n : ℕ) → 10 ≤ n → n < 2 ^ 64
    → put page (decimal n) ≡ put (put page (decimal (n / 10))) ((48 + n % 10) ∷ [])
put_decimal_more page n l m =
    ap (put page) (decimal_step n l m) ∙ put_append page (decimal (n / 10)) ((48 + n % 10) ∷ [])

-- ---- several texts

-- a text for each item: the first one's, and then those of the rest
pub put_each : {X : Type 0} (f : X → List ℕ) (page : List ℕ × ℕ) (x : X) (xs ys : List X) → ys ≡ x ∷ xs
    → put page (flat_map f ys) ≡ put (put page (f x)) (flat_map f xs)
put_each f page x xs ys e = rw e (put_append page (f x) (flat_map f xs))

pub put_none : {X : Type 0} (f : X → List ℕ) (page : List ℕ × ℕ) (ys : List X) → ys ≡ []
    → put page (flat_map f ys) ≡ page
unfolding put
put_none f page ys e = rw e refl

-- bytes one after the other
pub put_more : (page : List ℕ × ℕ) (s : List ℕ) (i : ℕ) → i < length s
    → put page (drop i s) ≡ put (put page (get_or s i 0 ∷ [])) (drop (i + 1) s)
unfolding put
put_more page s i l = rw (drop-cons s i 0 l, add-one i) refl

pub put_end : (page : List ℕ × ℕ) (s : List ℕ) (i : ℕ) → length s ≤ i → put page (drop i s) ≡ page
unfolding put
put_end page s i l = rw (drop_of_length-le s l) refl
