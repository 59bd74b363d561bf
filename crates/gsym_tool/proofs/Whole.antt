-- A text that was written into enough bytes is there in full; one answer more of a list.
-- Assumes nothing.
use Rattle.std.proofs.Common.{◌≡◌, ℕ, zero, suc, ◌+◌, ◌-◌, ◌^◌, ◌<◌, ◌≤◌, List, [], ◌∷◌, ◌++◌, length, get_or, take}
use Rattle.std.proofs.Common.{Option, refl, sym, ap, ◌∙◌, arith, add-one}
use Rattle.std.specs.List.{flat_map}
use Rattle.std.proofs.lemmas.List.{flat_map_more}
use Rattle.std.proofs.Math.Seq.{take-suc}
use Rattle.std.specs.Io.KnownBytes.{Appends}
use Rattle.std.proofs.KnownBytes.{Appends-trans}
use Rattle.gsym_printed.specs.Answers.{IsWritten}

take-all : (s : List ℕ) (n : ℕ) → length s ≤ n → take n s ≡ s
take-all [] zero l = refl
take-all [] (suc n) l = refl
take-all (x ∷ s) zero l = absurd (omega (arith, l))
take-all (x ∷ s) (suc n) l = ap (λ t. x ∷ t) (take-all s n (omega (arith, l)))

pub whole : (old new : List ℕ) (n : ℕ) (text : List ℕ) → IsWritten old new n text → n ≤ length old
    → length old < 2 ^ 64 - 1 → take n new ≡ text
whole old new n text w l s =
    let e : n ≡ length text = omega (arith, w.counted, l, s) in
    let k : length text ≤ length old = omega (arith, e, l) in
    rw e (w.written ∙ take-all text (length old) k)

-- the next piece, from the front
one-more : {X A : Type 0} (f : X → List A) (old : List A) (xs : List X) (i : ℕ) (d : X) → i < length xs
    → (old ++ flat_map f (take i xs)) ++ f (get_or xs i d) ≡ old ++ flat_map f (take (i + 1) xs)
one-more f old xs i d l =
    rw (add-one i)
    (flat_map_more f old (take i xs) (get_or xs i d) ∙ ap (λ t. old ++ flat_map f t) (sym (take-suc xs i d l)))

-- what a writer holds, by one piece more
pub appends-more : {X : Type 0} (a b c : Option (List ℕ)) (f : X → List ℕ) (xs : List X) (i : ℕ) (x : X) → i < length xs
    → x ≡ get_or xs i x → Appends a b (flat_map f (take i xs)) → Appends b c (f x)
    → Appends a c (flat_map f (take (i + 1) xs))
appends-more a b c f xs i x l e p q =
    let m : flat_map f (take i xs) ++ f x ≡ flat_map f (take (i + 1) xs) =
    ap (λ y. flat_map f (take i xs) ++ f y) e ∙ one-more f [] xs i x l in
    rw m at (Appends-trans a b c (flat_map f (take i xs)) (f x) p q)
