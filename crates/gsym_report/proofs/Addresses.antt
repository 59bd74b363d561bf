-- The input of a report: its addresses, one after the other, and where it is none.
-- Assumes nothing.
use Rattle.std.proofs.Common.{◌≡◌, ℕ, zero, suc, ◌/◌, ◌%◌, ◌<◌, ◌≤◌, Bool, true, false, List, [], ◌∷◌, ◌++◌}
use Rattle.std.proofs.Common.{length, take, drop, Option, Some, None, refl, sym, ap, ◌∙◌, append_assoc, arith}
use Rattle.std.proofs.Common.{length-take, length-drop, take_all, IfSome, option_map, subst}
use Rattle.std.specs.Prelude.{nat_le, nat_lt, ◌==◌}
use Rattle.std.proofs.lemmas.Bool.Decides.{nat_tests}
use Rattle.std.specs.Int.{w32, w64, from_le_bytes}
use Rattle.gsym_types.specs.declared.Address.{Address}
use Rattle.gsym_reads.specs.Fronts.{u32_front}
use Rattle.gsym_reads.specs.Maybe.{◌>>=◌, ◌>>◌, need}
use Rattle.gsym_report.specs.Input.{addresses_at, addresses_of, Question, question_of, output_by, output_of}

le-true : (a b : ℕ) → a ≤ b → nat_le a b ≡ true
le-true a b l = grind (arith, nat_tests)

lt-false : (a b : ℕ) → b ≤ a → nat_lt a b ≡ false
lt-false a b l = grind (arith, nat_tests)

le-false : (a b : ℕ) → b < a → nat_le a b ≡ false
le-false a b l = grind (arith, nat_tests)

-- ---- addresses

pub addresses-more : (bytes rest after : List ℕ) (list more : List Address) (n : ℕ)
    → list ++ addresses_at (length rest / 8) rest ≡ addresses_at (length bytes / 8) bytes → 8 ≤ length rest
    → n ≡ from_le_bytes w64 (take 8 rest) → after ≡ drop 8 rest → more ≡ list ++ record { 0 = n } ∷ []
    → more ++ addresses_at (length after / 8) after ≡ addresses_at (length bytes / 8) bytes
addresses-more bytes rest after list more n h l e a m =
    let k : length rest / 8 ≡ suc (length (drop 8 rest) / 8) = omega (arith, length-drop 8 rest, l) in
    rw (m, a, e)
    (append_assoc list (record { 0 = from_le_bytes w64 (take 8 rest) } ∷ [])
    (addresses_at (length (drop 8 rest) / 8) (drop 8 rest))
    ∙ ap (λ j. list ++ addresses_at j rest) (sym k) ∙ h)

length-addresses : (k : ℕ) (s : List ℕ) → length (addresses_at k s) ≡ k
length-addresses zero s = refl
length-addresses (suc k) s = ap suc (length-addresses k (drop 8 s))

-- ---- what is asked for

never : {A : Type 0} (x : A) → Some x ≡ None → ⊥
never x e = cc

some-is : {A : Type 0} (x y : A) → Some x ≡ Some y → x ≡ y
some-is x y e = cc

-- the addresses behind a file, with that file
abbrev asked_behind : List ℕ → List ℕ → Option Question
asked_behind file behind = do
  addresses ← addresses_of behind
  need (nat_le (length addresses) 256)
  Some (record { file = file; addresses = addresses })

sized : (most : ℕ) (input rest : List ℕ) (size : ℕ) → Some (size, rest) ≡ u32_front input → size ≤ most
    → size ≤ length rest → question_of most input ≡ asked_behind (take size rest) (drop size rest)
sized most input rest size e l m = rw (sym e, le-true size most l, le-true size (length rest) m) refl

none-behind : (file behind : List ℕ) → 2048 < length behind → asked_behind file behind ≡ None
none-behind file behind l = by (length behind % 8 == 0) refl
  where
    by : (whole : Bool) → (length behind % 8 == 0) ≡ whole → asked_behind file behind ≡ None
    by false e = rw e refl
    by true e =
        let z : length behind % 8 ≡ 0 = grind (arith, nat_tests) in
        let n : 256 < length (addresses_at (length behind / 8) behind) =
        omega (arith, length-addresses (length behind / 8) behind, z, l) in
        rw (e, le-false (length (addresses_at (length behind / 8) behind)) 256 n) refl

pub too_many : (most : ℕ) (input rest behind : List ℕ) (size : ℕ) → Some (size, rest) ≡ u32_front input → size ≤ most
    → size ≤ length rest → behind ≡ drop size rest → 2048 < length behind → None ≡ question_of most input
too_many most input rest behind size e l m d k =
    sym (sized most input rest size e l m
    ∙ none-behind (take size rest) (drop size rest) (subst (λ s. 2048 < length s) d k))

few-behind : (file behind : List ℕ) (addresses : List Address) → length behind ≤ 2048
    → Some addresses ≡ addresses_of behind
    → asked_behind file behind ≡ Some (record { file = file; addresses = addresses })
few-behind file behind addresses l h = by (length behind % 8 == 0) refl h
  where
    by : (whole : Bool) → (length behind % 8 == 0) ≡ whole → Some addresses ≡ addresses_of behind
        → asked_behind file behind ≡ Some (record { file = file; addresses = addresses })
    by false e k = absurd (never addresses (rw e at k))
    by true e k =
        let a : addresses ≡ addresses_at (length behind / 8) behind =
        some-is addresses (addresses_at (length behind / 8) behind) (rw e at k) in
        let n : length (addresses_at (length behind / 8) behind) ≤ 256 =
        omega (arith, length-addresses (length behind / 8) behind, l) in
        rw (e, le-true (length (addresses_at (length behind / 8) behind)) 256 n, a) refl

pub few : (most : ℕ) (input rest file behind : List ℕ) (size : ℕ) (addresses : List Address)
    → Some (size, rest) ≡ u32_front input → size ≤ most → size ≤ length rest → file ≡ take size rest
    → behind ≡ drop size rest → length behind ≤ 2048 → Some addresses ≡ addresses_of behind
    → Some (record { file = file; addresses = addresses }) ≡ question_of most input
few most input rest file behind size addresses e l m f d k h =
    sym (sized most input rest size e l m
    ∙ rw (sym f, sym d) (few-behind file behind addresses k h))

-- ---- more than an input can have

too-long : (s : List ℕ) → 51204 < length s → question_of 49152 s ≡ None
unfolding u32_front
too-long s l =
    by (nat_le size 49152) refl
  where
    size : ℕ
    size = from_le_bytes w32 (take 4 s)

    rest : List ℕ
    rest = drop 4 s

    front : Some (size, rest) ≡ u32_front s
    front = rw (lt-false (length s) 4 (omega (arith, l))) refl

    by : (b : Bool) → nat_le size 49152 ≡ b → question_of 49152 s ≡ None
    by false e = rw (sym front, e) refl
    by true e =
        let m : size ≤ 49152 = grind (arith, nat_tests) in
        let n : 2048 < length (drop size rest) = omega (arith, length-drop size rest, length-drop 4 s, l, m) in
        sym (too_many 49152 s rest (drop size rest) size front m (omega (arith, length-drop 4 s, l, m)) refl n)

pub output-cut : (s : List ℕ) → output_of (take 51205 s) ≡ output_of s
output-cut s = by (nat_le (length s) 51204) refl
  where
    by : (b : Bool) → nat_le (length s) 51204 ≡ b → output_of (take 51205 s) ≡ output_of s
    by true e =
        let m : length s ≤ 51205 = grind (arith, nat_tests) in
        ap output_of (take_all 51205 s m)
    by false e =
        let m : 51204 < length s = grind (arith, nat_tests) in
        let n : 51204 < length (take 51205 s) = omega (arith, length-take 51205 s, m) in
        ap output_by (too-long (take 51205 s) n ∙ sym (too-long s m))

pub read-enough : (had : Option (List ℕ)) (bytes : List ℕ) → IfSome (option_map (take 51205) had) (λ s. bytes ≡ s)
    → IfSome had (λ s. output_of bytes ≡ output_of s)
read-enough None bytes h = tt
read-enough (Some s) bytes h = ap output_of h ∙ output-cut s
