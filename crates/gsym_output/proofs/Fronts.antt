-- Texts that are written one after the other, all of each or a front of one.
-- Assumes nothing.
use Rattle.std.proofs.Common.{◌≡◌, ℕ, List, [], ◌++◌, Option, Result, Ok, Err, length, take, drop, refl, sym, ap, ◌∙◌}
use Rattle.std.proofs.Common.{append_assoc, append-nil, subst, take-append-drop, OnErr}
use Rattle.std.specs.Prelude.{IsErr}
use Rattle.std.proofs.Math.Seq.{take-append_seam}
use Rattle.std.specs.Io.{StartsWith}
use Rattle.std.specs.Io.KnownBytes.{Appends, Keeps}
use Rattle.std.proofs.KnownBytes.{Appends-nil, Appends-trans, Appends-kept, starts_with_rest}
use Rattle.gsym_output.specs.Writing.{AppendsFront, Writes}

-- ---- a front of a text

front-more : (s t front : List ℕ) → StartsWith s front → StartsWith (s ++ t) front
front-more s t front h =
    ap (λ u. take (length front) (u ++ t)) (starts_with_rest s front h)
    ∙ ap (take (length front)) (append_assoc front (drop (length front) s) t)
    ∙ take-append_seam front (drop (length front) s ++ t)

front-behind : (s t front : List ℕ) → StartsWith t front → StartsWith (s ++ t) (s ++ front)
front-behind s t front h =
    ap (λ u. take (length (s ++ front)) (s ++ u)) (starts_with_rest t front h)
    ∙ ap (take (length (s ++ front))) (sym (append_assoc s front (drop (length front) t)))
    ∙ take-append_seam (s ++ front) (drop (length front) t)

-- ---- what a writer holds

pub front_of : (a b : Option (List ℕ)) (s t : List ℕ) → AppendsFront a b s → AppendsFront a b (s ++ t)
front_of a b s t h = (h.0, front-more s t h.0 h.1, h.2)

-- nothing of it
pub front_none : (a : Option (List ℕ)) (s : List ℕ) → AppendsFront a a s
front_none a s = ([], refl, Appends-nil a)

pub front_then : (a b c : Option (List ℕ)) (s t : List ℕ) → Appends a b s → AppendsFront b c t
    → AppendsFront a c (s ++ t)
front_then a b c s t p h = (s ++ h.0, front-behind s t h.0 h.1, Appends-trans a b c s h.0 p h.2)

pub writes_then : {A E : Type 0} (a b c : Option (List ℕ)) (r : Result A E) (s t : List ℕ) → Appends a b s
    → Writes b c r t → Writes a c r (s ++ t)
writes_then a b c (Ok x) s t p q = Appends-trans a b c s t p q
writes_then a b c (Err e) s t p q = front_then a b c s t p q

-- where it is an error
pub writes_err : {A E : Type 0} (a b : Option (List ℕ)) (r : Result A E) (s : List ℕ) → IsErr r → AppendsFront a b s
    → Writes a b r s
writes_err a b (Ok x) s e p = absurd cc
writes_err a b (Err x) s e p = p

pub on_err : {A E : Type 0} (P : Type 0) (r : Result A E) → P → OnErr r P
on_err P (Ok x) p = tt
on_err P (Err x) p = p

-- ---- a text whose front was written

-- what was written and what is left is the text
abbrev pub PartWritten : Option (List ℕ) → Option (List ℕ) → List ℕ → List ℕ → Type 0
PartWritten a b rest text = (done : List ℕ) × Appends a b done × (done ++ rest ≡ text)

pub part_start : (a : Option (List ℕ)) (text : List ℕ) → PartWritten a a text text
part_start a text = ([], Appends-nil a, refl)

pub part_on : (a b c : Option (List ℕ)) (rest text : List ℕ) (n : ℕ) → PartWritten a b rest text
    → Appends b c (take n rest) → PartWritten a c (drop n rest) text
part_on a b c rest text n p q = (
  p.0 ++ take n rest,
  Appends-trans a b c p.0 (take n rest) p.1 q,
  append_assoc p.0 (take n rest) (drop n rest) ∙ ap (λ s. p.0 ++ s) (take-append-drop n rest) ∙ p.2,
)

pub part_end : (a b : Option (List ℕ)) (rest text : List ℕ) → PartWritten a b rest text → rest ≡ [] → Appends a b text
part_end a b rest text p e = subst (Appends a b) (sym (append-nil p.0) ∙ ap (λ s. p.0 ++ s) (sym e) ∙ p.2) p.1

pub part_cut : (a b c : Option (List ℕ)) (rest text : List ℕ) → PartWritten a b rest text → Keeps b c
    → AppendsFront a c text
part_cut a b c rest text p k =
    (p.0, ap (take (length p.0)) (sym p.2) ∙ take-append_seam p.0 rest, Appends-kept a b c p.0 p.1 k)

-- ---- whoever writes what is left, or a front of it, has written all, or a front of that

abbrev pub Leads : Option (List ℕ) → Option (List ℕ) → List ℕ → List ℕ → Type 0
Leads a b rest all =
    (c : Option (List ℕ)) → (Appends b c rest → Appends a c all) × (AppendsFront b c rest → AppendsFront a c all)

pub leads_start : (a : Option (List ℕ)) (s : List ℕ) → Leads a a s s
leads_start a s = λ c. (λ p. p, λ p. p)

pub leads_on : (a b c : Option (List ℕ)) (s rest left all : List ℕ) → Leads a b left all → left ≡ s ++ rest
    → Appends b c s → Leads a c rest all
leads_on a b c s rest left all l e p =
    λ d. (
      λ q. (l d).0 (rw e (Appends-trans b c d s rest p q)),
      λ q. (l d).1 (rw e (front_then b c d s rest p q)),
    )

pub leads_end : (a b : Option (List ℕ)) (left all : List ℕ) → Leads a b left all → left ≡ [] → Appends a b all
leads_end a b left all l e = (l b).0 (rw e (Appends-nil b))

pub leads_cut : (a b c : Option (List ℕ)) (s rest left all : List ℕ) → Leads a b left all → left ≡ s ++ rest
    → AppendsFront b c s → AppendsFront a c all
leads_cut a b c s rest left all l e p = (l c).1 (rw e (front_of b c s rest p))

-- what is left is written, or a front of it
pub leads_writes : {A E : Type 0} (a b c : Option (List ℕ)) (r : Result A E) (left all : List ℕ) → Leads a b left all
    → Writes b c r left → Writes a c r all
leads_writes a b c (Ok x) left all l p = (l c).0 p
leads_writes a b c (Err e) left all l p = (l c).1 p
