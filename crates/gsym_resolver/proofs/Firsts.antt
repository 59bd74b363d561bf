-- The first of a list of which something holds: it is the first element, or the first of the others.
-- Assumes nothing.
use Rattle.std.proofs.Common.{◌≡◌, List, [], ◌∷◌, ◌++◌, ◌⊎◌, inl, inr, refl, ap, subst}
use Rattle.std.specs.List.{All}
use Rattle.std.proofs.lemmas.List.Elements.{All-nil, All-cons, All-head, All-tail}
use Rattle.gsym_resolver.specs.Met.{First}

module _ {A : Type 0} (N P : A → Type 0) where
  pub first_here : (x : A) (xs : List A) → P x → First N P (x ∷ xs)
  first_here x xs h =
      record { before = []; this = x; after = xs; split = refl; each = All-nil N; holds = h }

  pub first_later : (x : A) (xs : List A) → N x → First N P xs → First N P (x ∷ xs)
  first_later x xs n F = record {
    before = x ∷ F.before;
    this = F.this;
    after = F.after;
    split = ap (λ l. x ∷ l) F.split;
    each = All-cons N x F.before n F.each;
    holds = F.holds;
  }

  pub first_cases : (x : A) (xs : List A) → First N P (x ∷ xs) → P x ⊎ (N x × First N P xs)
  first_cases x xs F = go F.before F.split F.each
    where
      go : (before : List A) → x ∷ xs ≡ before ++ F.this ∷ F.after → All N before → P x ⊎ (N x × First N P xs)
      go [] s e = let q : F.this ≡ x = cc in inl (subst P q F.holds)
      go (b ∷ bs) s e =
          let q : b ≡ x = cc in
          let t : xs ≡ bs ++ F.this ∷ F.after = cc in
          inr (
            subst N q (All-head N b bs e),
            record {
              before = bs;
              this = F.this;
              after = F.after;
              split = t;
              each = All-tail N b bs e;
              holds = F.holds;
            },
          )

  pub first_none : First N P [] → ⊥
  first_none F = go F.before F.split
    where
      go : (before : List A) → [] ≡ before ++ F.this ∷ F.after → ⊥
      go [] s = cc
      go (b ∷ bs) s = cc
