-- The conditions of RULES on judged nodes and on levels, stated by paths, are those by recursion on the tree.
-- Assumes nothing.
use Rattle.std.proofs.Common.{ℕ, zero, suc, ◌≤◌, ◌↔◌, ◌⊎◌, inl, inr, ⊎_elim, ◌≡◌, refl, ap, sym, subst, ◌∙◌, arith}
use Rattle.std.specs.Prelude.{Some}
use Rattle.gsym_inline.specs.Tree.{Node, Forest, none, tree}
use Rattle.gsym_inline.specs.Frames.{child_base}
use Rattle.gsym_inline.proofs.Forests.{Fits, depth}
use Rattle.gsym_inline.specs.Paths.{NodePath, top, under, child, UpTo, level, Placed, node_at, ContainsAddress, Open}
use Rattle.gsym_inline.specs.Paths.{Judged, on_top, of_open, NodeFits, JudgedFit, NoneOn, NoneBelow}
use Rattle.gsym_inline.proofs.PathLists.{later}
use Rattle.gsym_inline.proofs.ByPathsTests.{contains-iff, node-fits-iff}
use Rattle.gsym_inline.proofs.ByPathsWalk.{
  nothing,
  none-at,
  node-first,
  node-first-is,
  node-under,
  node-later,
  open-first,
  open-under,
  open-later,
}

-- ---- judged nodes, by where the path goes

later-child : (p : NodePath) (k : ℕ) → later (child p k) ≡ child (later p) k
later-child (top i) k = refl
later-child (under i p) k = refl

module _ (addr base : ℕ) (n : Node) (children rest : Forest) where
  judged-under :
      (p : NodePath) → ContainsAddress addr base n → Judged addr (child_base base n) children p →
      Judged addr base (tree n children rest) (under 0 p)
  judged-under p c (on_top i e) = of_open (top 0) i (ap (under 0) e) ((open-first addr base n children rest).1 c)
  judged-under p c (of_open q k e o) =
      of_open (under 0 q) k (ap (under 0) e) ((open-under addr base n children rest q).1 (c, o))

  judged-under-inv :
      (p : NodePath) → Judged addr base (tree n children rest) (under 0 p) →
      ContainsAddress addr base n × Judged addr (child_base base n) children p
  judged-under-inv p (on_top i e) = let z : ◌≡◌ {A = ℕ} 0 1 = cc in absurd (omega arith)
  judged-under-inv p (of_open (top i) k e o) =
      let a : i ≡ 0 = cc in
      let b : p ≡ top k = cc in (
        (open-first addr base n children rest).0
            (subst (λ j. Open addr base (tree n children rest) (top j)) a o),
        on_top k b,
      )
  judged-under-inv p (of_open (under i q) k e o) =
      let a : i ≡ 0 = cc in
      let b : p ≡ child q k = cc in
      let c = (open-under addr base n children rest q).0
      (subst (λ j. Open addr base (tree n children rest) (under j q)) a o) in
      (c.0, of_open q k b c.1)

  judged-later : (p : NodePath) → Judged addr base rest p → Judged addr base (tree n children rest) (later p)
  judged-later p (on_top i e) = on_top (suc i) (ap later e)
  judged-later p (of_open q k e o) =
      of_open (later q) k (ap later e ∙ later-child q k) ((open-later addr base n children rest q).1 o)

  judged-later-inv : (p : NodePath) → Judged addr base (tree n children rest) (later p) → Judged addr base rest p
  judged-later-inv (top i) j = on_top i refl
  judged-later-inv (under i p) (on_top j e) = let z : ◌≡◌ {A = ℕ} 0 1 = cc in absurd (omega arith)
  judged-later-inv (under i p) (of_open (top j) k e o) =
      let a : j ≡ suc i = cc in
      let b : p ≡ top k = cc in
      of_open (top i) k (ap (under i) b)
      ((open-later addr base n children rest (top i)).0
      (subst (λ m. Open addr base (tree n children rest) (top m)) a o))
  judged-later-inv (under i p) (of_open (under j q) k e o) =
      let a : j ≡ suc i = cc in
      let b : p ≡ child q k = cc in
      of_open (under i q) k (ap (under i) b)
      ((open-later addr base n children rest (under i q)).0
      (subst (λ m. Open addr base (tree n children rest) (under m q)) a o))

-- ---- open nodes are judged

up-to-child : (p q : NodePath) (k : ℕ) → UpTo p q → UpTo p (child q k)
up-to-child (top i) (top j) k u = u
up-to-child (top i) (under j q) k u = u
up-to-child (under i p) (top j) k u = elim u [ ]
up-to-child (under i p) (under j q) k u = (u.0, up-to-child p q k u.1)

parent_of : (p : NodePath) → ((i : ℕ) × (p ≡ top i)) ⊎ ((q : NodePath) × (k : ℕ) × (p ≡ child q k))
parent_of (top i) = inl (i, refl)
parent_of (under i p) =
    ⊎_elim
    (λ (a : (k : ℕ) × (p ≡ top k)). inr (top i, a.0, ap (under i) a.1))
    (λ (a : (q : NodePath) × (k : ℕ) × (p ≡ child q k)). inr (under i a.0, a.1, ap (under i) a.2))
    (parent_of p)

pub open-judged :
    (addr base : ℕ) (forest : Forest) (p : NodePath) → Open addr base forest p → Judged addr base forest p
open-judged addr base forest p o =
    ⊎_elim
    (λ (a : (i : ℕ) × (p ≡ top i)). on_top a.0 a.1)
    (λ (a : (q : NodePath) × (k : ℕ) × (p ≡ child q k)).
    of_open a.0 a.1 a.2 (λ r u. o r (subst (UpTo r) (sym a.2) (up-to-child r a.0 a.1 u))))
    (parent_of p)

-- ---- sums and call files

fits-judged : (addr base : ℕ) (forest : Forest) → Fits addr base forest → JudgedFit addr base forest
unfolding Fits
fits-judged addr base none f p x e j = nothing (sym (none-at base p) ∙ e)
fits-judged addr base (tree n children rest) f (top zero) x e j =
    subst
    (λ (y : Placed). NodeFits y.base y.node)
    (node-first-is base n children rest x e)
    ((node-fits-iff base n).0 (f.0, f.1))
fits-judged addr base (tree n children rest) f (top (suc i)) x e j =
    let d = sym (node-later base n children rest (top i)) ∙ e in
    fits-judged addr base rest f.3 (top i) x d (judged-later-inv addr base n children rest (top i) j)
fits-judged addr base (tree n children rest) f (under zero p) x e j =
    let d = sym (node-under base n children rest p) ∙ e in
    let c = judged-under-inv addr base n children rest p j in
    fits-judged addr (child_base base n) children (f.2 ((contains-iff addr base n).1 c.0)) p x d c.1
fits-judged addr base (tree n children rest) f (under (suc i) p) x e j =
    let d = sym (node-later base n children rest (under i p)) ∙ e in
    fits-judged addr base rest f.3 (under i p) x d (judged-later-inv addr base n children rest (under i p) j)

judged-fits : (addr base : ℕ) (forest : Forest) → JudgedFit addr base forest → Fits addr base forest
unfolding Fits
judged-fits addr base none f = tt
judged-fits addr base (tree n children rest) f =
    let first : Placed = record { base = base; node = n } in
    let own = (node-fits-iff base n).1 (f (top 0) first (node-first base n children rest) (on_top 0 refl)) in (
      own.0,
      own.1,
      λ h.
          let c = (contains-iff addr base n).0 h in
          judged-fits addr (child_base base n) children
          (λ p x e j. f (under 0 p) x (node-under base n children rest p ∙ e)
          (judged-under addr base n children rest p c j)),
      judged-fits addr base rest
          (λ p x e j. f (later p) x (node-later base n children rest p ∙ e)
          (judged-later addr base n children rest p j)),
    )

-- no judged node has a start or an end above 2^64-1 or a call file above the limit
pub fits_iff : (addr base : ℕ) (forest : Forest) → Fits addr base forest ↔ JudgedFit addr base forest
fits_iff addr base forest = (fits-judged addr base forest, judged-fits addr base forest)

-- ---- levels

level-later : (p : NodePath) → level (later p) ≡ level p
level-later (top i) = refl
level-later (under i p) = refl

level-depth :
    (base : ℕ) (forest : Forest) (p : NodePath) (x : Placed) → node_at base forest p ≡ Some x → level p ≤ depth forest
unfolding depth
level-depth base none p x e = nothing (sym (none-at base p) ∙ e)
level-depth base (tree n children rest) (top zero) x e = omega arith
level-depth base (tree n children rest) (top (suc i)) x e =
    omega (arith, level-depth base rest (top i) x (sym (node-later base n children rest (top i)) ∙ e))
level-depth base (tree n children rest) (under zero p) x e =
    omega (arith, level-depth (child_base base n) children p x (sym (node-under base n children rest p) ∙ e))
level-depth base (tree n children rest) (under (suc i) p) x e =
    omega (arith, level-depth base rest (under i p) x (sym (node-later base n children rest (under i p)) ∙ e))

none-on-depth : (l base : ℕ) (forest : Forest) → NoneOn (suc l) base forest → depth forest ≤ l
unfolding depth
none-on-depth l base none f = omega arith
none-on-depth zero base (tree n children rest) f =
    absurd (f (top 0) (record { base = base; node = n }) (node-first base n children rest) refl)
none-on-depth (suc l) base (tree n children rest) f =
    omega (
      arith,
      none-on-depth l (child_base base n) children
          (λ p x e h. f (under 0 p) x (node-under base n children rest p ∙ e) (ap suc h)),
      none-on-depth (suc l) base rest
          (λ p x e h. f (later p) x (node-later base n children rest p ∙ e) (level-later p ∙ h)),
    )

module _ (l base : ℕ) (forest : Forest) where
  -- none stands on level l + 1 exactly where there are at most l levels
  pub none-on-iff : NoneOn (suc l) base forest ↔ (depth forest ≤ l)
  none-on-iff = (none-on-depth l base forest, λ h p x e k. omega (arith, level-depth base forest p x e))

  -- and then none stands deeper
  pub none-below-iff : NoneBelow l base forest ↔ (depth forest ≤ l)
  none-below-iff = (
    λ f. none-on-depth l base forest (λ p x e k. omega (arith, f p x e)),
    λ h p x e. omega (arith, level-depth base forest p x e),
  )
