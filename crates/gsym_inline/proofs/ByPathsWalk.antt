-- What holds of a path in a forest, by where the path goes: to the first node, to a node below it, or past it.
-- Assumes nothing.
use Rattle.std.proofs.Common.{ℕ, suc, ◌↔◌, ◌≡◌, refl, ap, sym, subst, ◌∙◌, arith}
use Rattle.std.specs.Prelude.{Some, None}
use Rattle.gsym_inline.specs.Tree.{Node, Forest, none, tree}
use Rattle.gsym_inline.specs.Frames.{child_base}
use Rattle.gsym_inline.specs.Paths.{NodePath, top, under, UpTo, Placed, node_at, ContainsAddress, Holds, Open, IsFrame}
use Rattle.gsym_inline.proofs.PathLists.{later}

-- ---- paths

pub up-to-self : (p : NodePath) → UpTo p p
up-to-self (top i) = refl
up-to-self (under i p) = (refl, up-to-self p)

up-to-later : (p q : NodePath) → UpTo p q → UpTo (later p) (later q)
up-to-later (top i) (top j) u = ap suc u
up-to-later (top i) (under j q) u = ap suc u
up-to-later (under i p) (top j) u = elim u [ ]
up-to-later (under i p) (under j q) u = (ap suc u.0, u.1)

up-to-later-inv : (p q : NodePath) → UpTo p (later q) → (r : NodePath) × (p ≡ later r) × UpTo r q
up-to-later-inv (top i) (top j) u = (top j, ap top u, refl)
up-to-later-inv (top i) (under j q) u = (top j, ap top u, refl)
up-to-later-inv (under i p) (top j) u = elim u [ ]
up-to-later-inv (under i p) (under j q) u = (under j p, ap (λ k. under k p) u.0, (refl, u.1))

-- ---- the node at a path

pub nothing : {A : Type 0} {x : Placed} → None ≡ Some x → A
nothing {x = x} e = let z : ◌≡◌ {A = ℕ} 0 1 = cc in absurd (omega arith)

pub none-at : (base : ℕ) (p : NodePath) → node_at base none p ≡ None
unfolding node_at
none-at base p = refl

module _ (base : ℕ) (n : Node) (children rest : Forest) where
  pub node-first : node_at base (tree n children rest) (top 0) ≡ Some (record { base = base; node = n })
  unfolding node_at
  node-first = refl

  pub node-first-is :
      (x : Placed) → node_at base (tree n children rest) (top 0) ≡ Some x → record { base = base; node = n } ≡ x
  node-first-is x e = cc (node-first)

  pub node-under :
      (p : NodePath) → node_at base (tree n children rest) (under 0 p) ≡ node_at (child_base base n) children p
  unfolding node_at
  node-under p = refl

  pub node-later : (p : NodePath) → node_at base (tree n children rest) (later p) ≡ node_at base rest p
  unfolding node_at
  node-later (top i) = refl
  node-later (under i p) = refl

-- ---- open

module _ (addr base : ℕ) where
  pub open_none : (p : NodePath) → Open addr base none p → ⊥
  open_none p o = let h = o p (up-to-self p) in nothing (sym (none-at base p) ∙ h.there)

module _ (addr base : ℕ) (n : Node) (children rest : Forest) where
  holds-first : Holds addr base (tree n children rest) (top 0) ↔ ContainsAddress addr base n
  holds-first = (
    λ h.
        subst
        (λ (x : Placed). ContainsAddress addr x.base x.node)
        (sym (node-first-is base n children rest h.place h.there))
        h.contains,
    λ c. record { place = record { base = base; node = n }; there = node-first base n children rest; contains = c },
  )

  holds-under :
      (p : NodePath) → Holds addr base (tree n children rest) (under 0 p) ↔ Holds addr (child_base base n) children p
  holds-under p = (
    λ h. record { place = h.place; there = sym (node-under base n children rest p) ∙ h.there; contains = h.contains },
    λ h. record { place = h.place; there = node-under base n children rest p ∙ h.there; contains = h.contains },
  )

  holds_later : (p : NodePath) → Holds addr base (tree n children rest) (later p) ↔ Holds addr base rest p
  holds_later p = (
    λ h. record { place = h.place; there = sym (node-later base n children rest p) ∙ h.there; contains = h.contains },
    λ h. record { place = h.place; there = node-later base n children rest p ∙ h.there; contains = h.contains },
  )

  pub open-first : Open addr base (tree n children rest) (top 0) ↔ ContainsAddress addr base n
  open-first = (λ o. holds-first.0 (o (top 0) refl), from)
    where
      from : ContainsAddress addr base n → Open addr base (tree n children rest) (top 0)
      from c (top i) u = subst (λ k. Holds addr base (tree n children rest) (top k)) (sym u) (holds-first.1 c)
      from c (under i q) u = absurd u

  pub open-under :
      (p : NodePath) →
      Open addr base (tree n children rest) (under 0 p)
      ↔ (ContainsAddress addr base n × Open addr (child_base base n) children p)
  open-under p =
      (λ o. (holds-first.0 (o (top 0) refl), λ q u. (holds-under q).0 (o (under 0 q) (refl, u))), from)
    where
      from :
          ContainsAddress addr base n × Open addr (child_base base n) children p →
          Open addr base (tree n children rest) (under 0 p)
      from c (top i) u = subst (λ k. Holds addr base (tree n children rest) (top k)) (sym u) (holds-first.1 c.0)
      from c (under i q) u =
          subst
          (λ k. Holds addr base (tree n children rest) (under k q))
          (sym u.0)
          ((holds-under q).1 (c.1 q u.1))

  pub open-later : (p : NodePath) → Open addr base (tree n children rest) (later p) ↔ Open addr base rest p
  open-later p = (
    λ o q u. (holds_later q).0 (o (later q) (up-to-later q p u)),
    λ o q u.
        let i = up-to-later-inv q p u in
        subst (Holds addr base (tree n children rest)) (sym i.1) ((holds_later i.0).1 (o i.0 i.2)),
  )

-- ---- frames

pub frame-none : (addr base : ℕ) (p : NodePath) → IsFrame addr base none p → ⊥
frame-none addr base p f = nothing (sym (none-at base p) ∙ f.there)

module _ (addr base : ℕ) (n : Node) (children rest : Forest) where
  pub frame-first :
      IsFrame addr base (tree n children rest) (top 0) ↔ ((n.name ≡ 0 → ⊥) × ContainsAddress addr base n)
  frame-first = (
    λ f. (
      subst
          (λ (x : Placed). x.node.name ≡ 0 → ⊥)
          (sym (node-first-is base n children rest f.place f.there))
          f.named,
      (open-first addr base n children rest).0 f.opened,
    ),
    λ c.
        record {
          place = record { base = base; node = n };
          there = node-first base n children rest;
          named = c.0;
          opened = (open-first addr base n children rest).1 c.1;
        },
  )

  pub frame-under :
      (p : NodePath) →
      IsFrame addr base (tree n children rest) (under 0 p)
      ↔ (ContainsAddress addr base n × IsFrame addr (child_base base n) children p)
  frame-under p = (
    λ f.
        let o = (open-under addr base n children rest p).0 f.opened in (
          o.0,
          record {
            place = f.place;
            there = sym (node-under base n children rest p) ∙ f.there;
            named = f.named;
            opened = o.1;
          },
        ),
    λ c.
        record {
          place = c.1.place;
          there = node-under base n children rest p ∙ c.1.there;
          named = c.1.named;
          opened = (open-under addr base n children rest p).1 (c.0, c.1.opened);
        },
  )

  pub frame-later : (p : NodePath) → IsFrame addr base (tree n children rest) (later p) ↔ IsFrame addr base rest p
  frame-later p = (
    λ f.
        record {
          place = f.place;
          there = sym (node-later base n children rest p) ∙ f.there;
          named = f.named;
          opened = (open-later addr base n children rest p).0 f.opened;
        },
    λ f.
        record {
          place = f.place;
          there = node-later base n children rest p ∙ f.there;
          named = f.named;
          opened = (open-later addr base n children rest p).1 f.opened;
        },
  )
