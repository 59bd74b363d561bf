-- What a first node adds to the list of paths, with all below it and with the nodes after it: which members, in which
-- order, and which frames.
-- Assumes nothing.
use Rattle.std.proofs.Common.{if◌then◌else◌}
use Prim.Native.Nat.{ℕ}
use mathlib.Core.Bool.{Bool, true, false}
use mathlib.Core.List.Memᴰ
use mathlib.Core.List.{
  List,
  [],
  ◌∷◌,
  ◌++◌,
  map,
  map-map,
  map-append,
  Memᴰ,
}
use mathlib.Core.Logic.{⊎_elim}
use Rattle.std.specs.Prelude.{Option, Some, option_map}
use mathlib.Core.Path.{◌≡◌, refl, ap, ap₂, sym, subst, subst₂, fun_ext, ◌∙◌}
use lib.Dec.{eqb}
use native.Mathlib.Omega.{arith}
use borrow.Author.Tests.{eqb-false, ne_eqb}
use Rattle.gsym_types.specs.declared.InlineFrame.{InlineFrame}
use Rattle.gsym_inline.specs.Tree.{Node, Forest, tree}
use Rattle.gsym_inline.specs.Frames.{any_in, child_base, frame_of, named}
use Rattle.gsym_inline.specs.Paths.{NodePath, top, under, first, Placed, frame_at, IsFrame, Before, parent, sibling}
use Rattle.gsym_inline.specs.Paths.{inside, InOrder}
use Rattle.gsym_inline.proofs.PathLists.{later, own_path, frame_paths}
use Rattle.gsym_inline.proofs.ByPathsOrder.{
  first-later,
  before-later,
  ordered-nil,
  ordered-one,
  ordered-append,
  ordered-map,
}
use Rattle.gsym_inline.proofs.ByPathsTests.{contains-iff}
use Rattle.gsym_inline.proofs.ByPathsWalk.{
  node-first,
  node-under,
  node-later,
  frame-first,
  frame-under,
  frame-later,
}

module _ (p : NodePath) where
  own-inv : (n : Node) → Memᴰ p (own_path n) → (p ≡ top 0) × (n.name ≡ 0 → ⊥)
  own-inv n = go (eqb n.name 0) refl
    where
      go : (z : Bool) → eqb n.name 0 ≡ z → Memᴰ p (if z then [] else top 0 ∷ []) → (p ≡ top 0) × (n.name ≡ 0 → ⊥)
      go true e m = absurd (Memᴰ.not-nil m)
      go false e m = (Memᴰ.eq_of_singleton m, eqb-false _ _ e)

  pick_inv : (t : Bool) (ps : List NodePath) → Memᴰ p (if t then ps else []) → (t ≡ true) × Memᴰ p ps
  pick_inv true ps m = (refl, m)
  pick_inv false ps m = absurd (Memᴰ.not-nil m)

ordered-own : (n : Node) → InOrder (own_path n)
ordered-own n = go (eqb n.name 0)
  where
    go : (z : Bool) → InOrder (if z then [] else top 0 ∷ [])
    go true = ordered-nil
    go false = ordered-one (top 0)

ordered-pick : (t : Bool) (ps : List NodePath) → InOrder ps → InOrder (if t then ps else [])
ordered-pick true ps r = r
ordered-pick false ps r = ordered-nil

-- a placed node's frame
abbrev frame_of_place : Option Placed → Option InlineFrame
frame_of_place = option_map (λ x. frame_of x.node)

module _ (addr base : ℕ) (n : Node) (children rest : Forest) where
  -- of the children, of the node with all below it, of the nodes after it
  abbrev below : List NodePath
  below = frame_paths addr (child_base base n) children

  abbrev front : List NodePath
  front = if any_in addr base n.ranges then own_path n ++ map (under 0) below else []

  abbrev after : List NodePath
  after = frame_paths addr base rest

  -- ---- members

  pub listed-first : IsFrame addr base (tree n children rest) (top 0) → Memᴰ (top 0) (front ++ map later after)
  listed-first f =
      let c = (frame-first addr base n children rest).0 f in
      Memᴰ.append_left
      {s = front}
      (map later after)
      (rw ((contains-iff addr base n).1 c.1, ne_eqb _ _ c.0) (Memᴰ.head refl))

  pub listed-under :
      (p : NodePath) → (IsFrame addr (child_base base n) children p → Memᴰ p below) →
      IsFrame addr base (tree n children rest) (under 0 p) → Memᴰ (under 0 p) (front ++ map later after)
  listed-under p ih f =
      let c = (frame-under addr base n children rest p).0 f in
      Memᴰ.append_left
      {s = front}
      (map later after)
      (rw ((contains-iff addr base n).1 c.0) (Memᴰ.append_right (own_path n) (Memᴰ.map (under 0) (ih c.1))))

  pub listed-later :
      (p : NodePath) → (IsFrame addr base rest p → Memᴰ p after) →
      IsFrame addr base (tree n children rest) (later p) → Memᴰ (later p) (front ++ map later after)
  listed-later p ih f = Memᴰ.append_right front (Memᴰ.map later (ih ((frame-later addr base n children rest p).0 f)))

  front-inv :
      (p : NodePath) → ((q : NodePath) → Memᴰ q below → IsFrame addr (child_base base n) children q) →
      Memᴰ p front → IsFrame addr base (tree n children rest) p
  front-inv p ih m =
      let i = pick_inv p (any_in addr base n.ranges) (own_path n ++ map (under 0) below) m in
      let c = (contains-iff addr base n).0 i.0 in
      ⊎_elim
      (λ (o : Memᴰ p (own_path n)).
      let j = own-inv p n o in
      subst (IsFrame addr base (tree n children rest)) (sym j.0) ((frame-first addr base n children rest).1 (j.1, c)))
      (λ (o : Memᴰ p (map (under 0) below)).
      let j = Memᴰ.of_map (under 0) below o in
      subst
      (IsFrame addr base (tree n children rest))
      j.2
      ((frame-under addr base n children rest j.0).1 (c, ih j.0 j.1)))
      (Memᴰ.append_cases (own_path n) i.1)

  later-inv :
      (p : NodePath) → ((q : NodePath) → Memᴰ q after → IsFrame addr base rest q) →
      Memᴰ p (map later after) → IsFrame addr base (tree n children rest) p
  later-inv p ih m =
      let j = Memᴰ.of_map later after m in
      subst
      (IsFrame addr base (tree n children rest))
      j.2
      ((frame-later addr base n children rest j.0).1 (ih j.0 j.1))

  pub listed-inv :
      (p : NodePath) → ((q : NodePath) → Memᴰ q below → IsFrame addr (child_base base n) children q) →
      ((q : NodePath) → Memᴰ q after → IsFrame addr base rest q) →
      Memᴰ p (front ++ map later after) → IsFrame addr base (tree n children rest) p
  listed-inv p ik ir m = ⊎_elim (front-inv p ik) (later-inv p ir) (Memᴰ.append_cases front m)

  -- ---- order

  front-first : (p : NodePath) → Memᴰ p front → first p ≡ 0
  front-first p m =
      ⊎_elim
      (λ (o : Memᴰ p (own_path n)). ap first (own-inv p n o).0)
      (λ (o : Memᴰ p (map (under 0) below)). ap first (sym (Memᴰ.of_map (under 0) below o).2))
      (Memᴰ.append_cases (own_path n)
      (pick_inv p (any_in addr base n.ranges) (own_path n ++ map (under 0) below) m).1)

  -- the node before all below it
  ordered-front : InOrder below → InOrder front
  ordered-front r =
      ordered-pick (any_in addr base n.ranges) (own_path n ++ map (under 0) below)
      (ordered-append
      (own_path n)
      (map (under 0) below)
      (ordered-own n)
      (ordered-map (under 0) (λ p q b. inside refl b) below r)
      (λ p q m o.
      let j = Memᴰ.of_map (under 0) below o in
      subst₂ Before (sym (own-inv p n m).0) j.2 (parent refl)))

  -- all of that before the nodes after it
  pub ordered-step : InOrder below → InOrder after → InOrder (front ++ map later after)
  ordered-step r s =
      ordered-append
      front
      (map later after)
      (ordered-front r)
      (ordered-map later (λ p q b. before-later b) after s)
      (λ p q m o.
      let j = Memᴰ.of_map later after o in
      let e = ap first j.2 in
      sibling {p = p} {q = q} (omega (arith, front-first p m, first-later j.0)))

  -- ---- frames

  abbrev here : NodePath → Option InlineFrame
  here = frame_at base (tree n children rest)

  frames-own : map here (own_path n) ≡ map Some (named n)
  frames-own = go (eqb n.name 0)
    where
      go : (z : Bool) → map here (if z then [] else top 0 ∷ []) ≡ map Some (if z then [] else frame_of n ∷ [])
      go true = refl
      go false = ap (λ x. frame_of_place x ∷ []) (node-first base n children rest)

  frames-under : (ps : List NodePath) → map here (map (under 0) ps) ≡ map (frame_at (child_base base n) children) ps
  frames-under ps =
      map-map here (under 0) ps
      ∙ ap (λ f. map f ps) (fun_ext (λ p. ap frame_of_place (node-under base n children rest p)))

  frames-later : (ps : List NodePath) → map here (map later ps) ≡ map (frame_at base rest) ps
  frames-later ps =
      map-map here later ps ∙ ap (λ f. map f ps) (fun_ext (λ p. ap frame_of_place (node-later base n children rest p)))

  frames-front :
      (fs : List InlineFrame) → map (frame_at (child_base base n) children) below ≡ map Some fs →
      map here front ≡ map Some (if any_in addr base n.ranges then named n ++ fs else [])
  frames-front fs ih = go (any_in addr base n.ranges)
    where
      go : (t : Bool) → map here (if t then own_path n ++ map (under 0) below else [])
          ≡ map Some (if t then named n ++ fs else [])
      go true =
          map-append here (own_path n) (map (under 0) below)
          ∙ ap₂ ◌++◌ frames-own (frames-under below ∙ ih)
          ∙ sym (map-append Some (named n) fs)
      go false = refl

  pub frames-step :
      (fs gs : List InlineFrame) → map (frame_at (child_base base n) children) below ≡ map Some fs →
      map (frame_at base rest) after ≡ map Some gs →
      map here (front ++ map later after)
      ≡ map Some ((if any_in addr base n.ranges then named n ++ fs else []) ++ gs)
  frames-step fs gs ik ir =
      map-append here front (map later after)
      ∙ ap₂ ◌++◌ (frames-front fs ik) (frames-later after ∙ ir)
      ∙ sym (map-append Some (if any_in addr base n.ranges then named n ++ fs else []) gs)
