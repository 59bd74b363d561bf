-- The order of paths: it is strict and total and is that of `Before`, and a list that ordered in it is settled
-- by its members.
-- Assumes nothing.
use Rattle.std.proofs.Common.{ℕ, zero, suc, ◌≤◌, ◌<◌, List, [], ◌∷◌, ◌++◌, map, ◌↔◌, ◌⊎◌, inl, inr, ⊎_elim, ◌≡◌, refl}
use Rattle.std.proofs.Common.{ap, ap₂, sym, subst, ◌∙◌, length, get_or, arith}
use mathlib.Core.List.Memᴰ
use mathlib.Core.List.{Memᴰ}
use Rattle.std.proofs.lemmas.Bool.{cases_lt}
use Rattle.gsym_inline.specs.Paths.{NodePath, top, under, first, child, UpTo, Before, parent, sibling, inside, InOrder}
use Rattle.gsym_inline.proofs.Members.{contains_mem, mem_contains}
use Rattle.gsym_inline.proofs.PathLists.{later}

-- ---- a strict total order

first-le : {p q : NodePath} → Before p q → first p ≤ first q
first-le (parent e) = omega arith
first-le (sibling l) = omega arith
first-le (inside e b) = omega arith

pub before-irreflexive : (p : NodePath) → Before p p → ⊥
before-irreflexive (top i) b = go b
  where
    go : Before (top i) (top i) → ⊥
    go (sibling l) = omega arith
before-irreflexive (under i p) b = go (before-irreflexive p) b
  where
    go : (Before p p → ⊥) → Before (under i p) (under i p) → ⊥
    go below (sibling l) = omega arith
    go below (inside e c) = below c

pub before-transitive : {p q r : NodePath} → Before p q → Before q r → Before p r
before-transitive {r = r} (sibling {p = p} l) b = sibling {p = p} {q = r} (omega (arith, first-le b))
before-transitive (parent {i = i} e) (sibling {q = r} l) = sibling {p = top i} {q = r} (omega arith)
before-transitive (parent e) (inside f b) = parent (e ∙ f)
before-transitive (inside {i = i} {p = p} e a) (sibling {q = r} l) = sibling {p = under i p} {q = r} (omega arith)
before-transitive (inside e a) (inside f b) = inside (e ∙ f) (before-transitive a b)

module _ (p q : NodePath) where
  -- the first indexes decide where they differ
  by_first : (first p ≡ first q → Before p q ⊎ (p ≡ q) ⊎ Before q p) → Before p q ⊎ (p ≡ q) ⊎ Before q p
  by_first even =
      ⊎_elim
      (λ (l : first p < first q). inl (sibling l))
      (λ (g : first q ≤ first p).
      ⊎_elim
      (λ (l : first q < first p). inr (inr (sibling l)))
      (λ (h : first p ≤ first q). even (omega arith))
      (cases_lt (first q) (first p)))
      (cases_lt (first p) (first q))

pub before-total : (p q : NodePath) → Before p q ⊎ (p ≡ q) ⊎ Before q p
before-total (top i) (top j) = by_first (top i) (top j) (λ e. inr (inl (ap top e)))
before-total (top i) (under j q) = by_first (top i) (under j q) (λ e. inl (parent e))
before-total (under i p) (top j) = by_first (under i p) (top j) (λ e. inr (inr (parent (sym e))))
before-total (under i p) (under j q) = by_first (under i p) (under j q) (λ e. go e (before-total p q))
  where
    go :
        i ≡ j → Before p q ⊎ (p ≡ q) ⊎ Before q p →
        Before (under i p) (under j q) ⊎ (under i p ≡ under j q) ⊎ Before (under j q) (under i p)
    go e (inl b) = inl (inside e b)
    go e (inr (inl s)) = inr (inl (ap₂ under e s))
    go e (inr (inr b)) = inr (inr (inside (sym e) b))

-- ---- the order in words

-- a parent before its children: a node before all below it
pub parents-first : (p q : NodePath) → UpTo p q → (p ≡ q) ⊎ Before p q
parents-first (top i) (top j) u = inl (ap top u)
parents-first (top i) (under j q) u = inr (parent u)
parents-first (under i p) (top j) u = elim u [ ]
parents-first (under i p) (under j q) u = go (parents-first p q u.1)
  where
    go : (p ≡ q) ⊎ Before p q → (under i p ≡ under j q) ⊎ Before (under i p) (under j q)
    go (inl e) = inl (ap₂ under u.0 e)
    go (inr b) = inr (inside u.0 b)

first_of : (i : ℕ) (p : NodePath) → UpTo (top i) p → i ≡ first p
first_of i (top j) u = u
first_of i (under j p) u = u

-- siblings in file order, all below one sibling before the next: on the top level
pub siblings-in-order : (i j : ℕ) (p q : NodePath) → i < j → UpTo (top i) p → UpTo (top j) q → Before p q
siblings-in-order i j p q h u v = sibling {p = p} {q = q} (omega (arith, first_of i p u, first_of j q v))

-- and among the children of a node
pub children-in-order :
    (r : NodePath) (i j : ℕ) (p q : NodePath) → i < j → UpTo (child r i) p → UpTo (child r j) q → Before p q
children-in-order (top m) i j (under k p) (under l q) h u v =
    inside (sym u.0 ∙ v.0) (siblings-in-order i j p q h u.1 v.1)
children-in-order (top m) i j (top _) q h u v = elim u [ ]
children-in-order (top m) i j (under k p) (top _) h u v = elim v [ ]
children-in-order (under m r) i j (top _) q h u v = elim u [ ]
children-in-order (under m r) i j (under k p) (top _) h u v = elim v [ ]
children-in-order (under m r) i j (under k p) (under l q) h u v =
    inside (sym u.0 ∙ v.0) (children-in-order r i j p q h u.1 v.1)

-- ---- one more node in front

pub first-later : (p : NodePath) → first (later p) ≡ suc (first p)
first-later (top i) = refl
first-later (under i p) = refl

pub before-later : {p q : NodePath} → Before p q → Before (later p) (later q)
before-later (parent e) = parent (ap suc e)
before-later (sibling {p = p} {q = q} l) =
    sibling {p = later p} {q = later q} (omega (arith, first-later p, first-later q))
before-later (inside e b) = inside (ap suc e) b

-- ---- lists in order

pub ordered-nil : InOrder []
unfolding InOrder
ordered-nil = tt

pub ordered-one : (p : NodePath) → InOrder (p ∷ [])
unfolding InOrder
ordered-one p = (λ q m. absurd (Memᴰ.not-nil (contains_mem [] q m)), tt)

pub ordered-append :
    (ps qs : List NodePath) → InOrder ps → InOrder qs →
    ((p q : NodePath) → Memᴰ p ps → Memᴰ q qs → Before p q) → InOrder (ps ++ qs)
unfolding InOrder
ordered-append [] qs r s b = s
ordered-append (p ∷ ps) qs r s b = (
  λ q m. ⊎_elim (λ o. r.0 q (mem_contains ps q o)) (b p q (Memᴰ.head refl))
      (Memᴰ.append_cases ps (contains_mem (ps ++ qs) q m)),
  ordered-append ps qs r.1 s (λ x q m o. b x q (Memᴰ.tail m) o),
)

pub ordered-map :
    (f : NodePath → NodePath) → ((p q : NodePath) → Before p q → Before (f p) (f q)) →
    (ps : List NodePath) → InOrder ps → InOrder (map f ps)
unfolding InOrder
ordered-map f mono [] r = tt
ordered-map f mono (p ∷ ps) r = (
  λ q m.
      let j = Memᴰ.of_map f ps (contains_mem (map f ps) q m) in
      subst (Before (f p)) j.2 (mono p j.0 (r.0 j.0 (mem_contains ps j.0 j.1))),
  ordered-map f mono ps r.1,
)

module _ (d : NodePath) where
  get_or-mem : (ps : List NodePath) (i : ℕ) → i < length ps → Memᴰ (get_or ps i d) ps
  get_or-mem [] i h = absurd (omega arith)
  get_or-mem (p ∷ ps) zero h = Memᴰ.head refl
  get_or-mem (p ∷ ps) (suc i) h = Memᴰ.tail (get_or-mem ps i (omega arith))

  -- by places: an earlier one holds an earlier path
  pub ordered-at :
      (ps : List NodePath) (i j : ℕ) → InOrder ps → i < j → j < length ps → Before (get_or ps i d) (get_or ps j d)
  unfolding InOrder
  ordered-at [] i j r l h = absurd (omega arith)
  ordered-at (p ∷ ps) i zero r l h = absurd (omega arith)
  ordered-at (p ∷ ps) zero (suc j) r l h =
      r.0 (get_or ps j d) (mem_contains ps (get_or ps j d) (get_or-mem ps j (omega arith)))
  ordered-at (p ∷ ps) (suc i) (suc j) r l h = ordered-at ps i j r.1 (omega arith) (omega arith)

  -- no path stands at two places
  pub ordered-once :
      (ps : List NodePath) (i j : ℕ) → InOrder ps → i < length ps → j < length ps →
      get_or ps i d ≡ get_or ps j d → i ≡ j
  ordered-once ps i j r h k e =
      ⊎_elim
      (λ (l : i < j). absurd (before-irreflexive (get_or ps j d) (rw e at (ordered-at ps i j r l k))))
      (λ (g : j ≤ i).
      ⊎_elim
      (λ (l : j < i). absurd (before-irreflexive (get_or ps j d) (rw e at (ordered-at ps j i r l h))))
      (λ (m : i ≤ j). omega arith)
      (cases_lt j i))
      (cases_lt i j)

-- two lists in order that have the same members: their first paths, and what follows these
module _ (x y : NodePath) (xs ys : List NodePath) where
  heads :
      ((q : NodePath) → Memᴰ q xs → Before x q) → ((q : NodePath) → Memᴰ q ys → Before y q) →
      Memᴰ x (y ∷ ys) → Memᴰ y (x ∷ xs) → x ≡ y
  heads bx by mx my =
      ⊎_elim
      (λ (e : x ≡ y). e)
      (λ (m : Memᴰ x ys).
      ⊎_elim
      (λ (e : y ≡ x). sym e)
      (λ (n : Memᴰ y xs). absurd (before-irreflexive x (before-transitive (bx y n) (by x m))))
      (Memᴰ.cases_cons my))
      (Memᴰ.cases_cons mx)

  tails :
      ((q : NodePath) → Memᴰ q xs → Before x q) → x ≡ y →
      (p : NodePath) → (Memᴰ p (x ∷ xs) → Memᴰ p (y ∷ ys)) → Memᴰ p xs → Memᴰ p ys
  tails bx e p into m =
      ⊎_elim
      (λ (f : p ≡ y). absurd (before-irreflexive x (subst (Before x) (f ∙ sym e) (bx p m))))
      (λ (n : Memᴰ p ys). n)
      (Memᴰ.cases_cons (into (Memᴰ.tail m)))

-- so they are one list
pub ordered-unique :
    (xs ys : List NodePath) → InOrder xs → InOrder ys → ((p : NodePath) → Memᴰ p xs ↔ Memᴰ p ys) → xs ≡ ys
unfolding InOrder
ordered-unique [] [] rx ry m = refl
ordered-unique [] (y ∷ ys) rx ry m = absurd (Memᴰ.not-nil ((m y).1 (Memᴰ.head refl)))
ordered-unique (x ∷ xs) [] rx ry m = absurd (Memᴰ.not-nil ((m x).0 (Memᴰ.head refl)))
ordered-unique (x ∷ xs) (y ∷ ys) rx ry m =
    let bx : (q : NodePath) → Memᴰ q xs → Before x q = λ q o. rx.0 q (mem_contains xs q o) in
    let by_y : (q : NodePath) → Memᴰ q ys → Before y q = λ q o. ry.0 q (mem_contains ys q o) in
    let e = heads x y xs ys bx by_y ((m x).0 (Memᴰ.head refl)) ((m y).1 (Memᴰ.head refl)) in
    ap₂
    ◌∷◌
    e
    (ordered-unique xs ys rx.1 ry.1
    (λ p. (tails x y xs ys bx e p (m p).0, tails y x ys xs by_y (sym e) p (m p).1)))
