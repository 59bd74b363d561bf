-- Checking nodes off the bytes comes to what the tree gives that the bytes hold: the place after it, where each node
-- fits; and a fault where the bytes hold no whole tree. So a block is checked without a fault exactly if its tree is
-- there in full, by paths.
-- Assumes nothing.
use Rattle.std.proofs.Common.{Ok, Err, Result, ℕ, zero, suc, ◌+◌, ◌≤◌, List, Bool, true, false, not, ◌≡◌, ◌↔◌, refl, sym}
use Rattle.std.proofs.Common.{◌∙◌, subst, leb, eqb, length, arith, le-leb, if◌then◌else◌}
use Rattle.std.proofs.lemmas.Bool.{leb-true}
use Rattle.std.specs.Prelude.{IsOk}
use mathlib.Core.Bool.{false≢true}
use Rattle.gsym_reads.specs.Steps.{◌>>=◌, ◌>>◌, need, told}
use Rattle.gsym_reads.proofs.Steps.{need_ok}
use Rattle.gsym_types.specs.declared.Refusal.{Refusal}
use Rattle.gsym_inline.specs.Limits.{most_file}
use Rattle.gsym_inline.specs.Tree.{Node, Forest, none, tree}
use Rattle.gsym_inline.specs.Frames.{child_base}
use Rattle.gsym_inline.specs.Paths.{top, under, Placed, NodeFits, AllFit}
use Rattle.gsym_inline.specs.Head.{EndOrNode, end, node, found_at}
use Rattle.gsym_inline.specs.Judge.{judged_at}
use Rattle.gsym_inline.specs.Skip.{then_skip}
use Rattle.gsym_inline.specs.Checked.{check_context, checked_from, checked_within, checked_list, checked_node}
use Rattle.gsym_inline.specs.Checked.{checked_tree}
use Rattle.gsym_inline.specs.Full.{Read, read_from, read_within, tree_of}
use Rattle.gsym_inline.specs.Block.{refusal_of}
use Rattle.gsym_inline.specs.TreeInFull.{TreeInFull}
use Rattle.gsym_inline.specs.declared.head.Fault.{Fault}
use Rattle.gsym_inline.specs.declared.head.Fault.TheVariants.{Level, Sum, CallFile}
use Rattle.gsym_inline.specs.declared.head.Head.{Head}
use Rattle.gsym_inline.specs.declared.judge.JudgedNode.{JudgedNode}
use Rattle.gsym_inline.specs.declared.head.Head.TheVariants as head
use Rattle.gsym_inline.specs.Inherited.{Inherited}
use Rattle.gsym_inline.specs.declared.skipping.Next.{Next}
use Rattle.gsym_inline.specs.declared.skipping.Next.TheVariants as after
use Rattle.gsym_inline.proofs.Follows.{bind_assoc, Follows, by_step, by_test, then_ok, followed, leads}
use Rattle.gsym_inline.proofs.Forests.{any_large, node_fits, below_node}
use Rattle.gsym_inline.proofs.Conditions.{Levels, levels-depth, depth-levels}
use Rattle.gsym_inline.proofs.Heads.{FoundJudged, judged_of, judged-is}
use Rattle.gsym_inline.proofs.Trees.{whole, below_read}
use Rattle.gsym_inline.proofs.PathLists.{later}
use Rattle.gsym_inline.proofs.ByPathsTests.{node-fits-iff}
use Rattle.gsym_inline.proofs.ByPathsWalk.{nothing, none-at, node-first, node-first-is, node-under, node-later}
use Rattle.gsym_inline.proofs.ByPathsFits.{none-on-iff}

-- ---- nodes side by side, each judged

unfoldable forest_fits : Inherited → Forest → Result (Unit {0}) Fault
forest_fits c none = Ok tt
forest_fits c (tree self children rest) = do
  node_fits c self
  forest_fits (below_node c self) children
  forest_fits c rest

-- what nodes that are checked come to: the place after them
abbrev Checks : Inherited → Forest × ℕ → Result ℕ Fault → Type 0
Checks c t r = r ≡ (forest_fits c t.0 >> Ok t.1)

module _ (c : Inherited) (self : Node) where
  -- a node with a fault of its own
  unfit :
      (g : Fault) → node_fits c self ≡ Err g → (go : ℕ → Read) (x : Read) →
      Follows (Checks c) (x >>= whole self go) (Err g)
  unfolding forest_fits
  unfit g z go (Ok b) = rest (go b.1)
    where
      rest : (x : Read) → Follows (Checks c) (x >>= λ t. Ok (tree self b.0 t.0, t.1)) (Err g)
      rest (Ok t) = rw z refl
      rest (Err k) = refl
  unfit g z go (Err k) = refl

  module _ (u : Unit {0}) (z : node_fits c self ≡ Ok u) (below : Forest) where
    -- one below which there is a fault
    unfit-below :
        (g : Fault) → forest_fits (below_node c self) below ≡ Err g → (x : Read) →
        Follows (Checks c) (x >>= λ t. Ok (tree self below t.0, t.1)) (Err g)
    unfolding forest_fits
    unfit-below g e (Ok t) = rw (z, e) refl
    unfit-below g e (Err k) = refl

    -- one below which there is none: those after it go on from there
    fit-below :
        (v : Unit {0}) → forest_fits (below_node c self) below ≡ Ok v → (x : Read) (y : Result ℕ Fault) →
        Follows (Checks c) x y → Follows (Checks c) (x >>= λ t. Ok (tree self below t.0, t.1)) y
    unfolding forest_fits
    fit-below v e (Ok t) y q = rw (z, e) q
    fit-below v e (Err k) y q = q

-- with `onward` after the node, which reads on as `go` does
module _ (f : ℕ) (s : List ℕ)
    (ih : (c : Inherited) (at : ℕ) → Follows (Checks c) (read_within f s at) (checked_within f s c at))
    (c : Inherited) (onward : ℕ → Result ℕ Fault) (go : ℕ → Read)
    (same : (n : ℕ) → Follows (Checks c) (go n) (onward n)) where
  over :
      (self : Node) (u : Unit {0}) → node_fits c self ≡ Ok u → (x : Read) (y : Result ℕ Fault) →
      Follows (Checks (below_node c self)) x y →
      Follows (Checks c) (x >>= whole self go) ((y >>= λ n. Ok (after.Past n)) >>= then_skip onward)
  unfolding then_skip
  over self u z (Ok b) y e = by (forest_fits (below_node c self) b.0) refl e
    where
      by :
          (x : Result (Unit {0}) Fault) → forest_fits (below_node c self) b.0 ≡ x → y ≡ (x >> Ok b.1) →
          Follows (Checks c) (whole self go b) ((y >>= λ n. Ok (after.Past n)) >>= then_skip onward)
      by (Ok v) q e = rw e (fit-below c self u z b.0 v q (go b.1) (onward b.1) (same b.1))
      by (Err g) q e = rw e (unfit-below c self u z b.0 g q (go b.1))
  over self u z (Err k) (Ok n) e = absurd cc
  over self u z (Err k) (Err g) e = refl

  children-follow :
      (byte to : ℕ) (self : Node) →
      Follows (Checks (below_node c self)) (below_read (read_within f s) byte to)
      (if eqb byte 0 then Ok to else checked_within f s (below_node c self) to)
  unfolding forest_fits
  children-follow byte to self =
      by_test (Checks (below_node c self)) (eqb byte 0) (Ok (none, to)) (read_within f s to) _ _ (λ _. refl)
      (λ _. ih (below_node c self) to)

  -- from what stands at a place
  stand :
      (x : EndOrNode) (y : Result (Head JudgedNode) Fault) → FoundJudged c x y →
      Follows (Checks c) (read_from (read_within f s) go x)
      (y >>= λ v. checked_from (checked_within f s) c v >>= then_skip onward)
  unfolding read_from checked_from then_skip forest_fits
  stand (end n) y e = rw e refl
  stand (node self byte to) y e = by-fits (node_fits c self) refl e
    where
      by-fits :
          (x : Result (Unit {0}) Fault) → node_fits c self ≡ x →
          y ≡ (x >> Ok (head.Node (judged_of c (self, byte, to)))) →
          Follows (Checks c) (below_read (read_within f s) byte to >>= whole self go)
          (y >>= λ v. checked_from (checked_within f s) c v >>= then_skip onward)
      by-fits (Ok u) z q =
          rw q (over self u z (below_read (read_within f s) byte to) _ (children-follow byte to self))
      by-fits (Err g) z q = rw q (unfit c self g z go (below_read (read_within f s) byte to))

checked_is :
    (f : ℕ) (s : List ℕ) (c : Inherited) (at : ℕ) →
    Follows (Checks c) (read_within f s at) (checked_within f s c at)
unfolding read_within checked_within
checked_is zero s c at = refl
checked_is (suc f) s c at =
    by_step (Checks c) (FoundJudged c) (found_at s at) (judged_at c s at) _ _ (judged-is c s at)
    (λ x y e. stand f s (checked_is f s) c (checked_within f s c) (read_within f s) (checked_is f s c) x y e)

-- ---- a block

-- where its root ends
root_end : (symbol : ℕ) → List ℕ → Result ℕ Fault
root_end symbol bytes = do
  v ← judged_at (check_context 1 symbol) bytes 0
  x ← checked_from (checked_within (suc (length bytes)) bytes) (check_context 1 symbol) v
  then_skip (λ n. Ok n) x

root-follows :
    (symbol : ℕ) (bytes : List ℕ) → Follows (Checks (check_context 1 symbol)) (tree_of bytes) (root_end symbol bytes)
unfolding tree_of root_end forest_fits
root-follows symbol bytes =
    let c = check_context 1 symbol in
    let f = suc (length bytes) in
    by_step (Checks c) (FoundJudged c) (found_at bytes 0) (judged_at c bytes 0) _ _ (judged-is c bytes 0)
    (λ x y e. stand f bytes (checked_is f bytes) c (λ n. Ok n) (λ n. Ok (none, n)) (λ n. refl) x y e)

-- without a fault
abbrev ok : Result (Unit {0}) Refusal
ok = Ok tt

module _ (symbol : ℕ) (bytes : List ℕ) where
  root-same :
      root_end symbol bytes ≡ (checked_node bytes (check_context 1 symbol) 0 >>= then_skip (λ n. Ok n))
  unfolding root_end checked_node checked_list
  root-same =
      sym (bind_assoc (judged_at (check_context 1 symbol) bytes 0)
      (checked_from (checked_within (suc (length bytes)) bytes) (check_context 1 symbol)) (then_skip (λ n. Ok n)))

-- a check finds no fault exactly if the root ends
ends :
    (x : Result Next Fault) → (told refusal_of x >>= λ _. ok) ≡ ok →
    (n : ℕ) × ((x >>= then_skip (λ n. Ok n)) ≡ Ok n)
unfolding then_skip
ends (Ok (after.End n)) e = (n, refl)
ends (Ok (after.Past n)) e = (n, refl)
ends (Err g) e = absurd cc

ended : (x : Result Next Fault) (n : ℕ) → (x >>= then_skip (λ n. Ok n)) ≡ Ok n → (told refusal_of x >>= λ _. ok) ≡ ok
ended (Ok v) n e = refl
ended (Err g) n e = absurd cc

-- ---- the tests on nodes say what the statements over paths say

not-true : (t : Bool) → not t ≡ true → t ≡ false
not-true true e = absurd (false≢true e)
not-true false e = refl

needed : {u : Unit {0}} (t : Bool) → need t CallFile ≡ Ok u → t ≡ true
needed true e = refl
needed false e = absurd cc

node-ok :
    (c : Inherited) (self : Node) (u : Unit {0}) → node_fits c self ≡ Ok u →
    (c.level ≤ 64) × (any_large c.base self.ranges ≡ false) × (self.file ≤ most_file)
unfolding node_fits
node-ok c self u e =
    let l = need_ok (leb c.level 64) Level _ u e in
    let m = need_ok (not (any_large c.base self.ranges)) Sum _ u l.1 in (
      leb-true c.level 64 l.0,
      not-true (any_large c.base self.ranges) m.0,
      leb-true self.file most_file (needed (leb self.file most_file) m.1),
    )

-- of nodes that fit: the first, those below it, and those after it
module _ (c : Inherited) (n : Node) (children rest : Forest) (u : Unit {0}) where
  parts :
      forest_fits c (tree n children rest) ≡ Ok u →
      (node_fits c n ≡ Ok tt) × (forest_fits (below_node c n) children ≡ Ok tt) × (forest_fits c rest ≡ Ok tt)
  unfolding forest_fits
  parts e =
      let a = then_ok (node_fits c n) _ u e in
      let b = then_ok (forest_fits (below_node c n) children) _ u a.2 in
      (a.1, b.1, b.2)

fits-all : (c : Inherited) (t : Forest) (u : Unit {0}) → forest_fits c t ≡ Ok u → AllFit c.base t
fits-all c none u e p x q = nothing (sym (none-at c.base p) ∙ q)
fits-all c (tree n children rest) u e (top zero) x q =
    let own = node-ok c n tt (parts c n children rest u e).0 in
    subst
    (λ (y : Placed). NodeFits y.base y.node)
    (node-first-is c.base n children rest x q)
    ((node-fits-iff c.base n).0 (own.1, own.2))
fits-all c (tree n children rest) u e (top (suc i)) x q =
    fits-all c rest tt (parts c n children rest u e).2 (top i) x (sym (node-later c.base n children rest (top i)) ∙ q)
fits-all c (tree n children rest) u e (under zero p) x q =
    fits-all (below_node c n) children tt (parts c n children rest u e).1 p x
    (sym (node-under c.base n children rest p) ∙ q)
fits-all c (tree n children rest) u e (under (suc i) p) x q =
    fits-all c rest tt (parts c n children rest u e).2 (under i p) x
    (sym (node-later c.base n children rest (under i p)) ∙ q)

fits-levels : (c : Inherited) (t : Forest) (u : Unit {0}) → forest_fits c t ≡ Ok u → Levels c.level t
unfolding Levels
fits-levels c none u e = tt
fits-levels c (tree n children rest) u e =
    let p = parts c n children rest u e in (
      (node-ok c n tt p.0).0,
      fits-levels (below_node c n) children tt p.1,
      fits-levels c rest tt p.2,
    )

all-fits :
    (level base : ℕ) (t : Forest) → AllFit base t → Levels level t → forest_fits (check_context level base) t ≡ Ok tt
unfolding forest_fits Levels node_fits
all-fits level base none f L = refl
all-fits level base (tree n children rest) f L =
    let own = (node-fits-iff base n).1
    (f (top 0) (record { base = base; node = n }) (node-first base n children rest)) in
    rw (
      le-leb level 64 L.0,
      own.0,
      le-leb n.file most_file own.1,
      all-fits (level + 1) (child_base base n) children
          (λ p x e. f (under 0 p) x (node-under base n children rest p ∙ e)) L.1,
    ) (all-fits level base rest (λ p x e. f (later p) x (node-later base n children rest p ∙ e)) L.2)

-- ---- a block is checked without a fault exactly if its tree is there in full

module _ (symbol : ℕ) (bytes : List ℕ) where
  whole_if : checked_tree symbol bytes ≡ ok → TreeInFull symbol bytes
  unfolding checked_tree
  whole_if e =
      let r = ends (checked_node bytes (check_context 1 symbol) 0) e in
      let t = leads (Checks (check_context 1 symbol)) (tree_of bytes) r.0
      (subst (λ (y : Result ℕ Fault). Follows (Checks (check_context 1 symbol)) (tree_of bytes) y)
      (root-same symbol bytes ∙ r.1) (root-follows symbol bytes)) in
      let k = then_ok (forest_fits (check_context 1 symbol) t.0.0) (Ok t.0.1) r.0 (sym t.2) in
      record {
        forest = t.0.0;
        place = t.0.1;
        full = t.1;
        fits = fits-all (check_context 1 symbol) t.0.0 k.0 k.1;
        levels =
            (none-on-iff 64 symbol t.0.0).1
            (omega (
              arith,
              levels-depth 1 t.0.0 (omega arith)
                  (fits-levels (check_context 1 symbol) t.0.0 k.0 k.1),
            ));
      }

  whole_then : TreeInFull symbol bytes → checked_tree symbol bytes ≡ ok
  unfolding checked_tree
  whole_then T =
      let y = followed (Checks (check_context 1 symbol)) (tree_of bytes) (root_end symbol bytes)
      (root-follows symbol bytes) (T.forest, T.place) T.full in
      let d = (none-on-iff 64 symbol T.forest).0 T.levels in
      let fit = all-fits 1 symbol T.forest T.fits (depth-levels 1 T.forest (omega (arith, d))) in
      ended (checked_node bytes (check_context 1 symbol) 0) T.place
      (sym (root-same symbol bytes) ∙ y ∙ rw fit refl)

  pub checked_full : IsOk (checked_tree symbol bytes) ↔ TreeInFull symbol bytes
  checked_full = (
    λ h. whole_if (is (checked_tree symbol bytes) h),
    λ T. rw (whole_then T) refl,
  )
    where
      is : (x : Result (Unit {0}) Refusal) → IsOk x → x ≡ ok
      is (Ok u) h = refl
      is (Err r) h = absurd (false≢true h)

  -- as a function tells it
  pub check_full :
      (x : Result (Unit {0}) Refusal) → x ≡ checked_tree symbol bytes → IsOk x ↔ TreeInFull symbol bytes
  check_full x e = rw e checked_full
