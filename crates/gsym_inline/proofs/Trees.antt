-- Reading nodes off the bytes, judged or passed over, comes to what the tree gives that the bytes hold; where they hold
-- no whole tree, there is a fault.
-- Assumes nothing.
use Rattle.std.proofs.Common.{Ok, Err, Result, ℕ, zero, suc, ◌+◌, List, Bool, true, false, not, ◌≡◌, refl, leb, eqb}
use Rattle.std.proofs.Common.{if◌then◌else◌}
use Rattle.gsym_reads.specs.Steps.{◌>>=◌, ◌>>◌, need}
use Rattle.gsym_inline.proofs.Follows.{bind_assoc}
use Rattle.gsym_types.specs.declared.InlineFrame.{InlineFrame}
use Rattle.gsym_inline.specs.Tree.{Node, Forest, none, tree}
use Rattle.gsym_inline.specs.Frames.{any_in, frame_of}
use Rattle.gsym_inline.specs.Head.{EndOrNode, end, node, found_at, head_at}
use Rattle.gsym_inline.specs.Judge.{judged_at}
use Rattle.gsym_inline.specs.Skip.{past_node, then_skip, skip_within}
use Rattle.gsym_inline.specs.Walk.{with_frame, Places, Walk, open_node, closed_node, walk_from, then_walk, walk_within}
use Rattle.gsym_inline.specs.Full.{Read, read_from, read_within}
use Rattle.gsym_inline.proofs.Forests.{deep_in, node_fits, below_node, forest_frames}
use Rattle.gsym_inline.specs.declared.head.Fault.{Fault}
use Rattle.gsym_inline.specs.declared.head.Fault.TheVariants.{Level}
use Rattle.gsym_inline.specs.declared.head.Head.{Head}
use Rattle.gsym_inline.specs.declared.judge.JudgedNode.{JudgedNode}
use Rattle.gsym_inline.specs.declared.head.NodeHead.{NodeHead}
use Rattle.gsym_inline.specs.declared.head.Head.TheVariants as head
use Rattle.gsym_inline.specs.Inherited.{Inherited}
use Rattle.gsym_inline.specs.declared.skipping.Next.TheVariants as after
use Rattle.gsym_inline.proofs.Follows.{bind_assoc, Follows, by_step, by_test}
use Rattle.gsym_inline.proofs.Heads.{FoundJudged, judged_of, judged-is, FoundRead, head-is}

-- ---- passed over

-- what nodes that are passed over come to: a node on level 65 is refused
abbrev pub Passed : ℕ → Forest × ℕ → Result ℕ Fault → Type 0
Passed level t r = r ≡ (need (not (deep_in level t.0)) Level >> Ok t.1)

-- a node, the nodes below it and those after it
abbrev pub whole : Node → (ℕ → Read) → Forest × ℕ → Read
whole self go below = do
  (rest, n) ← go below.1
  Ok (tree self below.0 rest, n)

-- the nodes below a node
abbrev pub below_read : (ℕ → Read) → (byte next : ℕ) → Read
below_read children byte next = if eqb byte 0 then Ok (none, next) else children next

module _ (level : ℕ) (self : Node) (below : Forest) where
  pass-deep :
      (x : Read) → (leb level 64 ≡ false) →
      Follows (Passed level) (x >>= λ t. Ok (tree self below t.0, t.1)) (Err Level)
  unfolding deep_in
  pass-deep (Ok t) z = rw z refl
  pass-deep (Err k) z = refl

  pass-below :
      (x : Read) → (leb level 64 ≡ true) → (deep_in (level + 1) below ≡ true) →
      Follows (Passed level) (x >>= λ t. Ok (tree self below t.0, t.1)) (Err Level)
  unfolding deep_in
  pass-below (Ok t) z d = rw (z, d) refl
  pass-below (Err k) z d = refl

  pass-rest :
      (x : Read) (y : Result ℕ Fault) → (leb level 64 ≡ true) → (deep_in (level + 1) below ≡ false) →
      Follows (Passed level) x y → Follows (Passed level) (x >>= λ t. Ok (tree self below t.0, t.1)) y
  unfolding deep_in
  pass-rest (Ok t) y z d s = rw (z, d) s
  pass-rest (Err k) y z d s = s

module _ (f : ℕ) (s : List ℕ)
    (ih : (level at : ℕ) → Follows (Passed level) (read_within f s at) (skip_within f s level at)) where
  pass-children :
      (level byte next : ℕ) →
      Follows (Passed level) (below_read (read_within f s) byte next)
      (if eqb byte 0 then Ok next else skip_within f s level next)
  unfolding deep_in
  pass-children level byte next =
      by_test (Passed level) (eqb byte 0) (Ok (none, next)) (read_within f s next) (Ok next)
      (skip_within f s level next)
      (λ _. refl) (λ _. ih level next)

  module _ (level : ℕ) (z : leb level 64 ≡ true) (self : Node) where
    -- past the nodes below it
    pass-over :
        (x : Read) (y : Result ℕ Fault) → Follows (Passed (level + 1)) x y →
        Follows (Passed level) (x >>= whole self (read_within f s))
        ((y >>= λ n. Ok (after.Past n)) >>= then_skip (skip_within f s level))
    unfolding then_skip
    pass-over (Ok b) y e = by-deep (deep_in (level + 1) b.0) refl e
      where
        by-deep :
            (d : Bool) → deep_in (level + 1) b.0 ≡ d → y ≡ (need (not d) Level >> Ok b.1) →
            Follows (Passed level) (whole self (read_within f s) b)
            ((y >>= λ n. Ok (after.Past n)) >>= then_skip (skip_within f s level))
        by-deep true q e = rw e (pass-below level self b.0 (read_within f s b.1) z q)
        by-deep false q e =
            rw e (pass-rest level self b.0 (read_within f s b.1) (skip_within f s level b.1) z q (ih level b.1))
    pass-over (Err k) (Ok n) e = absurd cc
    pass-over (Err k) (Err g) e = refl

  pass-low :
      (level : ℕ) (self : Node) → leb level 64 ≡ false → (x : Read) →
      Follows (Passed level) (x >>= whole self (read_within f s)) (Err Level)
  pass-low level self z (Ok b) = pass-deep level self b.0 (read_within f s b.1) z
  pass-low level self z (Err k) = refl

  -- from what stands at a place
  pass-from :
      (level : ℕ) (x : EndOrNode) (y : Result (Head NodeHead) Fault) → FoundRead level x y →
      Follows (Passed level) (read_from (read_within f s) (read_within f s) x)
      (y >>= λ h. past_node (skip_within f s (level + 1)) h >>= then_skip (skip_within f s level))
  unfolding read_from past_node then_skip deep_in
  pass-from level (end n) y e = rw e refl
  pass-from level (node self byte next) y e = by-level (leb level 64) refl e.1
    where
      by-level :
          (d : Bool) → leb level 64 ≡ d → y ≡ (need d Level >> Ok (head.Node e.0)) →
          Follows (Passed level) (below_read (read_within f s) byte next >>= whole self (read_within f s))
          (y >>= λ h. past_node (skip_within f s (level + 1)) h >>= then_skip (skip_within f s level))
      by-level true z q =
          rw (q, e.2, e.3)
          (pass-over level z self (below_read (read_within f s) byte next)
          (if eqb byte 0 then Ok next else skip_within f s (level + 1) next) (pass-children (level + 1) byte next))
      by-level false z q = rw q (pass-low level self z (below_read (read_within f s) byte next))

pub skip_is :
    (f : ℕ) (s : List ℕ) (level at : ℕ) → Follows (Passed level) (read_within f s at) (skip_within f s level at)
unfolding read_within skip_within
skip_is zero s level at = refl
skip_is (suc f) s level at =
    by_step (Passed level) (FoundRead level) (found_at s at) (head_at s level at) _ _ (head-is level s at)
    (λ x y e. pass-from f s (skip_is f s) level x y e)

-- ---- judged

-- what judged nodes come to after the frames so far: the place after them, and the frames
abbrev pub Gives : Inherited → List InlineFrame → Forest × ℕ → Places → Type 0
Gives c acc t r = r ≡ (forest_frames c t.0 acc >>= λ fs. Ok (t.1, fs))

-- past a node whose list of children was read
abbrev over : Places → Walk
over x = do
  (n, fs) ← x
  Ok (after.Past n, fs)

-- one node with all below it, after its own tests
abbrev pub node_frames : Inherited → Node → Forest → List InlineFrame → Result (List InlineFrame) Fault
node_frames c self below acc =
    if any_in c.addr c.base self.ranges
    then (with_frame c.room (frame_of self) acc >>= forest_frames (below_node c self) below)
    else (need (not (deep_in (c.level + 1) below)) Level >> Ok acc)

module _ (c : Inherited) (acc : List InlineFrame) (self : Node) where
  -- a node with a fault of its own
  gives-unfit :
      (g : Fault) → node_fits c self ≡ Err g → (go : ℕ → Read) (x : Read) →
      Follows (Gives c acc) (x >>= whole self go) (Err g)
  unfolding forest_frames
  gives-unfit g z go (Ok b) = rest (go b.1)
    where
      rest : (x : Read) → Follows (Gives c acc) (x >>= λ t. Ok (tree self b.0 t.0, t.1)) (Err g)
      rest (Ok t) = rw z refl
      rest (Err k) = refl
  gives-unfit g z go (Err k) = refl

  module _ (u : Unit {0}) (z : node_fits c self ≡ Ok u) (below : Forest) where
    -- one that comes to a fault further down
    gives-fault :
        (g : Fault) → node_frames c self below acc ≡ Err g → (x : Read) →
        Follows (Gives c acc) (x >>= λ t. Ok (tree self below t.0, t.1)) (Err g)
    unfolding forest_frames
    gives-fault g e (Ok t) = rw (z, e) refl
    gives-fault g e (Err k) = refl

    -- one that comes to frames: those after it go on from there
    gives-rest :
        (fs : List InlineFrame) → node_frames c self below acc ≡ Ok fs → (x : Read) (y : Places) →
        Follows (Gives c fs) x y → Follows (Gives c acc) (x >>= λ t. Ok (tree self below t.0, t.1)) y
    unfolding forest_frames
    gives-rest fs e (Ok t) y q = rw (z, e) q
    gives-rest fs e (Err k) y q = q

-- with `onward` after the node, which reads on as `go` does
module _ (f : ℕ) (s : List ℕ)
    (ih : (c : Inherited) (at : ℕ) (acc : List InlineFrame) →
    Follows (Gives c acc) (read_within f s at) (walk_within f s c at acc))
    (c : Inherited) (onward : ℕ → List InlineFrame → Places) (go : ℕ → Read)
    (same : (n : ℕ) (acc : List InlineFrame) → Follows (Gives c acc) (go n) (onward n acc)) where
  module _ (acc : List InlineFrame) (self : Node) (u : Unit {0}) (z : node_fits c self ≡ Ok u) where
    -- an open node: its children with its frame
    open-over :
        any_in c.addr c.base self.ranges ≡ true → (fs : List InlineFrame) →
        with_frame c.room (frame_of self) acc ≡ Ok fs →
        (x : Read) (y : Places) → Follows (Gives (below_node c self) fs) x y →
        Follows (Gives c acc) (x >>= whole self go) (over y >>= then_walk onward)
    unfolding then_walk
    open-over w fs p (Ok b) y e = by-frames (forest_frames (below_node c self) b.0 fs) refl e
      where
        by-frames :
            (x : Result (List InlineFrame) Fault) → forest_frames (below_node c self) b.0 fs ≡ x →
            y ≡ (x >>= λ gs. Ok (b.1, gs)) → Follows (Gives c acc) (whole self go b) (over y >>= then_walk onward)
        by-frames (Ok gs) q e =
            rw e (gives-rest c acc self u z b.0 gs (rw (w, p) q) (go b.1) (onward b.1 gs) (same b.1 gs))
        by-frames (Err g) q e = rw e (gives-fault c acc self u z b.0 g (rw (w, p) q) (go b.1))
    open-over w fs p (Err k) (Ok n) e = absurd cc
    open-over w fs p (Err k) (Err g) e = refl

    -- a closed node: its children are passed over
    shut-over :
        any_in c.addr c.base self.ranges ≡ false →
        (x : Read) (y : Result ℕ Fault) → Follows (Passed (c.level + 1)) x y →
        Follows (Gives c acc) (x >>= whole self go) ((y >>= λ n. Ok (after.Past n, acc)) >>= then_walk onward)
    unfolding then_walk
    shut-over w (Ok b) y e = by-deep (deep_in (c.level + 1) b.0) refl e
      where
        by-deep :
            (d : Bool) → deep_in (c.level + 1) b.0 ≡ d → y ≡ (need (not d) Level >> Ok b.1) →
            Follows (Gives c acc) (whole self go b) ((y >>= λ n. Ok (after.Past n, acc)) >>= then_walk onward)
        by-deep true q e = rw e (gives-fault c acc self u z b.0 Level (rw (w, q) refl) (go b.1))
        by-deep false q e =
            rw e (gives-rest c acc self u z b.0 acc (rw (w, q) refl) (go b.1) (onward b.1 acc) (same b.1 acc))
    shut-over w (Err k) (Ok n) e = absurd cc
    shut-over w (Err k) (Err g) e = refl

    put-fault :
        any_in c.addr c.base self.ranges ≡ true → (g : Fault) → with_frame c.room (frame_of self) acc ≡ Err g →
        (x : Read) →
        Follows (Gives c acc) (x >>= whole self go) (Err g)
    put-fault w g p (Ok b) = gives-fault c acc self u z b.0 g (rw (w, p) refl) (go b.1)
    put-fault w g p (Err k) = refl

  open-children :
      (byte to : ℕ) (self : Node) (fs : List InlineFrame) →
      Follows (Gives (below_node c self) fs) (below_read (read_within f s) byte to)
      (if eqb byte 0 then Ok (to, fs) else walk_within f s (below_node c self) to fs)
  unfolding forest_frames
  open-children byte to self fs =
      by_test (Gives (below_node c self) fs) (eqb byte 0) (Ok (none, to)) (read_within f s to) _ _ (λ _. refl)
      (λ _. ih (below_node c self) to fs)

  -- from what stands at a place
  walk-stand :
      (acc : List InlineFrame) (x : EndOrNode) (y : Result (Head JudgedNode) Fault) → FoundJudged c x y →
      Follows (Gives c acc) (read_from (read_within f s) go x)
      (y >>= λ v. walk_from (walk_within f s) (skip_within f s (c.level + 1)) c acc v >>= then_walk onward)
  unfolding read_from walk_from open_node closed_node then_walk forest_frames
  walk-stand acc (end n) y e = rw e refl
  walk-stand acc (node self byte to) y e = by-fits (node_fits c self) refl e
    where
      children : Read
      children = below_read (read_within f s) byte to

      by-put :
          (u : Unit {0}) → node_fits c self ≡ Ok u → any_in c.addr c.base self.ranges ≡ true →
          (p : Result (List InlineFrame) Fault) → with_frame c.room (frame_of self) acc ≡ p →
          Follows (Gives c acc) (children >>= whole self go)
          ((p >>= λ fs. over (if eqb byte 0 then Ok (to, fs) else walk_within f s (below_node c self) to fs))
          >>= then_walk onward)
      by-put u z w (Ok fs) p = open-over acc self u z w fs p children _ (open-children byte to self fs)
      by-put u z w (Err g) p = put-fault acc self u z w g p children

      by-inside :
          (u : Unit {0}) → node_fits c self ≡ Ok u → (w : Bool) → any_in c.addr c.base self.ranges ≡ w →
          Follows (Gives c acc) (children >>= whole self go)
          ((if w
          then (with_frame c.room (frame_of self) acc >>= λ fs.
          over (if eqb byte 0 then Ok (to, fs) else walk_within f s (below_node c self) to fs))
          else ((if eqb byte 0 then Ok to else skip_within f s (c.level + 1) to) >>= λ n. Ok (after.Past n, acc)))
          >>= then_walk onward)
      by-inside u z true w = by-put u z w (with_frame c.room (frame_of self) acc) refl
      by-inside u z false w =
          shut-over acc self u z w children _ (pass-children f s (skip_is f s) (c.level + 1) byte to)

      by-fits :
          (x : Result (Unit {0}) Fault) → node_fits c self ≡ x →
          y ≡ (x >> Ok (head.Node (judged_of c (self, byte, to)))) →
          Follows (Gives c acc) (children >>= whole self go)
          (y >>= λ v. walk_from (walk_within f s) (skip_within f s (c.level + 1)) c acc v >>= then_walk onward)
      by-fits (Ok u) z q = rw q (by-inside u z (any_in c.addr c.base self.ranges) refl)
      by-fits (Err g) z q = rw q (gives-unfit c acc self g z go children)

-- ---- a list, and one node with nothing after it

pub walk_is :
    (f : ℕ) (s : List ℕ) (c : Inherited) (at : ℕ) (acc : List InlineFrame) →
    Follows (Gives c acc) (read_within f s at) (walk_within f s c at acc)
unfolding read_within walk_within
walk_is zero s c at acc = refl
walk_is (suc f) s c at acc =
    by_step (Gives c acc) (FoundJudged c) (found_at s at) (judged_at c s at) _ _ (judged-is c s at)
    (λ x y e. walk-stand f s (walk_is f s) c (walk_within f s c) (read_within f s) (walk_is f s c) acc x y e)

-- one judged node, in so many turns
unfoldable pub walk_from_root : ℕ → List ℕ → Inherited → ℕ → List InlineFrame → Walk
walk_from_root f s c at acc = do
  head ← judged_at c s at
  walk_from (walk_within f s) (skip_within f s (c.level + 1)) c acc head

pub node-root :
    (f : ℕ) (s : List ℕ) (c : Inherited) (at : ℕ) (acc : List InlineFrame) →
    Follows (Gives c acc) (found_at s at >>= read_from (read_within f s) (λ n. Ok (none, n)))
    (walk_from_root f s c at acc >>= then_walk (λ n fs. Ok (n, fs)))
unfolding walk_from_root forest_frames
node-root f s c at acc =
    rw (bind_assoc (judged_at c s at) (walk_from (walk_within f s) (skip_within f s (c.level + 1)) c acc)
    (then_walk (λ n fs. Ok (n, fs))))
    (by_step (Gives c acc) (FoundJudged c) (found_at s at) (judged_at c s at) _ _ (judged-is c s at)
    (λ x y e. walk-stand f s (walk_is f s) c (λ n fs. Ok (n, fs)) (λ n. Ok (none, n)) (λ n acc. refl) acc x y e))
