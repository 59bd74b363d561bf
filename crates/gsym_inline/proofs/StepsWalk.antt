-- The steps of a block, judged in their order: the outcome is that of the reading in one pass.
-- Assumes nothing.
use Rattle.std.proofs.Common.{Ok, Result, ℕ, zero, suc, ◌+◌, Bool, true, false, cond, List, [], ◌∷◌, ◌++◌, ◌≡◌, refl}
use Rattle.std.proofs.Common.{sym, ap, ◌∙◌, eqb, leb, length}
use Rattle.gsym_reads.specs.Steps.{◌>>=◌, ◌>>◌, need}
use Rattle.gsym_types.specs.declared.InlineFrame.{InlineFrame}
use Rattle.gsym_types.specs.declared.Refusal.TheVariants.{TooManyFrames}
use Rattle.gsym_inline.specs.Tree.{Range, Node}
use Rattle.gsym_inline.specs.Frames.{any_in, first_off, frame, named}
use Rattle.gsym_inline.specs.Head.{head_at}
use Rattle.gsym_inline.specs.Judge.{judged_at}
use Rattle.gsym_inline.specs.Skip.{past_node, then_skip, skip_within, skip_list}
use Rattle.gsym_inline.specs.Walk.{with_frame, Places, Walk, open_node, closed_node, walk_from, then_walk, walk_within}
use Rattle.gsym_inline.specs.Walk.{walk_list, walk_node}
use Rattle.gsym_inline.specs.Block.{Block, root_context, block_of}
use Rattle.gsym_inline.specs.Steps.{Step, opens, at_address, judged, passed, is_open, children_mode, children_steps}
use Rattle.gsym_inline.specs.Steps.{list_steps, block_steps, steps_of}
use Rattle.gsym_inline.specs.declared.head.Fault.{Fault}
use Rattle.gsym_inline.specs.declared.head.Fault.TheVariants.{Room}
use Rattle.gsym_inline.specs.declared.head.Head.{Head}
use Rattle.gsym_inline.specs.declared.judge.JudgedNode.{JudgedNode}
use Rattle.gsym_inline.specs.declared.head.NodeHead.{NodeHead}
use Rattle.gsym_inline.specs.Inherited.{Inherited}
use Rattle.gsym_inline.specs.declared.head.Head.TheVariants as head
use Rattle.gsym_inline.specs.declared.skipping.Next.TheVariants as after
use Rattle.gsym_inline.proofs.Follows.{bind_assoc}
use Rattle.gsym_inline.proofs.Listing.{block_from, root-alone}
use Rattle.gsym_inline.proofs.StepsHeads.{outcome, on, on-bind, on-same, judged-head, passed-head}

-- ---- nodes that are passed over

module _ (room : ℕ) (acc : List InlineFrame) (s : List ℕ) (addr : ℕ) where
  pub skip_steps :
      (f level at : ℕ) (rest : ℕ → List Step) →
      outcome room acc (list_steps f s (at_address addr) level passed at rest)
      ≡ on (skip_within f s level at) (λ n. outcome room acc (rest n))
  unfolding outcome list_steps skip_within past_node then_skip children_steps is_open children_mode
  skip_steps zero level at rest = refl
  skip_steps (suc f) level at rest =
      passed-head room acc s (list_steps f s (at_address addr)) (at_address addr) level rest
      (λ n. list_steps f s (at_address addr) level passed n rest) at to (λ n. refl)
      (λ rs name file line h. by-children (eqb h.children 0) h.next (skip_steps f))
      ∙ on-bind (head_at s level at) _ (λ n. outcome room acc (rest n))
    where
      to : Head NodeHead → Block
      to x =
          on (past_node (skip_within f s (level + 1)) x >>= then_skip (skip_within f s level))
          (λ n. outcome room acc (rest n))

      by-children :
          (z : Bool) (next : ℕ) →
          ((level at : ℕ) (rest : ℕ → List Step) →
          outcome room acc (list_steps f s (at_address addr) level passed at rest)
          ≡ on (skip_within f s level at) (λ n. outcome room acc (rest n))) →
          outcome room acc (cond z (list_steps f s (at_address addr) level passed next rest)
          (list_steps f s (at_address addr) (level + 1) passed next (λ n. list_steps f s (at_address addr) level passed n rest)))
          ≡ on ((cond z (Ok next) (skip_within f s (level + 1) next) >>= λ n. Ok (after.Past n))
          >>= then_skip (skip_within f s level)) (λ n. outcome room acc (rest n))
      by-children true next ih = ih level next rest
      by-children false next ih =
          ih (level + 1) next (λ n. list_steps f s (at_address addr) level passed n rest)
          ∙ on-same (skip_within f s (level + 1) next) _ _ (λ n. ih level n rest)
          ∙ on-bind (skip_within f s (level + 1) next) (skip_within f s level) (λ n. outcome room acc (rest n))
          ∙ ap (λ (x : Result ℕ Fault). on x (λ n. outcome room acc (rest n)))
          (sym (bind_assoc (skip_within f s (level + 1) next) (λ n. Ok (after.Past n))
          (then_skip (skip_within f s level))))

-- ---- judged nodes

abbrev context : (level addr base room : ℕ) → Inherited
context level addr base room = record { level = level; addr = addr; base = base; room = room }

-- past a node whose list of children was read
abbrev over_children : Places → Walk
over_children x = do
  (n, fs) ← x
  Ok (after.Past n, fs)

-- with `onward` after the node, which reads on as the steps of `rest` do
module _ (room f : ℕ) (s : List ℕ) (addr : ℕ)
    (ih : (level base at : ℕ) (acc : List InlineFrame) (rest : ℕ → List Step) →
    outcome room acc (list_steps f s (at_address addr) level (judged base) at rest)
    ≡ on (walk_within f s (context level addr base room) at acc) (λ p. outcome room p.1 (rest p.0)))
    (level base : ℕ) (over rest : ℕ → List Step) (onward : ℕ → List InlineFrame → Places)
    (K : ℕ × List InlineFrame → Block)
    (over-is : (n : ℕ) (acc : List InlineFrame) → outcome room acc (over n) ≡ K (n, acc))
    (rest-is : (n : ℕ) (acc : List InlineFrame) → outcome room acc (rest n) ≡ on (onward n acc) K) where
  -- what a judged head comes to
  to : List InlineFrame → Head JudgedNode → Block
  to acc x =
      on (walk_from (walk_within f s) (skip_within f s (level + 1)) (context level addr base room) acc x
      >>= then_walk onward) K

  -- the children of an open node, and of one that is not
  open-children :
      (b next : ℕ) (fs : List InlineFrame) (z : Bool) →
      outcome room fs (cond z (rest next) (list_steps f s (at_address addr) (level + 1) (judged b) next rest))
      ≡ on (over_children (cond z (Ok (next, fs)) (walk_within f s (context (level + 1) addr b room) next fs))
      >>= then_walk onward) K
  unfolding then_walk
  open-children b next fs true = rest-is next fs
  open-children b next fs false =
      let w = walk_within f s (context (level + 1) addr b room) next fs in
      ih (level + 1) b next fs rest
      ∙ on-same w _ _ (λ p. rest-is p.0 p.1)
      ∙ on-bind w (λ p. onward p.0 p.1) K
      ∙ ap (λ (x : Places). on x K) (sym (bind_assoc w (λ p. Ok (after.Past p.0, p.1)) (then_walk onward)))

  shut-children :
      (next : ℕ) (acc : List InlineFrame) (z : Bool) →
      outcome room acc (cond z (rest next) (list_steps f s (at_address addr) (level + 1) passed next rest))
      ≡ on ((cond z (Ok next) (skip_within f s (level + 1) next) >>= λ n. Ok (after.Past n, acc))
      >>= then_walk onward) K
  unfolding then_walk
  shut-children next acc true = rest-is next acc
  shut-children next acc false =
      let w = skip_within f s (level + 1) next in
      skip_steps room acc s addr f (level + 1) next rest
      ∙ on-same w _ _ (λ n. rest-is n acc)
      ∙ on-bind w (λ n. onward n acc) K
      ∙ ap (λ (x : Places). on x K) (sym (bind_assoc w (λ n. Ok (after.Past n, acc)) (then_walk onward)))

  -- a node without a fault of its own, by whether it contains the address
  node-is :
      (acc : List InlineFrame) (rs : List Range) (children name file line next : ℕ) →
      outcome room acc (children_steps (list_steps f s (at_address addr)) (at_address addr) level (judged base) rest
      (record { ranges = rs; name = name; file = file; line = line }) children next)
      ≡ to acc (head.Node (record {
        next = next;
        base = base + first_off rs;
        inside = any_in addr base rs;
        children = children;
        frame = frame name file line;
      }))
  unfolding children_steps is_open children_mode to walk_from open_node closed_node with_frame outcome
  node-is acc rs children name file line next = by-inside (any_in addr base rs)
    where
      self : Node
      self = record { ranges = rs; name = name; file = file; line = line }

      more : Bool → List Step
      more t =
          cond (eqb children 0) (rest next)
          (list_steps f s (at_address addr) (level + 1) (cond t (judged (base + first_off rs)) passed) next rest)

      by-room :
          (r : Bool) →
          (need r TooManyFrames >> outcome room (acc ++ named self) (more true))
          ≡ on (((need r Room >> Ok (acc ++ named self)) >>= λ fs.
          over_children (cond (eqb children 0) (Ok (next, fs))
          (walk_within f s (context (level + 1) addr (base + first_off rs) room) next fs))) >>= then_walk onward) K
      by-room true = open-children (base + first_off rs) next (acc ++ named self) (eqb children 0)
      by-room false = refl

      by-inside :
          (t : Bool) →
          outcome room acc (cond t (opens self ∷ more t) (more t))
          ≡ on ((cond t
          ((need (leb (length (acc ++ named self)) room) Room >> Ok (acc ++ named self)) >>= λ fs.
          over_children (cond (eqb children 0) (Ok (next, fs))
          (walk_within f s (context (level + 1) addr (base + first_off rs) room) next fs)))
          (cond (eqb children 0) (Ok next) (skip_within f s (level + 1) next) >>= λ n. Ok (after.Past n, acc)))
          >>= then_walk onward) K
      by-inside true = by-room (leb (length (acc ++ named self)) room)
      by-inside false = shut-children next acc (eqb children 0)

pub walk_steps :
    (room f : ℕ) (s : List ℕ) (addr level base at : ℕ) (acc : List InlineFrame) (rest : ℕ → List Step) →
    outcome room acc (list_steps f s (at_address addr) level (judged base) at rest)
    ≡ on (walk_within f s (context level addr base room) at acc) (λ p. outcome room p.1 (rest p.0))
unfolding outcome list_steps walk_within to walk_from then_walk
walk_steps room zero s addr level base at acc rest = refl
walk_steps room (suc f) s addr level base at acc rest =
    let c = context level addr base room in
    let onward : ℕ → List InlineFrame → Places = walk_within f s c in
    let go : ℕ → List Step = λ n. list_steps f s (at_address addr) level (judged base) n rest in
    let K : ℕ × List InlineFrame → Block = λ p. outcome room p.1 (rest p.0) in
    judged-head room acc s (list_steps f s (at_address addr)) (at_address addr) level rest go addr base at
    (to room f s addr (walk_steps room f s addr) level base rest go onward K (λ n acc. refl)
    (λ n acc. walk_steps room f s addr level base n acc rest) acc)
    (λ n. refl)
    (node-is room f s addr (walk_steps room f s addr) level base rest go onward K (λ n acc. refl)
    (λ n acc. walk_steps room f s addr level base n acc rest) acc)
    ∙ on-bind (judged_at c s at) _ K

-- ---- a block

-- the outcome of a block's steps is what reading the block in one pass gives
pub block-steps :
    (symbol addr room : ℕ) (bytes : List ℕ) →
    block_of symbol addr room bytes ≡ outcome room [] (steps_of symbol addr bytes)
unfolding block_of block_steps walk_node walk_list skip_list outcome to walk_from then_walk
block-steps symbol addr room bytes =
    let f = suc (length bytes) in
    let c = root_context symbol addr room in
    let onward : ℕ → List InlineFrame → Places = λ n fs. Ok (n, fs) in
    let K : ℕ × List InlineFrame → Block = λ p. Ok p.1 in
    let none : ℕ → List Step = λ n. [] in
    sym (
    judged-head room [] bytes (list_steps f bytes (at_address addr)) (at_address addr) 1 none none addr symbol 0
    (to room f bytes addr (walk_steps room f bytes addr) 1 symbol none none onward K (λ n acc. refl)
    (λ n acc. refl) [])
    (λ n. refl)
    (node-is room f bytes addr (walk_steps room f bytes addr) 1 symbol none none onward K (λ n acc. refl)
    (λ n acc. refl) [])
    ∙ on-bind (judged_at c bytes 0) _ K
    ∙ ap block_from (sym (bind_assoc (judged_at c bytes 0)
    (walk_from (walk_within f bytes) (skip_within f bytes 2) c []) (then_walk onward)))
    ∙ root-alone (walk_node bytes c 0 [])
    )
