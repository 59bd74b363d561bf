-- What the call that reads one block lists (RULES, "Inline tree"), from the bytes to the paths of nodes.
-- Assumes nothing.
use Rattle.std.proofs.Common.{Ok, Err, Result, IsOk, is_ok, ℕ, suc, ◌≤◌, List, [], ◌↔◌, ◌≡◌, refl, sym, ap, subst, ◌∙◌}
use Rattle.std.proofs.Common.{length, arith}
use Rattle.gsym_reads.specs.Steps.{◌>>=◌, told}
use Rattle.gsym_reads.proofs.Steps.{ok_is}
use Rattle.gsym_types.specs.declared.InlineFrame.{InlineFrame}
use Rattle.gsym_types.specs.declared.Refusal.{Refusal}
use Rattle.gsym_types.specs.Refusal.{number_of}
use Rattle.gsym_leb128.specs.declared.Cause.TheVariants.{Short, Wide}
use Rattle.gsym_inline.specs.Tree.{Forest}
use Rattle.gsym_inline.specs.Frames.{frames}
use Rattle.gsym_inline.proofs.PathLists.{frame_paths}
use Rattle.gsym_inline.specs.Skip.{skip_list}
use Rattle.gsym_inline.specs.Walk.{Places, Walk, then_walk, walk_list, walk_node, with_frames}
use Rattle.gsym_inline.specs.Full.{Read, tree_of}
use Rattle.gsym_inline.specs.Block.{Block, refusal_of, root_context, block_of}
use Rattle.gsym_inline.specs.Reads.{Reads}
use Rattle.gsym_inline.specs.ListsFrames.{ListsFrames}
use Rattle.gsym_inline.specs.declared.head.Fault.{Fault}
use Rattle.gsym_inline.specs.declared.head.Fault.TheVariants as fault
use Rattle.gsym_inline.specs.declared.skipping.Next.{Next}
use Rattle.gsym_inline.specs.declared.skipping.Next.TheVariants as after
use Rattle.gsym_inline.proofs.Numbers.{never}
use Rattle.gsym_inline.proofs.Follows.{Follows, followed}
use Rattle.gsym_inline.proofs.Forests.{Fits, depth, forest_frames}
use Rattle.gsym_inline.proofs.Trees.{Gives, walk_from_root, node-root}
use Rattle.gsym_inline.proofs.Conditions.{levels-depth, depth-levels}
use Rattle.gsym_inline.proofs.ForestFrames.{frames-fit, frames-sound}
use Rattle.gsym_inline.proofs.ByPaths.{paths-listed, listed-count, listed-frames, frames-count}
use Rattle.gsym_inline.proofs.ByPathsFits.{fits_iff, none-on-iff}

-- ---- a block gives what its tree gives

-- from the places after it and the frames, or a fault
abbrev pub block_from : {A : Type 0} → Result (A × List InlineFrame) Fault → Block
block_from x = do
  (n, fs) ← told refusal_of x
  Ok fs

pub root-alone : (x : Walk) → block_from (x >>= then_walk (λ n fs. Ok (n, fs))) ≡ block_from x
unfolding then_walk
root-alone (Ok (after.End n, fs)) = refl
root-alone (Ok (after.Past n, fs)) = refl
root-alone (Err f) = refl

-- where its tree is there in full, what that gives; else a fault
block-is :
    (symbol addr room : ℕ) (bytes : List ℕ) →
    (x : Places) × (block_of symbol addr room bytes ≡ block_from x)
    × Follows (Gives (root_context symbol addr room) []) (tree_of bytes) x
unfolding block_of tree_of walk_node walk_list skip_list walk_from_root
block-is symbol addr room bytes =
    let c = root_context symbol addr room in (
      walk_node bytes c 0 [] >>= then_walk (λ n fs. Ok (n, fs)),
      sym (root-alone (walk_node bytes c 0 [])),
      node-root (suc (length bytes)) bytes c 0 [],
    )

-- a refusal of a block has one of the numbers 10 to 15
abbrev pub OfBlock : Refusal → Type 0
OfBlock r = (10 ≤ number_of r) × (number_of r ≤ 15)

pub fault-number : (f : Fault) → OfBlock (refusal_of f)
fault-number (fault.Unread Short) = (omega arith, omega arith)
fault-number (fault.Unread Wide) = (omega arith, omega arith)
fault-number fault.Sum = (omega arith, omega arith)
fault-number fault.CallFile = (omega arith, omega arith)
fault-number fault.Level = (omega arith, omega arith)
fault-number fault.Room = (omega arith, omega arith)

-- what was listed or refused
listed-or :
    {A : Type 0} (x : Result (A × List InlineFrame) Fault) → ((fs : List InlineFrame) → block_from x ≡ Ok fs → ⊥) →
    (r : Refusal) × (block_from x ≡ Err r) × OfBlock r
listed-or (Ok (n, fs)) h = absurd (h fs refl)
listed-or (Err f) h = (refusal_of f, refl, fault-number f)

out-number :
    {A : Type 0} (x : Result (A × List InlineFrame) Fault) (r : Refusal) → block_from x ≡ Err r → OfBlock r
out-number (Ok (n, fs)) r p = never (let z : ◌≡◌ {A = ℕ} 0 1 = cc in z)
out-number (Err f) r p = let q : refusal_of f ≡ r = cc in subst OfBlock q (fault-number f)

-- a tree that is there in full and meets the conditions, by recursion on it
record ReadsInFull (symbol addr room : ℕ) (bytes : List ℕ) : Type 0 where
  forest : Forest
  place : ℕ
  full : tree_of bytes ≡ Ok (forest, place)
  fits : Fits addr symbol forest
  levels : depth forest ≤ 64
  few : length (frames addr symbol forest) ≤ room

from-forest :
    (n : ℕ) (fs : List InlineFrame) (x : Result (List InlineFrame) Fault) →
    block_from (x >>= λ gs. Ok (n, gs)) ≡ Ok fs → x ≡ Ok fs
from-forest n fs (Ok a) p = cc
from-forest n fs (Err f) p = never (let z : ◌≡◌ {A = ℕ} 0 1 = cc in z)

from-tree :
    (symbol addr room : ℕ) (bytes : List ℕ) (fs : List InlineFrame) (t : Read) → tree_of bytes ≡ t →
    (x : Places) → Follows (Gives (root_context symbol addr room) []) t x → block_from x ≡ Ok fs →
    ReadsInFull symbol addr room bytes
from-tree symbol addr room bytes fs (Ok (t, n)) e x q p =
    let c = root_context symbol addr room in
    let s = frames-sound t c [] fs (omega arith)
    (from-forest n fs (forest_frames c t []) (ap block_from (sym q) ∙ p)) in
    record {
      forest = t;
      place = n;
      full = e;
      fits = s.fits;
      levels = let h = levels-depth 1 t (omega arith) s.levels in omega arith;
      few = subst (λ (l : List InlineFrame). length l ≤ room) s.frames-are.same s.frames-are.few;
    }
from-tree symbol addr room bytes fs (Err k) e (Ok o) q p = absurd cc
from-tree symbol addr room bytes fs (Err k) e (Err f) q p = never (let z : ◌≡◌ {A = ℕ} 0 1 = cc in z)

abbrev ok_list : List InlineFrame → Block
ok_list fs = Ok fs

module _ (symbol addr room : ℕ) (bytes : List ℕ) where
  -- by recursion on the tree, and by paths
  by-paths : ReadsInFull symbol addr room bytes → Reads symbol addr room bytes
  by-paths R =
      let c = frames-count addr symbol R.forest in
      record {
        forest = R.forest;
        place = R.place;
        full = R.full;
        fits = (fits_iff addr symbol R.forest).0 R.fits;
        levels = (none-on-iff 64 symbol R.forest).1 R.levels;
        paths = frame_paths addr symbol R.forest;
        listed = paths-listed addr symbol R.forest;
        few = omega (arith, c, R.few);
      }

  -- Where a block reads, exactly the nodes with a name other than 0 that contain the address and whose ancestors all
  -- contain it are listed, each once, parents before children, siblings in file order, all below one sibling before the
  -- next. Offsets count from the parent's first range start, at the root from the symbol's address.
  pub lists :
      (R : Reads symbol addr room bytes) →
      block_of symbol addr room bytes ≡ Ok (frames addr symbol R.forest)
  lists R =
      let c = root_context symbol addr room in
      let b = block-is symbol addr room bytes in
      let n = listed-count addr symbol R.forest R.paths R.listed in
      let l : depth R.forest ≤ 64 = (none-on-iff 64 symbol R.forest).0 R.levels in
      b.1
      ∙ ap block_from (followed (Gives c []) (tree_of bytes) b.0 b.2 (R.forest, R.place) R.full)
      ∙ ap (λ (x : Result (List InlineFrame) Fault). block_from (x >>= λ fs. Ok (R.place, fs)))
      (frames-fit R.forest c [] ((fits_iff addr symbol R.forest).1 R.fits)
      (depth-levels 1 R.forest (omega (arith, l))) (omega (arith, n, R.few)))

  -- frames are listed only where the block reads
  pub reads : (fs : List InlineFrame) → block_of symbol addr room bytes ≡ Ok fs → Reads symbol addr room bytes
  reads fs p =
      let b = block-is symbol addr room bytes in
      by-paths (from-tree symbol addr room bytes fs (tree_of bytes) refl b.0 b.2 (sym b.1 ∙ p))

  -- a block reads exactly if it does so by paths
  pub reads-iff : IsOk (block_of symbol addr room bytes) ↔ Reads symbol addr room bytes
  reads-iff = (λ o. go (block_of symbol addr room bytes) refl o, λ R. ap (λ (b : Block). is_ok b) (lists R))
    where
      go : (b : Block) → block_of symbol addr room bytes ≡ b → IsOk b → Reads symbol addr room bytes
      go (Ok fs) e o = reads fs e
      go (Err r) e o = never (let z : ◌≡◌ {A = ℕ} 0 1 = cc in z)

  -- a refusal's number
  pub refused-number : (r : Refusal) → block_of symbol addr room bytes ≡ Err r → OfBlock r
  unfolding block_of
  refused-number r p = out-number (walk_node bytes (root_context symbol addr room) 0 []) r p

  -- A block that doesn't read so is refused. proofs/FirstFault.antt says with what.
  pub refuses :
      (Reads symbol addr room bytes → ⊥) →
      (r : Refusal) × (block_of symbol addr room bytes ≡ Err r) × OfBlock r
  unfolding block_of
  refuses none_reads =
      listed-or (walk_node bytes (root_context symbol addr room) 0 []) (λ fs p. none_reads (reads fs p))

  -- frames are never more than the room
  pub block_room : (fs : List InlineFrame) → block_of symbol addr room bytes ≡ Ok fs → length fs ≤ room
  block_room fs e =
      let R = reads fs e in
      let p : frames addr symbol R.forest ≡ fs = ok_is _ _ (sym (lists R) ∙ e) in
      let n = listed-count addr symbol R.forest R.paths R.listed in
      subst (λ (l : List InlineFrame). length l ≤ room) p (omega (arith, n, R.few))

  -- a block lists frames exactly if they are those of its open nodes that have a name
  pub block-lists :
      (fs : List InlineFrame) → (block_of symbol addr room bytes ≡ Ok fs) ↔ ListsFrames symbol addr room bytes fs
  block-lists fs = (
    λ e. let R = reads fs e in
        record {
          reads = R;
          frames = (listed-frames addr symbol R.forest R.paths R.listed fs).1 (ok_is _ _ (sym e ∙ lists R));
        },
    λ F. let R = F.reads in
        lists R ∙ ap ok_list (sym ((listed-frames addr symbol R.forest R.paths R.listed fs).0 F.frames)),
  )

  -- no second list of frames is one
  pub frames_unique :
      (fs gs : List InlineFrame) → ListsFrames symbol addr room bytes fs →
      ListsFrames symbol addr room bytes gs → fs ≡ gs
  frames_unique fs gs F G = ok_is _ _ (sym ((block-lists fs).1 F) ∙ (block-lists gs).1 G)

-- ---- and so does the call

-- from the root, read as a judged node, to a block's answer
module _ (s : List ℕ) (symbol addr held room : ℕ) (xs ys : List InlineFrame) (r : Result Next Fault)
    (W : with_frames r ys ≡ walk_node s (root_context symbol addr held) 0 xs) (X : xs ≡ []) (R : held ≡ room) where
  root : block_from (with_frames r ys) ≡ block_of symbol addr room s
  unfolding block_of
  root =
      ap block_from W
      ∙ ap (λ (fs : List InlineFrame). block_from (walk_node s (root_context symbol addr held) 0 fs)) X
      ∙ ap (λ (m : ℕ). block_of symbol addr m s) R

  pub root_listed : (n : Next) → r ≡ Ok n → Ok ys ≡ block_of symbol addr room s
  root_listed n e = ap (λ (w : Result Next Fault). block_from (with_frames w ys)) (sym e) ∙ root

  pub root_refused : (f : Fault) → r ≡ Err f → (k : Refusal) → k ≡ refusal_of f → Err k ≡ block_of symbol addr room s
  root_refused f e k K =
      ap no K ∙ ap (λ (w : Result Next Fault). block_from (with_frames w ys)) (sym e) ∙ root
    where
      no : Refusal → Block
      no k = Err k
