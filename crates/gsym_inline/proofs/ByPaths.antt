-- What `frames` lists, told by paths (RULES, "Inline tree"): exactly the open nodes whose name is not 0, each once,
-- parents before children, siblings in file order, all below one sibling before the next. The frames are so listed, and
-- no other list of frames is.
-- Assumes nothing.
use Rattle.std.proofs.Common.{ℕ, zero, suc, ◌<◌, List, [], ◌∷◌, map, ◌↔◌, ◌≡◌, refl, ap, ap₂, sym, ◌∙◌, length, get_or}
use Rattle.std.proofs.Common.{arith}
use mathlib.Core.List.Memᴰ
use mathlib.Core.List.{Memᴰ}
use Rattle.std.specs.List.{Contains}
use Rattle.gsym_inline.proofs.Members.{contains_mem, mem_contains}
use Rattle.std.specs.Prelude.{Some}
use lib.ListN.{length-map}
use Rattle.gsym_types.specs.declared.InlineFrame.{InlineFrame}
use Rattle.gsym_inline.specs.Tree.{Forest, none, tree}
use Rattle.gsym_inline.specs.Frames.{child_base, frames}
use Rattle.gsym_inline.specs.Paths.{NodePath, top, under, frame_at, IsFrame, InOrder, ListedPaths, FramesAt}
use Rattle.gsym_inline.proofs.PathLists.{frame_paths}
use Rattle.gsym_inline.proofs.ByPathsOrder.{ordered-nil, ordered-once, ordered-unique}
use Rattle.gsym_inline.proofs.ByPathsWalk.{frame-none}
use Rattle.gsym_inline.proofs.ByPathsStep.{
  listed-first,
  listed-under,
  listed-later,
  listed-inv,
  ordered-step,
  frames-step,
}

-- ---- by recursion on the forest

member :
    (addr base : ℕ) (forest : Forest) (p : NodePath) →
    Memᴰ p (frame_paths addr base forest) → IsFrame addr base forest p
unfolding frame_paths
member addr base none p m = absurd (Memᴰ.not-nil m)
member addr base (tree n children rest) p m =
    listed-inv addr base n children rest p (member addr (child_base base n) children) (member addr base rest) m

in_list :
    (addr base : ℕ) (forest : Forest) (p : NodePath) →
    IsFrame addr base forest p → Memᴰ p (frame_paths addr base forest)
unfolding frame_paths
in_list addr base none p f = absurd (frame-none addr base p f)
in_list addr base (tree n children rest) (top zero) f = listed-first addr base n children rest f
in_list addr base (tree n children rest) (top (suc i)) f =
    listed-later addr base n children rest (top i) (in_list addr base rest (top i)) f
in_list addr base (tree n children rest) (under zero p) f =
    listed-under addr base n children rest p (in_list addr (child_base base n) children p) f
in_list addr base (tree n children rest) (under (suc i) p) f =
    listed-later addr base n children rest (under i p) (in_list addr base rest (under i p)) f

-- a parent before its children, siblings in file order, all below one sibling before the next
pub ordered : (addr base : ℕ) (forest : Forest) → InOrder (frame_paths addr base forest)
unfolding frame_paths
ordered addr base none = ordered-nil
ordered addr base (tree n children rest) =
    ordered-step addr base n children rest (ordered addr (child_base base n) children) (ordered addr base rest)

-- the frames are those of the nodes at the paths, one for each
pub frames-by-paths :
    (addr base : ℕ) (forest : Forest) →
    map (frame_at base forest) (frame_paths addr base forest) ≡ map Some (frames addr base forest)
unfolding frame_paths frames
frames-by-paths addr base none = refl
frames-by-paths addr base (tree n children rest) =
    frames-step
    addr
    base
    n
    children
    rest
    (frames addr (child_base base n) children)
    (frames addr base rest)
    (frames-by-paths addr (child_base base n) children)
    (frames-by-paths addr base rest)

some-injective : (fs gs : List InlineFrame) → map Some fs ≡ map Some gs → fs ≡ gs
some-injective [] [] e = refl
some-injective [] (g ∷ gs) e = let z : ◌≡◌ {A = ℕ} 0 1 = cc in absurd (omega arith)
some-injective (f ∷ fs) [] e = let z : ◌≡◌ {A = ℕ} 0 1 = cc in absurd (omega arith)
some-injective (f ∷ fs) (g ∷ gs) e =
    let a : f ≡ g = cc in
    let b : map Some fs ≡ map Some gs = cc in
    ap₂ ◌∷◌ a (some-injective fs gs b)

-- ---- which nodes are listed, and in which order

module _ (addr base : ℕ) (forest : Forest) where
  -- exactly the open nodes whose name is not 0
  pub listed : (p : NodePath) → Memᴰ p (frame_paths addr base forest) ↔ IsFrame addr base forest p
  listed p = (member addr base forest p, in_list addr base forest p)

  -- each once: no path stands at two places
  pub once :
      (d : NodePath) (i j : ℕ) → i < length (frame_paths addr base forest) → j < length (frame_paths addr base forest) →
      get_or (frame_paths addr base forest) i d ≡ get_or (frame_paths addr base forest) j d → i ≡ j
  once d i j = ordered-once d (frame_paths addr base forest) i j (ordered addr base forest)

  -- a list of paths in order with exactly these members is this list
  pub unique : (ps : List NodePath) → ListedPaths addr base forest ps → ps ≡ frame_paths addr base forest
  unique ps l =
      ordered-unique ps (frame_paths addr base forest) l.order (ordered addr base forest)
      (λ p. (
        λ h. (listed p).1 ((l.exactly p).0 (mem_contains ps p h)),
        λ h. contains_mem ps p ((l.exactly p).1 ((listed p).0 h)),
      ))

  -- as many frames as paths
  pub frames-count : length (frames addr base forest) ≡ length (frame_paths addr base forest)
  frames-count =
      sym (length-map (frames addr base forest) Some)
      ∙ ap length (sym (frames-by-paths addr base forest))
      ∙ length-map (frame_paths addr base forest) (frame_at base forest)

  contained : (p : NodePath) → Contains (frame_paths addr base forest) p ↔ IsFrame addr base forest p
  contained p = (
    λ m. (listed p).0 (contains_mem _ p m),
    λ f. mem_contains _ p ((listed p).1 f),
  )

  pub paths-listed : ListedPaths addr base forest (frame_paths addr base forest)
  paths-listed = record { exactly = contained; order = ordered addr base forest }

  -- listed paths are as many as frames
  pub listed-count :
      (ps : List NodePath) → ListedPaths addr base forest ps → length ps ≡ length (frames addr base forest)
  listed-count ps l = ap length (unique ps l) ∙ sym frames-count

  -- and their frames are `frames`
  pub listed-frames :
      (ps : List NodePath) → ListedPaths addr base forest ps → (fs : List InlineFrame) →
      FramesAt base forest ps fs ↔ (fs ≡ frames addr base forest)
  listed-frames ps l fs =
      let e = unique ps l in (
        λ f. some-injective fs (frames addr base forest)
            (sym f ∙ ap (map (frame_at base forest)) e ∙ frames-by-paths addr base forest),
        λ q. ap (map (frame_at base forest)) e ∙ frames-by-paths addr base forest ∙ sym (ap (map Some) q),
      )

  -- the frames are those of listed paths, and no other list of frames is
  pub frames-listed :
      (fs : List InlineFrame) →
      ((ps : List NodePath) × ListedPaths addr base forest ps × FramesAt base forest ps fs)
      ↔ (fs ≡ frames addr base forest)
  frames-listed fs = (
    λ l. (listed-frames l.0 l.1 fs).0 l.2,
    λ e. (
      frame_paths addr base forest,
      paths-listed,
      (listed-frames (frame_paths addr base forest) paths-listed fs).1 e,
    ),
  )
