-- The conditions of RULES on a tree: what the reading tests of levels, and how many there are.
-- Assumes nothing.
use Rattle.std.proofs.Common.{ℕ, ◌+◌, ◌≤◌, Bool, true, false, ◌≡◌, refl, leb, arith, le-leb, if◌then◌else◌}
use Rattle.std.proofs.lemmas.Bool.{leb-true}
use Rattle.gsym_inline.specs.Tree.{Forest, none, tree}
use Rattle.gsym_inline.proofs.Forests.{depth, deep_in}
use Rattle.gsym_inline.proofs.Numbers.{never}

-- ---- levels

-- each node stands on a level up to 64, where those side by side stand on `level`
unfoldable pub Levels : ℕ → Forest → Type 0
Levels level none = Unit {0}
Levels level (tree self children rest) = (level ≤ 64) × Levels (level + 1) children × Levels level rest

-- that is what the reading tests
not_first : (t x : Bool) → (if t then true else x) ≡ false → (t ≡ false) × (x ≡ false)
not_first true x e = never (let z : ◌≡◌ {A = ℕ} 0 1 = cc in z)
not_first false x e = (refl, e)

only_low : (t x : Bool) → (if t then x else true) ≡ false → (t ≡ true) × (x ≡ false)
only_low true x e = (refl, e)
only_low false x e = never (let z : ◌≡◌ {A = ℕ} 0 1 = cc in z)

pub levels-fit : (level : ℕ) (t : Forest) → Levels level t → deep_in level t ≡ false
unfolding Levels deep_in
levels-fit level none L = refl
levels-fit level (tree self children rest) L =
    rw (le-leb level 64 L.0, levels-fit (level + 1) children L.1) (levels-fit level rest L.2)

pub levels_sound : (level : ℕ) (t : Forest) → deep_in level t ≡ false → Levels level t
unfolding Levels deep_in
levels_sound level none e = tt
levels_sound level (tree self children rest) e =
    let o = only_low (leb level 64) (if deep_in (level + 1) children then true else deep_in level rest) e in
    let p = not_first (deep_in (level + 1) children) (deep_in level rest) o.1 in
    (leb-true level 64 o.0, levels_sound (level + 1) children p.0, levels_sound level rest p.1)

-- and it is how many levels there are
pub levels-depth : (level : ℕ) (t : Forest) → level ≤ 65 → Levels level t → level + depth t ≤ 65
unfolding Levels depth
levels-depth level none l L = omega arith
levels-depth level (tree self children rest) l L =
    let h = levels-depth (level + 1) children (omega (arith, L.0)) L.1 in
    let k = levels-depth level rest l L.2 in
    omega arith

pub depth-levels : (level : ℕ) (t : Forest) → level + depth t ≤ 65 → Levels level t
unfolding Levels depth
depth-levels level none h = tt
depth-levels level (tree self children rest) h =
    (omega arith, depth-levels (level + 1) children (omega arith), depth-levels level rest (omega arith))
