-- One frame more, and what is left of a list of judged nodes, one node on.
-- Assumes nothing.
use Rattle.std.proofs.Common.{Ok, Err, ℕ, ◌<◌, ◌≤◌, List, [], ◌∷◌, ◌++◌, append-nil, ◌≡◌, refl, ◌∙◌, length}
use Rattle.std.proofs.Common.{length-append, arith, eq-eqb, ne_eqb, le-leb}
use Rattle.std.proofs.lemmas.Bool.{lt-leb}
use Rattle.gsym_types.specs.declared.InlineFrame.{InlineFrame}
use Rattle.gsym_inline.specs.Walk.{with_frame, then_walk, walk_list, walk_node}
use Rattle.gsym_inline.specs.declared.head.Fault.{Fault}
use Rattle.gsym_inline.specs.declared.head.Fault.TheVariants.{Room}
use Rattle.gsym_inline.specs.Inherited.{Inherited}
use Rattle.gsym_inline.specs.declared.skipping.Next.TheVariants as after
use Rattle.gsym_inline.proofs.Fuel.{walk_step}

-- ---- a frame

module _ (room : ℕ) (f : InlineFrame) (xs : List InlineFrame) where
  pub frame_unnamed : length xs ≤ room → f.name.0 ≡ 0 → with_frame room f xs ≡ Ok xs
  unfolding with_frame
  frame_unnamed le z = rw (eq-eqb f.name.0 0 z, append-nil xs, le-leb (length xs) room le) refl

  pub frame_full : (f.name.0 ≡ 0 → ⊥) → room ≤ length xs → with_frame room f xs ≡ Err Room
  unfolding with_frame
  frame_full z le =
      let l : room < length (xs ++ f ∷ []) = omega (arith, length-append xs (f ∷ [])) in
      rw (ne_eqb f.name.0 0 z, lt-leb _ _ l) refl

  pub frame_added : (f.name.0 ≡ 0 → ⊥) → length xs < room → with_frame room f xs ≡ Ok (xs ++ f ∷ [])
  unfolding with_frame
  frame_added z lt =
      let l : length (xs ++ f ∷ []) ≤ room = omega (arith, length-append xs (f ∷ [])) in
      rw (ne_eqb f.name.0 0 z, le-leb _ _ l) refl

-- ---- a list

module _ (s : List ℕ) (c : Inherited) (to : ℕ) (xs : List InlineFrame) where
  pub walk_end :
      (n : ℕ) (ys : List InlineFrame) → walk_node s c to xs ≡ Ok (after.End n, ys) → walk_list s c to xs ≡ Ok (n, ys)
  unfolding then_walk
  walk_end n ys e = walk_step s c to xs ∙ rw e refl

  pub walk_past :
      (n : ℕ) (ys : List InlineFrame) → walk_node s c to xs ≡ Ok (after.Past n, ys) →
      walk_list s c to xs ≡ walk_list s c n ys
  unfolding then_walk
  walk_past n ys e = walk_step s c to xs ∙ rw e refl

  pub walk_bad : (f : Fault) → walk_node s c to xs ≡ Err f → walk_list s c to xs ≡ Err f
  walk_bad f e = walk_step s c to xs ∙ rw e refl
