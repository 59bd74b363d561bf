-- What is left to be judged, one on, at one that fails, and at the end.
-- Assumes nothing.
use Rattle.std.proofs.Common.{◌≡◌, ℕ, ◌+◌, ◌<◌, ◌≤◌, Bool, true, false, List, length, drop, map, get_or, refl}
use Rattle.std.proofs.Common.{◌∙◌, Option, Some, Ok, Err, ◌&&◌, take, subst}
use Rattle.std.specs.List.{All, list_all}
use Rattle.std.proofs.lemmas.List.{at_drop_more, at_drop_all, take_all}
use Rattle.std.proofs.lemmas.List.Elements.{All-map}
use Rattle.gsym_reads.specs.Steps.{◌>>◌, need}
use Rattle.gsym_parser.specs.declared.entries.FileInfo.{FileInfo}
use Rattle.gsym_writer.specs.declared.Entry.{Entry}
use Rattle.gsym_writer.specs.declared.error.WriteError.{WriteError}
use Rattle.gsym_writer.specs.declared.error.WriteError.TheVariants.{NotRising, UnreadFile}
use Rattle.gsym_writer.specs.View.{entries_view}
use Rattle.gsym_writer.specs.Writing.{is_above, rising, all_pass}

module _ {X Y : Type 0} (passes : Y → Bool) (f : X → Y) (xs : List X) (i : ℕ) where
  module _ (error : ℕ → WriteError) where
    here : (d : X) → i < length xs →
        all_pass passes error i (map f (drop i xs))
        ≡ (need (passes (f (get_or xs i d))) (error i) >> all_pass passes error (i + 1) (map f (drop (i + 1) xs)))
    unfolding all_pass
    here d l = at_drop_more (λ ys. all_pass passes error i (map f ys)) xs i d l

    pub pass_more :
        (d : X) → i < length xs → passes (f (get_or xs i d)) ≡ true →
        all_pass passes error i (map f (drop i xs)) ≡ all_pass passes error (i + 1) (map f (drop (i + 1) xs))
    pass_more d l e = here d l ∙ rw e refl

    pub pass_fails :
        (d : X) → i < length xs → passes (f (get_or xs i d)) ≡ false →
        all_pass passes error i (map f (drop i xs)) ≡ Err (error i)
    pass_fails d l e = here d l ∙ rw e refl

    pub pass_end : length xs ≤ i → all_pass passes error i (map f (drop i xs)) ≡ Ok tt
    unfolding all_pass
    pass_end l = at_drop_all (λ ys. all_pass passes error i (map f ys)) xs i l

  -- the same of a test of all
  each : (d : X) → i < length xs →
      list_all passes (map f (drop i xs))
      ≡ (passes (f (get_or xs i d)) && list_all passes (map f (drop (i + 1) xs)))
  each d l = at_drop_more (λ ys. list_all passes (map f ys)) xs i d l

  pub all_more :
      (d : X) → i < length xs → passes (f (get_or xs i d)) ≡ true →
      list_all passes (map f (drop i xs)) ≡ list_all passes (map f (drop (i + 1) xs))
  all_more d l e = each d l ∙ rw e refl

  pub all_fails :
      (d : X) → i < length xs → passes (f (get_or xs i d)) ≡ false → list_all passes (map f (drop i xs)) ≡ false
  all_fails d l e = each d l ∙ rw e refl

  pub all_end : length xs ≤ i → list_all passes (map f (drop i xs)) ≡ true
  all_end l = at_drop_all (λ ys. list_all passes (map f ys)) xs i l

-- what holds of each that was taken, once all are
pub all_taken : {X Y : Type 0} (P : Y → Type 0) (f : X → Y) (xs : List X) (i : ℕ) → length xs ≤ i
    → All (λ x. P (f x)) (take i xs) → All P (map f xs)
all_taken P f xs i l a = All-map P f xs (subst (All (λ x. P (f x))) (take_all i xs l) a)

-- ---- files, which are given as they are

module _ (passes : FileInfo → Bool) (xs : List FileInfo) (i : ℕ) where
  file_here : (d : FileInfo) → i < length xs →
      all_pass passes UnreadFile i (drop i xs)
      ≡ (need (passes (get_or xs i d)) (UnreadFile i) >> all_pass passes UnreadFile (i + 1) (drop (i + 1) xs))
  unfolding all_pass
  file_here d l = at_drop_more (all_pass passes UnreadFile i) xs i d l

  pub file_more :
      (d : FileInfo) → i < length xs → passes (get_or xs i d) ≡ true →
      all_pass passes UnreadFile i (drop i xs) ≡ all_pass passes UnreadFile (i + 1) (drop (i + 1) xs)
  file_more d l e = file_here d l ∙ rw e refl

  pub file_fails :
      (d : FileInfo) → i < length xs → passes (get_or xs i d) ≡ false →
      all_pass passes UnreadFile i (drop i xs) ≡ Err (UnreadFile i)
  file_fails d l e = file_here d l ∙ rw e refl

  pub file_end : length xs ≤ i → all_pass passes UnreadFile i (drop i xs) ≡ Ok tt
  unfolding all_pass
  file_end l = at_drop_all (all_pass passes UnreadFile i) xs i l

-- ---- addresses

module _ (before : Option ℕ) (es : List Entry) (i : ℕ) where
  rise_here : (d : Entry) → i < length es →
      rising before i (entries_view (drop i es))
      ≡ (need (is_above before (get_or es i d).addr.0) (NotRising i)
      >> rising (Some (get_or es i d).addr.0) (i + 1) (entries_view (drop (i + 1) es)))
  unfolding rising
  rise_here d l = at_drop_more (λ ys. rising before i (entries_view ys)) es i d l

  pub rise_more :
      (d : Entry) → i < length es → is_above before (get_or es i d).addr.0 ≡ true →
      rising before i (entries_view (drop i es))
      ≡ rising (Some (get_or es i d).addr.0) (i + 1) (entries_view (drop (i + 1) es))
  rise_more d l e = rise_here d l ∙ rw e refl

  pub rise_fails :
      (d : Entry) → i < length es → is_above before (get_or es i d).addr.0 ≡ false →
      rising before i (entries_view (drop i es)) ≡ Err (NotRising i)
  rise_fails d l e = rise_here d l ∙ rw e refl

  pub rise_end : length es ≤ i → rising before i (entries_view (drop i es)) ≡ Ok tt
  unfolding rising
  rise_end l = at_drop_all (λ ys. rising before i (entries_view ys)) es i l
