-- The offset size that is chosen: it is one of the four, every number has room in it, and in no smaller one.
-- Assumes nothing.
use Rattle.std.proofs.Common.{◌≡◌, ℕ, ◌^◌, ◌<◌, ◌≤◌, true, List, [], ◌∷◌, refl, arith, ltb, lt-ltb}
use Rattle.std.proofs.Common.{Bool, if◌then◌else◌, eqb, eqb-true, false, sym, subst}
use Rattle.std.specs.List.{All, list_all}
use Rattle.std.proofs.lemmas.Bool.{ltb-true, and_parts, and_from, cond_both}
use Rattle.std.proofs.lemmas.List.Elements.{All-nil, All-cons, All-head, All-tail}
use Rattle.gsym_parser.specs.Search.{is_width}
use Rattle.gsym_layout.specs.Layout.{have_room, least_size}

-- what holds of each of the four sizes holds of each size that is one of them
pub at_width : (P : ℕ → Type 0) (size : ℕ) → is_width size ≡ true → P 1 → P 2 → P 4 → P 8 → P size
at_width P size e one two four eight =
    by (eqb size 1) (eqb size 2) (eqb size 4) (eqb size 8) refl refl refl refl e
  where
    by : (a b c d : Bool) → eqb size 1 ≡ a → eqb size 2 ≡ b → eqb size 4 ≡ c → eqb size 8 ≡ d →
        (if a then true else if b then true else if c then true else d) ≡ true → P size
    by true b c d p q r s e = subst P (sym (eqb-true size 1 p)) one
    by false true c d p q r s e = subst P (sym (eqb-true size 2 q)) two
    by false false true d p q r s e = subst P (sym (eqb-true size 4 r)) four
    by false false false true p q r s e = subst P (sym (eqb-true size 8 s)) eight
    by false false false false p q r s e = absurd cc

module _ (m : ℕ) where
  below_each : (ns : List ℕ) → list_all (λ n. ltb n m) ns ≡ true → All (λ n. n < m) ns
  below_each [] e = All-nil (λ n. n < m)
  below_each (n ∷ ns) e =
      let p = and_parts (ltb n m) (list_all (λ n. ltb n m) ns) e in
      All-cons (λ n. n < m) n ns (ltb-true n m p.0) (below_each ns p.1)

  each_below : (ns : List ℕ) → All (λ n. n < m) ns → list_all (λ n. ltb n m) ns ≡ true
  each_below [] a = refl
  each_below (n ∷ ns) a =
      and_from (ltb n m) (list_all (λ n. ltb n m) ns) (lt-ltb n m (All-head (λ n. n < m) n ns a))
      (each_below ns (All-tail (λ n. n < m) n ns a))

module _ (ns : List ℕ) where
  -- what holds of a size in which there is room, and of 8, holds of the one that is chosen
  least_is : (P : ℕ → Type 0) → ((size : ℕ) → have_room size ns ≡ true → P size) → P 8 → P (least_size ns)
  unfolding least_size
  least_is P h p =
      cond_both (have_room 1 ns) 1 _ P (h 1)
      (λ a. cond_both (have_room 2 ns) 2 _ P (h 2) (λ b. cond_both (have_room 4 ns) 4 8 P (h 4) (λ c. p)))

  pub least_known : is_width (least_size ns) ≡ true
  unfolding least_size
  least_known =
      cond_both (have_room 1 ns) 1 _ (λ s. is_width s ≡ true) (λ a. refl)
      (λ a. cond_both (have_room 2 ns) 2 _ (λ s. is_width s ≡ true) (λ b. refl)
      (λ b. cond_both (have_room 4 ns) 4 8 (λ s. is_width s ≡ true) (λ c. refl) (λ c. refl)))

  pub least_has_room : All (λ n. n < 256 ^ 8) ns → All (λ n. n < 256 ^ least_size ns) ns
  least_has_room a = least_is (λ s. All (λ n. n < 256 ^ s) ns) (λ s e. below_each (256 ^ s) ns e) a

  pub least_least : (size : ℕ) → is_width size ≡ true → All (λ n. n < 256 ^ size) ns → least_size ns ≤ size
  unfolding least_size
  least_least size w =
      at_width (λ s. All (λ n. n < 256 ^ s) ns → least_size ns ≤ s) size w
      (λ a. rw (each_below (256 ^ 1) ns a) (omega arith))
      (λ a. rw (each_below (256 ^ 2) ns a)
      (cond_both (have_room 1 ns) 1 2 (λ s. s ≤ 2) (λ e. omega arith) (λ e. omega arith)))
      (λ a. rw (each_below (256 ^ 4) ns a)
      (cond_both (have_room 1 ns) 1 _ (λ s. s ≤ 4) (λ e. omega arith)
      (λ e. cond_both (have_room 2 ns) 2 4 (λ s. s ≤ 4) (λ f. omega arith) (λ f. omega arith))))
      (λ a. cond_both (have_room 1 ns) 1 _ (λ s. s ≤ 8) (λ e. omega arith)
      (λ e. cond_both (have_room 2 ns) 2 _ (λ s. s ≤ 8) (λ f. omega arith)
      (λ f. cond_both (have_room 4 ns) 4 8 (λ s. s ≤ 8) (λ h. omega arith) (λ h. omega arith))))
