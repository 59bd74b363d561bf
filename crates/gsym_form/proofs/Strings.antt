-- The offsets of texts, as a map of them has them; what stands at the end of strings; and a string at an offset.
-- Assumes nothing.
use Rattle.std.proofs.Common.{◌≡◌, ℕ, suc, zero, ◌+◌, ◌-◌, ◌≤◌, ◌<◌, Bool, true, false, ◌&&◌, List, [], ◌∷◌, ◌++◌}
use Rattle.std.proofs.Common.{length, take, drop, refl, ap, sym, subst, ◌∙◌, arith, Option, Some, None, Ordering}
use Rattle.std.proofs.Common.{drop_of_length-le, length-drop}
use Rattle.std.specs.Borrow.{Bor}
use Rattle.std.specs.Option.{option_copied, option_eq, option_or}
use Rattle.std.specs.Prelude.{cond, nat_eq, slice_get, is_some, if◌then◌else◌, Ok, Err}
use Rattle.std.specs.List.{starts_with, slice_range}
use Rattle.gsym_form.proofs.Places.{all_of}
use Rattle.std.specs.Map.{KeepsOthers, IsKeyTest, AreApart, lookup}
use Rattle.std.specs.BTreeMap.{BTreeMap, UpdatesBy, is_at}
use Rattle.std.specs.Cmp.{eq_by_cmp_equiv}
use Rattle.std.specs.Cmp.Lexicographic.{pointwise, slice_cmp, bytes_decides, nat_list_cmp_total, texts_ties}
use Rattle.std.specs.Cmp.Lexicographic.{nat_list_eq_equiv}
use Rattle.std.specs.Ordering.{is_eq, nat_cmp, eq_by_cmp}
use Rattle.std.specs.Str.{bytes_eq}
use Rattle.std.specs.declared.vec.Vec.{Vec}
use Rattle.std.proofs.Math.Dec.{eqb}
use Rattle.std.proofs.lemmas.Bool.{cases_Bool, cond-true, cond-false}
use Rattle.std.proofs.lemmas.Bool.Decides.{nat_tests}
use Rattle.std.proofs.Math.Logic.{⊎_elim}
use Rattle.gsym_form.specs.Kept.{texts_said}
use Rattle.gsym_form.specs.Said.{Reading, with_text, ends_in, is_string_at, offset_of, put_text}
use Rattle.gsym_form.specs.declared.wrong.Wrong.TheVariants.{FullStrings}

-- ---- the map

other_entries :
    {K X : Type 0} (eq : K → K → Bool) (test : K → Bool) (old new : List (K × X)) → KeepsOthers eq test old new →
    (other : K → Bool) → IsKeyTest eq other → AreApart test other → lookup other new ≡ lookup other old
unfolding KeepsOthers
other_entries eq test old new h = h

apart : (a b k : List ℕ) → bytes_eq a b ≡ false → bytes_eq a k ≡ true → bytes_eq b k ≡ false
apart a b k n y = nat_list_eq_equiv.symm b k ∙ sym (nat_list_eq_equiv.congr a k b y) ∙ n

apart_in_order :
    (a b k : List ℕ) → bytes_eq a b ≡ false → is_eq (slice_cmp nat_cmp a k) ≡ true →
    is_eq (slice_cmp nat_cmp b k) ≡ false
apart_in_order a b k n y = sym (texts_ties b k) ∙ apart a b k n (texts_ties a k ∙ y)

new_at :
    (o : Option ℕ) (b : Bool) (n : ℕ) → (b ≡ true → o ≡ None) →
    cond b (Some n) o ≡ option_or o (if b then Some n else None)
new_at (Some x) true n h = let e : ◌≡◌ {A = Option ℕ} (Some x) None = h refl in absurd cc
new_at (Some x) false n h = refl
new_at None true n h = refl
new_at None false n h = refl

module _ {Z : Type 0} (m n : BTreeMap (Vec ℕ Z) ℕ) (k : Vec ℕ Z) (t : List ℕ) (at : ℕ) where
  abbrev by_items : Vec ℕ Z → Vec ℕ Z → Ordering
  by_items x y = slice_cmp nat_cmp x.items y.items

  inserted :
      k.items ≡ t → UpdatesBy by_items (by_items k) m n (Some at) → (other : List ℕ) →
      texts_said n other ≡ cond (bytes_eq t other) (Some at) (texts_said m other)
  inserted e u other =
      ⊎_elim
      (λ y. subst (λ l. texts_said n l ≡ Some at) (e ∙ (bytes_decides t other).0 y) u.1
      ∙ sym (cond-true (bytes_eq t other) (Some at) (texts_said m other) y))
      (λ y. other_entries (eq_by_cmp by_items) (is_at (by_items k)) m.entries n.entries u.3
      (is_at (λ x. slice_cmp nat_cmp other x.items))
      (λ x z. (eq_by_cmp_equiv nat_list_cmp_total).congr other x.items z.items)
      (λ x. apart_in_order k.items other x.items (ap (λ l. bytes_eq l other) e ∙ y))
      ∙ sym (cond-false (bytes_eq t other) (Some at) (texts_said m other) y))
      (cases_Bool (bytes_eq t other))

  -- a text that was not known is
  pub texts_insert :
      texts_said m t ≡ None → k.items ≡ t → UpdatesBy by_items (by_items k) m n (Some at) →
      texts_said n ≡ with_text (texts_said m) t at
  texts_insert h e u = λ i other. (inserted e u other
      ∙ new_at (texts_said m other) (bytes_eq t other) at
      (λ y. ap (texts_said m) (sym ((bytes_decides t other).0 y)) ∙ h)) i

-- what `get` found, where it found nothing
pub not_known :
    (r : Option (Bor ℕ)) (b : Bool) (o : Option ℕ) → b ≡ is_some r → b ≡ false → option_copied r ≡ o → o ≡ None
not_known None b o e f h = sym h
not_known (Some x) b o e f h = let z : true ≡ false = sym e ∙ f in absurd cc

-- ---- the last byte

module _ (c : ℕ) where
  ends_at :
      (xs : List ℕ) (i b : ℕ) → i + 1 ≡ length xs → slice_get xs i ≡ Some b → ends_in c xs ≡ nat_eq b c
  unfolding ends_in
  ends_at [] i b l e = absurd (omega arith)
  ends_at (x ∷ []) zero b l e = let s : x ≡ b = cc in ap (λ y. nat_eq y c) s
  ends_at (x ∷ []) (suc i) b l e = absurd (omega arith)
  ends_at (x ∷ y ∷ xs) zero b l e = absurd (omega arith)
  ends_at (x ∷ y ∷ xs) (suc i) b l e = ends_at (y ∷ xs) i b (omega arith) e

  missing : (xs : List ℕ) (i : ℕ) → i < length xs → slice_get xs i ≡ None → ⊥
  missing [] i l e = absurd (omega arith)
  missing (x ∷ xs) zero l e = let z : ◌≡◌ {A = Option ℕ} (Some x) None = e in absurd cc
  missing (x ∷ xs) (suc i) l e = missing xs i (omega arith) e

  -- it is the byte that `last` gives
  pub ends_some : (xs : List ℕ) (b : ℕ) → Some b ≡ slice_get xs (length xs - 1) → nat_eq b c ≡ ends_in c xs
  ends_some [] b e = let z : ◌≡◌ {A = Option ℕ} None (Some b) = sym e in absurd cc
  ends_some (x ∷ xs) b e = sym (ends_at (x ∷ xs) (length (x ∷ xs) - 1) b (omega arith) (sym e))

  pub ends_none : (xs : List ℕ) → None ≡ slice_get xs (length xs - 1) → true ≡ ends_in c xs
  unfolding ends_in
  ends_none [] e = refl
  ends_none (x ∷ xs) e = absurd (missing (x ∷ xs) (length (x ∷ xs) - 1) (omega arith) (sym e))

-- ---- a text that isn't known

module _ (r : Reading) (t : List ℕ) where
  pub known : (n : ℕ) → r.texts t ≡ Some n → offset_of r t ≡ Ok (n, r)
  unfolding offset_of
  known n h = rw h refl

  pub not_behind : r.texts t ≡ None → ends_in 0 r.said.strings ≡ false → offset_of r t ≡ Err FullStrings
  unfolding offset_of
  not_behind h e = rw (h, e) refl

  pub put_behind : r.texts t ≡ None → ends_in 0 r.said.strings ≡ true → offset_of r t ≡ put_text r t
  unfolding offset_of
  put_behind h e = rw (h, e) refl

pub ruleset offsets = (known, not_behind, put_behind)

-- ---- a string at an offset

-- what a list has from a place on
pub from_on : (xs from : List ℕ) (n : ℕ) → from ≡ slice_range xs n (length xs) → from ≡ drop n xs
from_on xs from n e = e ∙ all_of (length xs - n) (drop n xs) (omega (arith, length-drop n xs))

pub not_at : (s t : List ℕ) (n : ℕ) → length s ≤ n → is_string_at s n t ≡ false
unfolding is_string_at
not_at s [] n h = rw (drop_of_length-le s h) refl
not_at s (a ∷ t) n h = rw (drop_of_length-le s h) refl

begins : Option ℕ → Bool
begins (Some b) = nat_eq 0 b
begins None = false

turned : (a b : ℕ) → nat_eq a b ≡ nat_eq b a
turned a b = grind (arith, nat_tests)

and_assoc : (a b c : Bool) → ((a && b) && c) ≡ (a && (b && c))
and_assoc true b c = refl
and_assoc false b c = refl

and_true : (a : Bool) → (a && true) ≡ a
and_true true = refl
and_true false = refl

at_front :
    (s t : List ℕ) →
    starts_with eqb s (t ++ 0 ∷ []) ≡ (pointwise eqb (take (length t) s) t && begins (slice_get (drop (length t) s) 0))
unfolding begins
at_front [] [] = refl
at_front (b ∷ s) [] = and_true (nat_eq 0 b)
at_front [] (a ∷ t) = refl
at_front (b ∷ s) (a ∷ t) =
    ap (λ x. x && starts_with eqb s (t ++ 0 ∷ [])) (turned a b)
    ∙ ap (λ x. nat_eq b a && x) (at_front s t)
    ∙ sym (and_assoc (nat_eq b a) (pointwise eqb (take (length t) s) t) (begins (slice_get (drop (length t) s) 0)))

by_option : (o : Option ℕ) → begins o ≡ option_eq nat_eq o (Some 0)
unfolding begins
by_option None = refl
by_option (Some b) = turned 0 b

-- what is lent is compared by what it is
pub by_lent :
    (r : Option (Bor ℕ)) (z : Bor ℕ) →
    option_eq (λ x y. nat_eq x.now y.now) r (Some z) ≡ option_eq nat_eq (option_copied r) (Some z.now)
by_lent None z = refl
by_lent (Some x) z = refl

module _ (s t from : List ℕ) (n : ℕ) where
  -- it doesn't begin so
  pub not_begun :
      from ≡ drop n s → pointwise eqb (take (length t) from) t ≡ false → is_string_at s n t ≡ false
  unfolding is_string_at
  not_begun e h =
      ap (λ x. starts_with eqb x (t ++ 0 ∷ [])) (sym e) ∙ at_front from t
      ∙ ap (λ x. x && begins (slice_get (drop (length t) from) 0)) h

  -- it does, and then the byte behind it says whether it is one
  pub begun :
      (rest : List ℕ) (o : Option ℕ) → from ≡ drop n s → pointwise eqb (take (length t) from) t ≡ true →
      rest ≡ drop (length t) from → o ≡ slice_get rest 0 → is_string_at s n t ≡ option_eq nat_eq o (Some 0)
  unfolding is_string_at begins
  begun rest o e h l f =
      ap (λ x. starts_with eqb x (t ++ 0 ∷ [])) (sym e) ∙ at_front from t
      ∙ ap (λ x. x && begins (slice_get (drop (length t) from) 0)) h
      ∙ ap begins (ap (λ x. slice_get x 0) (sym l) ∙ sym f) ∙ by_option o
