-- The tests on a node's ranges say what the statements over its ranges say.
-- Assumes nothing.
use Rattle.std.proofs.Common.{ℕ, ◌+◌, ◌≤◌, ◌<◌, Bool, true, false, true≢false, List, [], ◌∷◌, ◌↔◌, ◌≡◌, refl, ap, sym}
use Rattle.std.proofs.Common.{◌∙◌, ltb, leb, ltb-true, ltb-false, leb-true, lt-ltb, le-ltb, le-leb, if◌then◌else◌, cond}
use mathlib.Core.Bool.{false≢true}
use mathlib.Core.List.{Memᴰ}
use Rattle.gsym_inline.proofs.Members.{contains_mem, mem_contains}
use Rattle.gsym_inline.specs.Tree.{Range, Node}
use Rattle.gsym_inline.specs.Frames.{in_range, any_in}
use Rattle.gsym_inline.specs.Limits.{most_address, most_file}
use Rattle.gsym_inline.proofs.Ranges.{any_in-cons}
use Rattle.gsym_inline.proofs.Forests.{too_large, any_large}
use Rattle.gsym_inline.specs.Paths.{ContainsAddress, NodeFits}

-- ---- a test that some range of a list meets

module _
    (test : Range → Bool)
    (any : List Range → Bool)
    (any-nil : any [] ≡ false)
    (any-cons : (r : Range) (rs : List Range) → any (r ∷ rs) ≡ (if test r then true else any rs))
  where
    any-inv : (rs : List Range) → any rs ≡ true → (r : Range) × Memᴰ r rs × (test r ≡ true)
    any-inv [] e = absurd (false≢true (sym any-nil ∙ e))
    any-inv (r ∷ rs) e = go (test r) refl (any-inv rs) (sym (any-cons r rs) ∙ e)
      where
        go :
            (t : Bool) → test r ≡ t → (any rs ≡ true → (x : Range) × Memᴰ x rs × (test x ≡ true)) →
            (if t then true else any rs) ≡ true → (x : Range) × Memᴰ x (r ∷ rs) × (test x ≡ true)
        go true p below q = (r, Memᴰ.head refl, p)
        go false p below q = let i = below q in (i.0, Memᴰ.tail i.1, i.2)

    any_of : (r : Range) (rs : List Range) → Memᴰ r rs → test r ≡ true → any rs ≡ true
    any_of r [] m h = elim m [ ]
    any_of r (x ∷ xs) (Memᴰ.head e) h = any-cons x xs ∙ ap (λ t. if t then true else any xs) (sym (ap test e) ∙ h)
    any_of r (x ∷ xs) (Memᴰ.tail m) h =
        any-cons x xs ∙ ap (cond (test x) true) (any_of r xs m h) ∙ go (test x)
      where
        go : (t : Bool) → (if t then true else true) ≡ true
        go true = refl
        go false = refl

    none_of : (r : Range) (rs : List Range) → any rs ≡ false → Memᴰ r rs → test r ≡ false
    none_of r rs h m = go (test r) refl
      where
        go : (t : Bool) → test r ≡ t → test r ≡ false
        go true e = absurd (true≢false (sym (any_of r rs m e) ∙ h))
        go false e = e

    none-inv : (rs : List Range) → ((r : Range) → Memᴰ r rs → test r ≡ false) → any rs ≡ false
    none-inv rs h = go (any rs) refl
      where
        go : (t : Bool) → any rs ≡ t → any rs ≡ false
        go true e = let i = any-inv rs e in absurd (true≢false (sym i.2 ∙ h i.0 i.1))
        go false e = e

-- ---- containing the address

module _ (addr base : ℕ) where
  in-nil : any_in addr base [] ≡ false
  unfolding any_in
  in-nil = refl

  in-cons :
      (r : Range) (rs : List Range) →
      any_in addr base (r ∷ rs) ≡ (if in_range addr base r then true else any_in addr base rs)
  in-cons r rs = any_in-cons addr base r rs

  in-range-inv : (r : Range) → in_range addr base r ≡ true → (base + r.off ≤ addr) × (addr < base + r.off + r.size)
  unfolding in_range
  in-range-inv r = go (leb (base + r.off) addr) refl
    where
      go :
          (t : Bool) → leb (base + r.off) addr ≡ t → (if t then ltb addr (base + r.off + r.size) else false) ≡ true →
          (base + r.off ≤ addr) × (addr < base + r.off + r.size)
      go true p q = (leb-true _ _ p, ltb-true _ _ q)
      go false p q = absurd (false≢true q)

  in-range : (r : Range) → base + r.off ≤ addr → addr < base + r.off + r.size → in_range addr base r ≡ true
  unfolding in_range
  in-range r s e = rw (le-leb _ _ s, lt-ltb _ _ e)

  -- the test `any_in` says whether a node contains the address
  pub contains-iff : (n : Node) → (any_in addr base n.ranges ≡ true) ↔ ContainsAddress addr base n
  contains-iff n = (to, from)
    where
      to : any_in addr base n.ranges ≡ true → ContainsAddress addr base n
      to h =
          let i = any-inv (in_range addr base) (any_in addr base) in-nil in-cons n.ranges h in
          let b = in-range-inv i.0 i.2 in
          record { range = i.0; own = mem_contains n.ranges i.0 i.1; start = b.0; end = b.1 }

      from : ContainsAddress addr base n → any_in addr base n.ranges ≡ true
      from c =
          any_of (in_range addr base) (any_in addr base) in-nil in-cons c.range n.ranges
          (contains_mem n.ranges c.range c.own)
          (in-range c.range c.start c.end)

-- ---- sums and call files within the limits

module _ (base : ℕ) where
  large-nil : any_large base [] ≡ false
  unfolding any_large
  large-nil = refl

  large-cons :
      (r : Range) (rs : List Range) → any_large base (r ∷ rs) ≡ (if too_large base r then true else any_large base rs)
  unfolding any_large
  large-cons r rs = refl

  small-inv :
      (r : Range) → too_large base r ≡ false → (base + r.off ≤ most_address) × (base + r.off + r.size ≤ most_address)
  unfolding too_large
  small-inv r = go (ltb most_address (base + r.off)) refl
    where
      go :
          (t : Bool) → ltb most_address (base + r.off) ≡ t →
          (if t then true else ltb most_address (base + r.off + r.size)) ≡ false →
          (base + r.off ≤ most_address) × (base + r.off + r.size ≤ most_address)
      go true p q = absurd (true≢false q)
      go false p q = (ltb-false _ _ p, ltb-false _ _ q)

  small : (r : Range) → base + r.off ≤ most_address → base + r.off + r.size ≤ most_address → too_large base r ≡ false
  unfolding too_large
  small r s e = rw (le-ltb _ _ s, le-ltb _ _ e)

  -- the test `any_large` and the limit on the call file say whether a node fits
  pub node-fits-iff : (n : Node) → ((any_large base n.ranges ≡ false) × (n.file ≤ most_file)) ↔ NodeFits base n
  node-fits-iff n = (to, from)
    where
      each :
          any_large base n.ranges ≡ false → (r : Range) → Memᴰ r n.ranges →
          (base + r.off ≤ most_address) × (base + r.off + r.size ≤ most_address)
      each h r m = small-inv r (none_of (too_large base) (any_large base) large-nil large-cons r n.ranges h m)

      to : (any_large base n.ranges ≡ false) × (n.file ≤ most_file) → NodeFits base n
      to h = record {
        starts = λ r m. (each h.0 r (contains_mem n.ranges r m)).0;
        ends = λ r m. (each h.0 r (contains_mem n.ranges r m)).1;
        file = h.1;
      }

      from : NodeFits base n → (any_large base n.ranges ≡ false) × (n.file ≤ most_file)
      from f = (
        none-inv (too_large base) (any_large base) large-nil large-cons n.ranges
            (λ r m. small r (f.starts r (mem_contains n.ranges r m)) (f.ends r (mem_contains n.ranges r m))),
        f.file,
      )
