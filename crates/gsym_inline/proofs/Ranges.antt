-- Ranges one after another: what those left from a place on come to, passed over, and judged with what is kept of those
-- before.
-- Assumes nothing.
use mathlib.Core.Bool.{◌||◌}
use Rattle.std.proofs.Common.{Ok, Err, Result, ℕ, suc, zero, ◌+◌, ◌<◌, List, [], ◌∷◌, Bool, true, false, ◌≡◌, refl, sym}
use Rattle.std.proofs.Common.{ap, ◌∙◌, arith, if◌then◌else◌}
use Rattle.gsym_reads.specs.Steps.{◌>>=◌}
use Rattle.gsym_leb128.specs.Answers.{unsigned_at}
use Rattle.gsym_leb128.specs.declared.Cause.{Cause}
use Rattle.gsym_inline.specs.Tree.{Range}
use Rattle.gsym_inline.specs.Frames.{in_range, any_in, first_off}
use Rattle.gsym_inline.specs.Head.{range_at, ranges_at, past_ranges}
use Rattle.gsym_inline.specs.Judge.{judged_range, judged_ranges, span_of, spans_of}
use Rattle.gsym_inline.specs.declared.head.Fault.{Fault}
use Rattle.gsym_inline.specs.Inherited.{Inherited}

-- ---- passed over

-- one range more in front of those that follow it
abbrev pub put_front : {E : Type 0} → Range → Result (List Range × ℕ) E → Result (List Range × ℕ) E
put_front r x = do
  (rs, m) ← x
  Ok (r ∷ rs, m)

abbrev place_after : Result (List Range × ℕ) Cause → Result ℕ Cause
place_after x = do
  (rs, m) ← x
  Ok m

past_first : (r : Range) (x : Result (List Range × ℕ) Cause) → place_after (put_front r x) ≡ place_after x
past_first r (Ok p) = refl
past_first r (Err k) = refl

module _ (s : List ℕ) where
  pub past_none : (left to : ℕ) → left ≡ 0 → Ok to ≡ past_ranges left s to
  unfolding past_ranges ranges_at
  past_none zero to z = refl
  past_none (suc k) to z = absurd (omega arith)

  pub past_no_off : (left to : ℕ) (k : Cause) → 0 < left → unsigned_at s to ≡ Err k → Err k ≡ past_ranges left s to
  unfolding past_ranges ranges_at range_at
  past_no_off zero to k l e = absurd (omega arith)
  past_no_off (suc j) to k l e = rw e refl

  pub past_no_size :
      (left to off m : ℕ) (k : Cause) → 0 < left → unsigned_at s to ≡ Ok (off, m) → unsigned_at s m ≡ Err k →
      Err k ≡ past_ranges left s to
  unfolding past_ranges ranges_at range_at
  past_no_size zero to off m k l e f = absurd (omega arith)
  past_no_size (suc j) to off m k l e f = rw (e, f) refl

  pub past_one :
      (left rest to off m size n : ℕ) → left ≡ suc rest → unsigned_at s to ≡ Ok (off, m) →
      unsigned_at s m ≡ Ok (size, n) → past_ranges left s to ≡ past_ranges rest s n
  unfolding past_ranges ranges_at range_at
  past_one left rest to off m size n l e f = rw (l, e, f) (past_first _ (ranges_at rest s n))

-- ---- judged: `fresh` says that none was before, `first` is the start kept, `held` whether one so far contains the
-- address

first_from : Bool → ℕ → ℕ → List Range → ℕ
first_from fresh first base [] = first
first_from fresh first base (r ∷ rs) = if fresh then base + r.off else first

pub spans_from : Inherited → Bool → ℕ → Bool → Result (List Range × ℕ) Fault → Result (ℕ × ℕ × Bool) Fault
spans_from c fresh first held x = do
  (rs, m) ← x
  Ok (m, first_from fresh first c.base rs, if held then true else any_in c.addr c.base rs)

first-start : (base : ℕ) (rs : List Range) → first_from true base base rs ≡ base + first_off rs
unfolding first_from first_off
first-start base [] = omega arith
first-start base (r ∷ rs) = refl

first-later : (first base : ℕ) (rs : List Range) → first_from false first base rs ≡ first
unfolding first_from
first-later first base [] = refl
first-later first base (r ∷ rs) = refl

-- before the first turn
pub spans-start : (c : Inherited) (x : Result (List Range × ℕ) Fault) → spans_of c x ≡ spans_from c true c.base false x
unfolding spans_of spans_from
spans-start c (Ok (rs, n)) = rw (first-start c.base rs) refl
spans-start c (Err f) = refl

-- a range contains the address, or one after it does
pub any_in-cons :
    (addr base : ℕ) (r : Range) (rs : List Range) →
    any_in addr base (r ∷ rs) ≡ (if in_range addr base r then true else any_in addr base rs)
unfolding any_in
any_in-cons addr base r rs = go (in_range addr base r)
  where
    go : (t : Bool) → (t || any_in addr base rs) ≡ (if t then true else any_in addr base rs)
    go true = refl
    go false = refl

-- one range more in front
and-range :
    (c : Inherited) (fresh : Bool) (first : ℕ) (held : Bool) (r : Range) (x : Result (List Range × ℕ) Fault) →
    spans_from c fresh first held (put_front r x)
    ≡ spans_from c false (if fresh then c.base + r.off else first)
    (if held then true else in_range c.addr c.base r) x
unfolding spans_from first_from
and-range c fresh first true r (Ok (rs, m)) = rw (first-later _ c.base rs) refl
and-range c fresh first false r (Ok (rs, m)) = rw (first-later _ c.base rs, any_in-cons c.addr c.base r rs) refl
and-range c fresh first held r (Err f) = refl

-- from what one range comes to
from_span : Inherited → Bool → ℕ → Bool → (ℕ → Result (List Range × ℕ) Fault) → Result (ℕ × ℕ × Bool) Fault →
    Result (ℕ × ℕ × Bool) Fault
from_span c fresh first held go (Ok (n, start, inside)) =
    spans_from c false (if fresh then start else first) (if held then true else inside) (go n)
from_span c fresh first held go (Err f) = Err f

then-span :
    (c : Inherited) (fresh : Bool) (first : ℕ) (held : Bool) (go : ℕ → Result (List Range × ℕ) Fault)
    (x : Result (Range × ℕ) Fault) →
    spans_from c fresh first held (x >>= λ p. put_front p.0 (go p.1))
    ≡ from_span c fresh first held go (span_of c x)
unfolding span_of from_span spans_from
then-span c fresh first held go (Ok (r, n)) = and-range c fresh first held r (go n)
then-span c fresh first held go (Err f) = refl

module _ (s : List ℕ) (c : Inherited) (fresh : Bool) (left rest first : ℕ) (held : Bool) (to : ℕ)
    (x : Result (ℕ × ℕ × Bool) Fault) (X : x ≡ span_of c (judged_range c.base s to)) (l : left ≡ suc rest) where
  turn :
      spans_from c fresh first held (judged_ranges c.base left s to)
      ≡ from_span c fresh first held (judged_ranges c.base rest s) x
  unfolding judged_ranges
  turn =
      ap (λ (k : ℕ). spans_from c fresh first held (judged_ranges c.base k s to)) l
      ∙ then-span c fresh first held (judged_ranges c.base rest s) (judged_range c.base s to)
      ∙ ap (from_span c fresh first held (judged_ranges c.base rest s)) (sym X)

  pub spans-bad : (f : Fault) → x ≡ Err f → Err f ≡ spans_from c fresh first held (judged_ranges c.base left s to)
  unfolding from_span
  spans-bad f p = sym (turn ∙ ap (from_span c fresh first held (judged_ranges c.base rest s)) p)

  -- what is kept after a turn
  pub spans-at :
      (n start : ℕ) (inside : Bool) → x ≡ Ok (n, start, inside) →
      (y : ℕ) → y ≡ (if fresh then start else first) → (z : Bool) → z ≡ (if held then true else inside) →
      spans_from c fresh first held (judged_ranges c.base left s to)
      ≡ spans_from c false y z (judged_ranges c.base rest s n)
  unfolding from_span
  spans-at n start inside p y ey z ez =
      turn ∙ ap (from_span c fresh first held (judged_ranges c.base rest s)) p ∙ rw (ey, ez) refl

pub spans-none :
    (s : List ℕ) (c : Inherited) (fresh : Bool) (first : ℕ) (held : Bool) (left to : ℕ) → left ≡ 0 →
    Ok (to, first, held) ≡ spans_from c fresh first held (judged_ranges c.base left s to)
unfolding judged_ranges spans_from any_in first_from
spans-none s c fresh first true zero to z = refl
spans-none s c fresh first false zero to z = refl
spans-none s c fresh first held (suc k) to z = absurd (omega arith)
