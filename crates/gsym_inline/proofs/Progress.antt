-- Where reading goes on after a head: further on, within the bytes; and a node stands on one of 64 levels.
-- Assumes nothing.
use Rattle.std.proofs.Common.{Ok, Err, Result, ℕ, zero, suc, ◌+◌, ◌<◌, ◌≤◌, List, Bool, true, false, ◌≡◌, refl, sym, ap}
use Rattle.std.proofs.Common.{subst, ◌∙◌, leb, eqb, length, arith, if◌then◌else◌}
use Rattle.std.proofs.lemmas.Bool.{leb-true}
use Rattle.gsym_reads.specs.Steps.{◌>>=◌, ◌>>◌, need, given}
use Rattle.gsym_reads.proofs.Steps.{bind_ok, need_ok, ok_is}
use Rattle.gsym_reads.specs.Answers.{u8_at, u32_at}
use Rattle.gsym_leb128.specs.Answers.{unsigned_at}
use Rattle.gsym_leb128.specs.declared.Cause.TheVariants.{Short}
use Rattle.gsym_leb128.proofs.Places.{unsigned_next}
use Rattle.gsym_inline.specs.Tree.{Range, Node}
use Rattle.gsym_inline.specs.Head.{range_at, ranges_at, Rest, rest_at, whole_at, EndOrNode, end, node, found_at}
use Rattle.gsym_inline.specs.Head.{head_at}
use Rattle.gsym_inline.specs.Head.{GoesOn}
use Rattle.gsym_inline.specs.Judge.{judged_at}
use Rattle.gsym_inline.proofs.Forests.{node_fits}
use Rattle.gsym_inline.specs.declared.head.Fault.{Fault}
use Rattle.gsym_inline.specs.declared.head.Fault.TheVariants.{Level}
use Rattle.gsym_inline.specs.declared.head.NodeHead.{NodeHead}
use Rattle.gsym_inline.specs.declared.head.Head.{Head}
use Rattle.gsym_inline.specs.declared.head.Head.TheVariants as head
use Rattle.gsym_inline.specs.Inherited.{Inherited}
use Rattle.gsym_inline.specs.declared.judge.JudgedNode.{JudgedNode}
use Rattle.gsym_inline.proofs.Follows.{Follows, leads, then_ok}
use Rattle.gsym_inline.proofs.Heads.{FoundJudged, judged_of, judged-is, FoundRead, head-is}

module _ (s : List ℕ) where
  -- ranges may be none, so that they take nothing
  ranges-next :
      (count at : ℕ) (rs : List Range) (m : ℕ) → at ≤ length s → ranges_at count s at ≡ Ok (rs, m) →
      (at ≤ m) × (m ≤ length s)
  unfolding ranges_at range_at
  ranges-next zero at rs m l e =
      let q : at ≡ m = ap (λ p. p.1) (ok_is _ _ e) in
      (omega arith, omega arith)
  ranges-next (suc count) at rs m l e =
      let r = bind_ok (range_at s at) _ (rs, m) e in
      let off = bind_ok (unsigned_at s at) _ r.0 r.1 in
      let size = bind_ok (unsigned_at s off.0.1) _ r.0 off.2 in
      let a = unsigned_next s at _ _ off.1 in
      let b = unsigned_next s _ _ _ size.1 in
      let n : size.0.1 ≡ r.0.1 = ap (λ p. p.1) (ok_is _ _ size.2) in
      let rest = bind_ok (ranges_at count s r.0.1) _ (rs, m) r.2 in
      let c = ranges-next count r.0.1 rest.0.0 rest.0.1 (omega arith) rest.1 in
      let k : rest.0.1 ≡ m = ap (λ p. p.1) (ok_is _ _ rest.2) in
      (omega arith, omega arith)

  rest-next : (at : ℕ) (t : Rest) → rest_at s at ≡ Ok t → (at < t.next) × (t.next ≤ length s)
  unfolding rest_at
  rest-next at t e =
      let children = bind_ok (given Short (u8_at s at)) _ t e in
      let name = bind_ok (given Short (u32_at s (at + 1))) _ t children.2 in
      let file = bind_ok (unsigned_at s (at + 5)) _ t name.2 in
      let line = bind_ok (unsigned_at s file.0.1) _ t file.2 in
      let a = unsigned_next s (at + 5) _ _ file.1 in
      let b = unsigned_next s _ _ _ line.1 in
      let n : line.0.1 ≡ t.next = ap (λ (r : Rest). r.next) (ok_is _ _ line.2) in
      (omega arith, omega arith)

  whole-next :
      (count at : ℕ) (w : Node × ℕ × ℕ) → at ≤ length s → whole_at s count at ≡ Ok w → (at < w.2) × (w.2 ≤ length s)
  unfolding whole_at
  whole-next count at w l e =
      let rs = bind_ok (ranges_at count s at) _ w e in
      let t = bind_ok (rest_at s rs.0.1) _ w rs.2 in
      let a = ranges-next count at rs.0.0 rs.0.1 l rs.1 in
      let b = rest-next rs.0.1 t.0 t.1 in
      let n : t.0.next ≡ w.2 = ap (λ (r : Node × ℕ × ℕ). r.2) (ok_is _ _ t.2) in
      (omega arith, omega arith)

abbrev pub FoundGoes : ℕ → ℕ → EndOrNode → Type 0
FoundGoes at len (end n) = (at < n) × (n ≤ len)
FoundGoes at len (node self children next) = (at < next) × (next ≤ len)

pub found-next : (s : List ℕ) (at : ℕ) (x : EndOrNode) → found_at s at ≡ Ok x → FoundGoes at (length s) x
unfolding found_at
found-next s at x e =
    let p = bind_ok (unsigned_at s at) _ x e in
    let a = unsigned_next s at _ _ p.1 in
    by-test p.0.0 p.0.1 a (eqb p.0.0 0) p.2
  where
    by-test :
        (count first : ℕ) → (at < first) × (first ≤ length s) → (b : Bool) →
        (if b then Ok (end first) else (whole_at s count first >>= λ w. Ok (node w.0 w.1 w.2))) ≡ Ok x →
        FoundGoes at (length s) x
    by-test count first a true f = rw (← ok_is _ _ f) a
    by-test count first a false f =
        let w = bind_ok (whole_at s count first) _ x f in
        let g = whole-next s count first w.0 a.1 w.1 in
        rw (← ok_is _ _ w.2) (omega arith, g.1)

-- ---- a head as `head_at` answers it

need-level : {A : Type 0} (level : ℕ) (x y : A) → (need (leb level 64) Level >> Ok x) ≡ Ok y → (level ≤ 64) × (x ≡ y)
need-level level x y e =
    let n = need_ok (leb level 64) Level (Ok x) y e in
    (leb-true level 64 n.0, ok_is _ _ n.1)

module _ (s : List ℕ) (level at : ℕ) (h : Result (Head NodeHead) Fault) (H : h ≡ head_at s level at) where
  read-of : (y : Head NodeHead) → h ≡ Ok y → (x : EndOrNode) × (found_at s at ≡ Ok x) × FoundRead level x (Ok y)
  read-of y e =
      leads (FoundRead level) (found_at s at) y
      (subst (λ (r : Result (Head NodeHead) Fault). Follows (FoundRead level) (found_at s at) r) (sym H ∙ e)
      (head-is level s at))

  pub head-end-next : (n : ℕ) → h ≡ Ok (head.End n) → (at < n) × (n ≤ length s)
  head-end-next n e = let x = read-of (head.End n) e in go x.0 (found-next s at x.0 x.1) x.2
    where
      go : (x : EndOrNode) → FoundGoes at (length s) x → FoundRead level x (Ok (head.End n)) → (at < n) × (n ≤ length s)
      go (end m) g q = let z : m ≡ n = cc in rw (← z) g
      go (node self children next) g q =
          let n = need_ok (leb level 64) Level (Ok (head.Node q.0)) _ (sym q.1) in absurd (cc n.1)

  pub head-next : (i : NodeHead) → h ≡ Ok (head.Node i) → (at < i.next) × (i.next ≤ length s) × (level ≤ 64)
  head-next i e = let x = read-of (head.Node i) e in go x.0 (found-next s at x.0 x.1) x.2
    where
      go :
          (x : EndOrNode) → FoundGoes at (length s) x → FoundRead level x (Ok (head.Node i)) →
          (at < i.next) × (i.next ≤ length s) × (level ≤ 64)
      go (end m) g q = absurd cc
      go (node self children next) g q =
          let n = need-level level (head.Node q.0) (head.Node i) (sym q.1) in
          let z : q.0 ≡ i = cc n.1 in
          let m : i.next ≡ next = sym (ap (λ (k : NodeHead). k.next) z) ∙ q.3 in
          (omega (arith, g.0), omega (arith, g.1), n.0)

-- ---- a judged head

module _ (s : List ℕ) (c : Inherited) (at : ℕ) (h : Result (Head JudgedNode) Fault) (H : h ≡ judged_at c s at) where
  judged-of : (y : Head JudgedNode) → h ≡ Ok y → (x : EndOrNode) × (found_at s at ≡ Ok x) × FoundJudged c x (Ok y)
  judged-of y e =
      leads (FoundJudged c) (found_at s at) y
      (subst (λ (r : Result (Head JudgedNode) Fault). Follows (FoundJudged c) (found_at s at) r) (sym H ∙ e)
      (judged-is c s at))

  pub judged-end-next : (n : ℕ) → h ≡ Ok (head.End n) → (at < n) × (n ≤ length s)
  judged-end-next n e = let x = judged-of (head.End n) e in go x.0 (found-next s at x.0 x.1) x.2
    where
      go : (x : EndOrNode) → FoundGoes at (length s) x → FoundJudged c x (Ok (head.End n)) → (at < n) × (n ≤ length s)
      go (end m) g q = let z : m ≡ n = cc in rw (← z) g
      go (node self children next) g q =
          let n = then_ok (node_fits c self) (Ok (head.Node (judged_of c (self, children, next)))) _ (sym q) in
          absurd (cc n.2)

  pub judged-next : (i : JudgedNode) → h ≡ Ok (head.Node i) → (at < i.next) × (i.next ≤ length s) × (c.level ≤ 64)
  unfolding node_fits
  judged-next i e = let x = judged-of (head.Node i) e in go x.0 (found-next s at x.0 x.1) x.2
    where
      go :
          (x : EndOrNode) → FoundGoes at (length s) x → FoundJudged c x (Ok (head.Node i)) →
          (at < i.next) × (i.next ≤ length s) × (c.level ≤ 64)
      go (end m) g q = absurd cc
      go (node self children next) g q =
          let n = then_ok (node_fits c self) (Ok (head.Node (judged_of c (self, children, next))))
          (head.Node i) (sym q) in
          let l = need_ok (leb c.level 64) Level _ _ n.1 in
          let z : judged_of c (self, children, next) ≡ i = cc n.2 in
          let m : next ≡ i.next = ap (λ (k : JudgedNode). k.next) z in
          (omega (arith, g.0), omega (arith, g.1), leb-true c.level 64 l.0)

-- ---- and so do the readers, by their contracts

pub head_onward :
    (s : List ℕ) (level at : ℕ) (r : Result (Head NodeHead) Fault) → r ≡ head_at s level at →
    GoesOn r (λ h. h.next) level at (length s)
head_onward s level at (Ok (head.End n)) e = head-end-next s level at _ refl n (sym e)
head_onward s level at (Ok (head.Node h)) e = head-next s level at _ refl h (sym e)
head_onward s level at (Err f) e = tt

pub judged_onward :
    (s : List ℕ) (c : Inherited) (at : ℕ) (r : Result (Head JudgedNode) Fault) → r ≡ judged_at c s at →
    GoesOn r (λ h. h.next) c.level at (length s)
judged_onward s c at (Ok (head.End n)) e = judged-end-next s c at _ refl n (sym e)
judged_onward s c at (Ok (head.Node h)) e = judged-next s c at _ refl h (sym e)
judged_onward s c at (Err f) e = tt
