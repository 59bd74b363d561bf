-- As many turns as bytes are left, and one, are enough: more change nothing, whether nodes are read, passed over or
-- judged. So a list of nodes is its first node and then the rest.
-- Assumes nothing.
use Rattle.std.proofs.Common.{Ok, Err, Result, ℕ, zero, suc, ◌+◌, ◌-◌, ◌<◌, ◌≤◌, List, Bool, true, false, ◌≡◌, refl}
use Rattle.std.proofs.Common.{sym, ap, ◌∙◌, eqb, length, arith, if◌then◌else◌}
use Rattle.gsym_reads.specs.Steps.{◌>>=◌}
use Rattle.gsym_reads.proofs.Steps.{bind_ok, ok_is}
use Rattle.gsym_types.specs.declared.InlineFrame.{InlineFrame}
use Rattle.gsym_inline.specs.Tree.{Forest, none, tree}
use Rattle.gsym_inline.specs.Head.{EndOrNode, end, node, found_at, head_at}
use Rattle.gsym_inline.specs.Judge.{judged_at}
use Rattle.gsym_inline.specs.Skip.{past_node, then_skip, skip_within, skip_list, skip_node}
use Rattle.gsym_inline.specs.Walk.{
  with_frame,
  below,
  Places,
  Walk,
  open_node,
  closed_node,
  walk_from,
  then_walk,
  walk_within,
  walk_list,
  walk_node,
}
use Rattle.gsym_inline.specs.Full.{Read, read_from, read_within, tree_of}
use Rattle.gsym_inline.specs.declared.head.Fault.{Fault}
use Rattle.gsym_inline.specs.declared.head.Head.{Head}
use Rattle.gsym_inline.specs.declared.judge.JudgedNode.{JudgedNode}
use Rattle.gsym_inline.specs.declared.head.NodeHead.{NodeHead}
use Rattle.gsym_inline.specs.declared.head.Head.TheVariants as head
use Rattle.gsym_inline.specs.Inherited.{Inherited}
use Rattle.gsym_inline.specs.declared.skipping.Next.{Next}
use Rattle.gsym_inline.specs.declared.skipping.Next.TheVariants as after
use Rattle.gsym_inline.proofs.Follows.{bind_assoc, bind_same}
use Rattle.gsym_inline.proofs.Progress.{FoundGoes, found-next, head-end-next, head-next, judged-end-next, judged-next}
use Rattle.gsym_inline.proofs.Trees.{whole, below_read}

-- a place further on, within the bytes
abbrev pub On : ℕ → ℕ → ℕ → Type 0
On at len n = (at < n) × (n ≤ len)

-- a place that is the one after a head, or one that its children lead to
pub children-on :
    {E : Type 0} (len : ℕ) (children : ℕ → Result ℕ E) → ((at n : ℕ) → children at ≡ Ok n → On at len n) →
    (byte at next : ℕ) → On at len next → (b : Bool) → (n : ℕ) →
    (if b then Ok next else children next) ≡ Ok n → On at len n
children-on len children h byte at next g true n e = let q = ok_is _ _ e in (omega arith, omega arith)
children-on len children h byte at next g false n e = let q = h next n e in (omega arith, q.1)

-- ---- passed over

module _ (s : List ℕ) where
  pub skip-next : (f level at n : ℕ) → skip_within f s level at ≡ Ok n → On at (length s) n
  unfolding skip_within past_node then_skip
  skip-next zero level at n e = absurd cc
  skip-next (suc f) level at n e =
      let h = bind_ok (head_at s level at) _ n e in
      let t = bind_ok (past_node (skip_within f s (level + 1)) h.0) _ n h.2 in
      by-head h.0 h.1 t.0 t.1 t.2 (skip-next f)
    where
      by-head :
          (x : Head NodeHead) → head_at s level at ≡ Ok x → (y : Next) →
          past_node (skip_within f s (level + 1)) x ≡ Ok y →
          then_skip (skip_within f s level) y ≡ Ok n →
          ((level at n : ℕ) → skip_within f s level at ≡ Ok n → On at (length s) n) →
          On at (length s) n
      by-head (head.End m) q (after.End k) p r ih =
          let g = head-end-next s level at _ refl m q in
          let a : m ≡ k = cc in
          let b = ok_is _ _ r in
          (omega arith, omega arith)
      by-head (head.End m) q (after.Past k) p r ih = absurd cc
      by-head (head.Node i) q y p r ih =
          let g = head-next s level at _ refl i q in
          let m = bind_ok (if eqb i.children 0 then Ok i.next else skip_within f s (level + 1) i.next) _ y p in
          let a = children-on (length s) (skip_within f s (level + 1)) (ih (level + 1)) i.children at i.next (g.0, g.1)
          (eqb i.children 0) m.0 m.1 in
          let b = ih level m.0 n (ap (then_skip (skip_within f s level)) (ok_is _ _ m.2) ∙ r) in
          (omega arith, b.1)

  skip-from :
      (f g level at : ℕ) →
      ((level n : ℕ) → at < n → n ≤ length s → skip_within f s level n ≡ skip_within g s level n) →
      (x : Head NodeHead) → head_at s level at ≡ Ok x →
      (past_node (skip_within f s (level + 1)) x >>= then_skip (skip_within f s level))
      ≡ (past_node (skip_within g s (level + 1)) x >>= then_skip (skip_within g s level))
  unfolding past_node then_skip
  skip-from f g level at same (head.End n) q = refl
  skip-from f g level at same (head.Node i) q =
      let n = head-next s level at _ refl i q in
      ap (λ (x : Result ℕ Fault).
      ((if eqb i.children 0 then Ok i.next else x) >>= λ n. Ok (after.Past n)) >>= then_skip (skip_within f s level))
      (same (level + 1) i.next n.0 n.1)
      ∙ by-children (if eqb i.children 0 then Ok i.next else skip_within g s (level + 1) i.next)
      (λ m e. children-on (length s) (skip_within g s (level + 1))
      (skip-next g (level + 1)) i.children at i.next (n.0, n.1)
      (eqb i.children 0) m e)
    where
      by-children :
          (x : Result ℕ Fault) → ((m : ℕ) → x ≡ Ok m → On at (length s) m) →
          ((x >>= λ n. Ok (after.Past n)) >>= then_skip (skip_within f s level))
          ≡ ((x >>= λ n. Ok (after.Past n)) >>= then_skip (skip_within g s level))
      by-children (Ok m) h = let a = h m refl in same level m a.0 a.1
      by-children (Err e) h = refl

  pub skip-fuel :
      (f g level at : ℕ) → length s - at < f → length s - at < g → skip_within f s level at ≡ skip_within g s level at
  unfolding skip_within
  skip-fuel zero g level at hf hg = absurd (omega arith)
  skip-fuel (suc f) zero level at hf hg = absurd (omega arith)
  skip-fuel (suc f) (suc g) level at hf hg =
      bind_same (head_at s level at) _ _
      (λ x q. skip-from f g level at (λ level n lt le. skip-fuel f g level n (omega arith) (omega arith)) x q)

  -- a list of nodes is its first node, and then the rest
  pub skip_step :
      (level at : ℕ) → skip_list s level at ≡ (skip_node s level at >>= then_skip (skip_list s level))
  unfolding skip_list skip_node skip_within
  skip_step level at =
      let f = length s in
      bind_same (head_at s level at) _ _
      (λ x q. skip-from f (suc f) level at
      (λ level n lt le. skip-fuel f (suc f) level n (omega arith) (omega arith)) x q)
      ∙ sym (bind_assoc (head_at s level at) (past_node (skip_within (suc f) s (level + 1)))
      (then_skip (skip_within (suc f) s level)))

-- ---- judged

-- where reading goes on after a node
abbrev NextOn : ℕ → ℕ → Next → Type 0
NextOn at len (after.End n) = On at len n
NextOn at len (after.Past n) = On at len n

-- past a node whose list of children was read
abbrev over : Places → Walk
over x = do
  (n, fs) ← x
  Ok (after.Past n, fs)

module _ (s : List ℕ) where
  -- what was judged, and all below it
  from-next :
      (f : ℕ) →
      ((c : Inherited) (at : ℕ) (acc : List InlineFrame) (p : ℕ × List InlineFrame) → walk_within f s c at acc ≡ Ok p →
      On at (length s) p.0) →
      (c : Inherited) (at : ℕ) (acc : List InlineFrame) (v : Head JudgedNode) → judged_at c s at ≡ Ok v →
      (o : Next × List InlineFrame) →
      walk_from (walk_within f s) (skip_within f s (c.level + 1)) c acc v ≡ Ok o → NextOn at (length s) o.0
  unfolding walk_from open_node closed_node
  from-next f ih c at acc (head.End n) q o e =
      let g = judged-end-next s c at _ refl n q in rw (← ok_is _ _ e) g
  from-next f ih c at acc (head.Node i) q o e = by-inside i.inside e
    where
      g : On at (length s) i.next
      g = let n = judged-next s c at _ refl i q in (n.0, n.1)

      by-children :
          (b : Bool) (fs : List InlineFrame) (p : ℕ × List InlineFrame) →
          (if b then Ok (i.next, fs) else walk_within f s (below c i.base) i.next fs) ≡ Ok p → On at (length s) p.0
      by-children true fs p r =
          let z : i.next ≡ p.0 = ap (λ p. p.0) (ok_is _ _ r) in (omega (arith, g.0), omega (arith, g.1))
      by-children false fs p r = let a = ih (below c i.base) i.next fs p r in (omega (arith, g.0, a.0), a.1)

      by-inside :
          (b : Bool) →
          (if b
          then (with_frame c.room i.frame acc >>= λ fs.
          over (if eqb i.children 0 then Ok (i.next, fs) else walk_within f s (below c i.base) i.next fs))
          else ((if eqb i.children 0 then Ok i.next else skip_within f s (c.level + 1) i.next)
          >>= λ n. Ok (after.Past n, acc)))
          ≡ Ok o → NextOn at (length s) o.0
      by-inside true r =
          let p = bind_ok (with_frame c.room i.frame acc) _ o r in
          let k = bind_ok (if eqb i.children 0 then Ok (i.next, p.0) else walk_within f s (below c i.base) i.next p.0)
          _ o p.2 in
          let a = by-children (eqb i.children 0) p.0 k.0 k.1 in
          rw (← ok_is _ _ k.2) a
      by-inside false r =
          let n = bind_ok (if eqb i.children 0 then Ok i.next else skip_within f s (c.level + 1) i.next) _ o r in
          let a = children-on (length s) (skip_within f s (c.level + 1))
          (skip-next s f (c.level + 1)) i.children at i.next g
          (eqb i.children 0) n.0 n.1 in
          rw (← ok_is _ _ n.2) a

  walk-next :
      (f : ℕ) (c : Inherited) (at : ℕ) (acc : List InlineFrame) (p : ℕ × List InlineFrame) →
      walk_within f s c at acc ≡ Ok p → On at (length s) p.0
  unfolding walk_within then_walk
  walk-next zero c at acc p e = absurd cc
  walk-next (suc f) c at acc p e =
      let v = bind_ok (judged_at c s at) _ p e in
      let o = bind_ok (walk_from (walk_within f s) (skip_within f s (c.level + 1)) c acc v.0) _ p v.2 in
      go o.0.0 o.0.1 (from-next f (walk-next f) c at acc v.0 v.1 o.0 o.1) o.2 (walk-next f c)
    where
      go :
          (x : Next) (fs : List InlineFrame) → NextOn at (length s) x → then_walk (walk_within f s c) (x, fs) ≡ Ok p →
          ((at : ℕ) (acc : List InlineFrame) (p : ℕ × List InlineFrame) → walk_within f s c at acc ≡ Ok p →
          On at (length s) p.0) →
          On at (length s) p.0
      go (after.End n) fs g r ih =
          let z : n ≡ p.0 = ap (λ p. p.0) (ok_is _ _ r) in (omega (arith, g.0), omega (arith, g.1))
      go (after.Past n) fs g r ih = let a = ih n fs p r in (omega (arith, g.0, a.0), a.1)

  -- the same with more turns, for what was judged
  from-same :
      (f g : ℕ) (c : Inherited) (at : ℕ) (acc : List InlineFrame) → length s - at ≤ f → length s - at ≤ g →
      ((c : Inherited) (n : ℕ) (fs : List InlineFrame) → at < n → n ≤ length s →
      walk_within f s c n fs ≡ walk_within g s c n fs) →
      (v : Head JudgedNode) → judged_at c s at ≡ Ok v →
      walk_from (walk_within f s) (skip_within f s (c.level + 1)) c acc v
      ≡ walk_from (walk_within g s) (skip_within g s (c.level + 1)) c acc v
  unfolding walk_from open_node closed_node
  from-same f g c at acc hf hg same (head.End n) q = refl
  from-same f g c at acc hf hg same (head.Node i) q = by-inside i.inside
    where
      on : On at (length s) i.next
      on = let n = judged-next s c at _ refl i q in (n.0, n.1)

      by-inside :
          (b : Bool) →
          (if b
          then (with_frame c.room i.frame acc >>= λ fs.
          over (if eqb i.children 0 then Ok (i.next, fs) else walk_within f s (below c i.base) i.next fs))
          else ((if eqb i.children 0 then Ok i.next else skip_within f s (c.level + 1) i.next)
          >>= λ n. Ok (after.Past n, acc)))
          ≡ (if b
          then (with_frame c.room i.frame acc >>= λ fs.
          over (if eqb i.children 0 then Ok (i.next, fs) else walk_within g s (below c i.base) i.next fs))
          else ((if eqb i.children 0 then Ok i.next else skip_within g s (c.level + 1) i.next)
          >>= λ n. Ok (after.Past n, acc)))
      by-inside true =
          bind_same (with_frame c.room i.frame acc) _ _
          (λ fs e. ap (λ (x : Places). over (if eqb i.children 0 then Ok (i.next, fs) else x))
          (same (below c i.base) i.next fs on.0 on.1))
      by-inside false =
          ap (λ (x : Result ℕ Fault). (if eqb i.children 0 then Ok i.next else x) >>= λ n. Ok (after.Past n, acc))
          (skip-fuel s f g (c.level + 1) i.next (omega (arith, on.0, on.1)) (omega (arith, on.0, on.1)))

  then-same :
      (f g : ℕ) (c : Inherited) (at : ℕ) →
      ((n : ℕ) (fs : List InlineFrame) → at < n → n ≤ length s → walk_within f s c n fs ≡ walk_within g s c n fs) →
      (x : Next) (fs : List InlineFrame) → NextOn at (length s) x →
      then_walk (walk_within f s c) (x, fs) ≡ then_walk (walk_within g s c) (x, fs)
  unfolding then_walk
  then-same f g c at same (after.End n) fs h = refl
  then-same f g c at same (after.Past n) fs h = same n fs h.0 h.1

  -- what was judged, and the list after it
  list-same :
      (f g : ℕ) (c : Inherited) (at : ℕ) (acc : List InlineFrame) → length s - at ≤ f → length s - at ≤ g →
      ((c : Inherited) (n : ℕ) (fs : List InlineFrame) → at < n → n ≤ length s →
      walk_within f s c n fs ≡ walk_within g s c n fs) →
      (v : Head JudgedNode) → judged_at c s at ≡ Ok v →
      (walk_from (walk_within f s) (skip_within f s (c.level + 1)) c acc v >>= then_walk (walk_within f s c))
      ≡ (walk_from (walk_within g s) (skip_within g s (c.level + 1)) c acc v >>= then_walk (walk_within g s c))
  list-same f g c at acc hf hg same v q =
      ap (λ (x : Walk). x >>= then_walk (walk_within f s c)) (from-same f g c at acc hf hg same v q)
      ∙ bind_same (walk_from (walk_within g s) (skip_within g s (c.level + 1)) c acc v) _ _
      (λ o e. then-same f g c at (same c) o.0 o.1 (from-next g (walk-next g) c at acc v q o e))

  pub walk-fuel :
      (f g : ℕ) (c : Inherited) (at : ℕ) (acc : List InlineFrame) → length s - at < f → length s - at < g →
      walk_within f s c at acc ≡ walk_within g s c at acc
  unfolding walk_within
  walk-fuel zero g c at acc hf hg = absurd (omega arith)
  walk-fuel (suc f) zero c at acc hf hg = absurd (omega arith)
  walk-fuel (suc f) (suc g) c at acc hf hg =
      bind_same (judged_at c s at) _ _
      (λ v q. list-same f g c at acc (omega arith) (omega arith)
      (λ c n fs lt le. walk-fuel f g c n fs (omega arith) (omega arith)) v q)

  -- a list of judged nodes is its first node, and then the rest
  pub walk_step :
      (c : Inherited) (at : ℕ) (acc : List InlineFrame) →
      walk_list s c at acc ≡ (walk_node s c at acc >>= then_walk (walk_list s c))
  unfolding walk_list walk_node walk_within skip_list
  walk_step c at acc =
      let f = length s in
      bind_same (judged_at c s at) _ _
      (λ v q. list-same f (suc f) c at acc (omega arith) (omega arith)
      (λ c n fs lt le. walk-fuel f (suc f) c n fs (omega arith) (omega arith)) v q)
      ∙ sym (bind_assoc (judged_at c s at)
      (walk_from (walk_within (suc f) s) (skip_within (suc f) s (c.level + 1)) c acc)
      (then_walk (walk_within (suc f) s c)))

-- ---- the tree

module _ (s : List ℕ) where
  read-children :
      (children : ℕ → Read) → ((at : ℕ) (r : Forest × ℕ) → children at ≡ Ok r → On at (length s) r.1) →
      (at next : ℕ) → On at (length s) next → (b : Bool) → (r : Forest × ℕ) →
      (if b then Ok (none, next) else children next) ≡ Ok r → On at (length s) r.1
  read-children children h at next g true r e =
      let q : next ≡ r.1 = ap (λ p. p.1) (ok_is _ _ e) in (omega (arith, g.0), omega (arith, g.1))
  read-children children h at next g false r e = let q = h next r e in (omega (arith, g.0, q.0), q.1)

  pub read-next : (f at : ℕ) (r : Forest × ℕ) → read_within f s at ≡ Ok r → On at (length s) r.1
  unfolding read_within read_from
  read-next zero at r e = absurd cc
  read-next (suc f) at r e =
      let x = bind_ok (found_at s at) (read_from (read_within f s) (read_within f s)) r e in
      by-stand x.0 (found-next s at x.0 x.1) x.2 (read-next f)
    where
      by-stand :
          (x : EndOrNode) → FoundGoes at (length s) x → read_from (read_within f s) (read_within f s) x ≡ Ok r →
          ((at : ℕ) (r : Forest × ℕ) → read_within f s at ≡ Ok r → On at (length s) r.1) → On at (length s) r.1
      by-stand (end n) g q ih =
          let m : n ≡ r.1 = ap (λ p. p.1) (ok_is _ _ q) in (omega (arith, g.0), omega (arith, g.1))
      by-stand (node self byte next) g q ih =
          let k = bind_ok (below_read (read_within f s) byte next) (whole self (read_within f s)) r q in
          let a = read-children (read_within f s) ih at next g (eqb byte 0) k.0 k.1 in
          let t = bind_ok (read_within f s k.0.1) _ r k.2 in
          let b = ih k.0.1 t.0 t.1 in
          let m : t.0.1 ≡ r.1 = ap (λ p. p.1) (ok_is _ _ t.2) in
          (omega (arith, a.0, b.0), omega (arith, b.1))

  read-same :
      (f g at : ℕ) → ((n : ℕ) → at < n → n ≤ length s → read_within f s n ≡ read_within g s n) → (go go' : ℕ → Read) →
      ((n : ℕ) → at < n → n ≤ length s → go n ≡ go' n) → (x : EndOrNode) → FoundGoes at (length s) x →
      read_from (read_within f s) go x ≡ read_from (read_within g s) go' x
  unfolding read_from
  read-same f g at same go go' on (end n) h = refl
  read-same f g at same go go' on (node self byte next) h =
      ap (λ (x : Read). (if eqb byte 0 then Ok (none, next) else x) >>= whole self go) (same next h.0 h.1)
      ∙ bind_same (below_read (read_within g s) byte next) (whole self go) (whole self go')
      (λ r e.
      let a = read-children (read_within g s) (read-next g) at next h (eqb byte 0) r e in
      ap (λ (x : Read). x >>= λ t. Ok (tree self r.0 t.0, t.1)) (on r.1 a.0 a.1))

  pub fuel : (f g at : ℕ) → length s - at < f → length s - at < g → read_within f s at ≡ read_within g s at
  unfolding read_within
  fuel zero g at hf hg = absurd (omega arith)
  fuel (suc f) zero at hf hg = absurd (omega arith)
  fuel (suc f) (suc g) at hf hg =
      bind_same (found_at s at) _ _
      (λ x q. read-same f g at (λ n lt le. fuel f g n (omega arith) (omega arith)) (read_within f s) (read_within g s)
      (λ n lt le. fuel f g n (omega arith) (omega arith)) x (found-next s at x q))

  pub tree-fuel :
      (f : ℕ) → length s < f → (found_at s 0 >>= read_from (read_within f s) (λ n. Ok (none, n))) ≡ tree_of s
  unfolding tree_of
  tree-fuel f h =
      bind_same (found_at s 0) _ _
      (λ x q. read-same f (suc (length s)) 0 (λ n lt le. fuel f (suc (length s)) n (omega arith) (omega arith))
      (λ n. Ok (none, n))
      (λ n. Ok (none, n)) (λ n lt le. refl) x (found-next s 0 x q))
