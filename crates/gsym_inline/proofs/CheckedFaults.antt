-- What a check is refused with has one of the numbers 10 to 13 and 15: no address is asked for, so that no frame lacks
-- room.
-- Assumes nothing.
use Rattle.std.proofs.Common.{Ok, Err, Result, ℕ, zero, suc, ◌+◌, min, List, ◌∷◌, length, Bool, true, false}
use Rattle.std.proofs.Common.{Option, Some, None}
use Rattle.std.proofs.Common.{◌≡◌, refl, inl, inr}
use Rattle.std.proofs.Common.{eqb, leb, arith, IfErr, cond}
use Rattle.gsym_reads.specs.Steps.{◌>>=◌, ◌>>◌, need, given, told}
use Rattle.gsym_types.specs.declared.Refusal.{Refusal}
use Rattle.gsym_leb128.specs.declared.Cause.{Cause}
use Rattle.gsym_leb128.specs.declared.Cause.TheVariants.{Short, Wide}
use Rattle.gsym_reads.specs.Answers.{u8_at, u32_at}
use Rattle.gsym_leb128.specs.Answers.{unsigned_at}
use Rattle.gsym_inline.specs.Limits.{most_address, most_file, most_line, deepest_level}
use Rattle.gsym_inline.specs.Frames.{any_in, first_off, frame}
use Rattle.gsym_inline.specs.Judge.{judged_range, judged_ranges, judged_rest, judged_node, judged_at}
use Rattle.gsym_inline.specs.Skip.{then_skip}
use Rattle.gsym_inline.specs.Walk.{below}
use Rattle.gsym_inline.specs.Checked.{checked_from, checked_within, checked_list, checked_node, checked_tree}
use Rattle.gsym_inline.specs.Checked.{check_context, IsOfTreeCheck}
use Rattle.gsym_inline.specs.Block.{refusal_of}
use Rattle.gsym_inline.specs.Inherited.{Inherited}
use Rattle.gsym_inline.specs.declared.head.Fault.{Fault}
use Rattle.gsym_inline.specs.declared.head.Fault.TheVariants.{Unread, Level, Sum, CallFile}
use Rattle.gsym_inline.specs.declared.head.Head.{Head}
use Rattle.gsym_inline.specs.declared.judge.JudgedNode.{JudgedNode}
use Rattle.gsym_inline.specs.declared.head.Head.TheVariants as head
use Rattle.gsym_inline.specs.declared.skipping.Next.{Next}
use Rattle.gsym_inline.specs.declared.skipping.Next.TheVariants as after

-- where it is a fault, not that of room
Low : {A : Type 0} → Result A Fault → Type 0
Low x = IfErr x (λ f. IsOfTreeCheck (refusal_of f))

low-told : {A : Type 0} (x : Result A Cause) → Low (told Unread x)
unfolding Low
low-told (Ok a) = tt
low-told (Err Short) = inl (omega arith, omega arith)
low-told (Err Wide) = inr refl

low-given : {A : Type 0} (x : Option A) → Low (given (Unread Short) x)
unfolding Low
low-given (Some a) = tt
low-given None = inl (omega arith, omega arith)

low-bind : {A B : Type 0} (x : Result A Fault) (k : A → Result B Fault) → Low x → ((a : A) → Low (k a)) → Low (x >>= k)
unfolding Low
low-bind (Ok a) k l f = f a
low-bind (Err e) k l f = l

low-need : {B : Type 0} (b : Bool) (d : Fault) (r : Result B Fault) → IsOfTreeCheck (refusal_of d) → Low r
    → Low (need b d >> r)
unfolding Low
low-need true d r n l = l
low-need false d r n l = n

low-ok : {A : Type 0} (a : A) → Low (Ok a)
unfolding Low
low-ok a = tt

module _ (s : List ℕ) where
  low-range : (base at : ℕ) → Low (judged_range base s at)
  unfolding judged_range
  low-range base at =
      low-bind {A = ℕ × ℕ} _ _ (low-told (unsigned_at s at)) (λ o.
      low-bind {A = ℕ × ℕ} _ _ (low-told (unsigned_at s o.1)) (λ z.
      low-need (leb (base + o.0) most_address) Sum _ (inl (omega arith, omega arith))
      (low-need (leb (base + o.0 + z.0) most_address) Sum _ (inl (omega arith, omega arith))
      (low-ok (record { off = o.0; size = z.0 }, z.1)))))

  low-ranges : (base count at : ℕ) → Low (judged_ranges base count s at)
  unfolding judged_ranges
  low-ranges base zero at = low-ok _
  low-ranges base (suc count) at =
      low-bind (judged_range base s at) _ (low-range base at) (λ r.
      low-bind (judged_ranges base count s r.1) _ (low-ranges base count r.1) (λ rs. low-ok (r.0 ∷ rs.0, rs.1)))

  low-rest : (start : ℕ) (inside : Bool) (at : ℕ) → Low (judged_rest start inside s at)
  unfolding judged_rest
  low-rest start inside at =
      low-bind {A = ℕ} _ _ (low-given (u8_at s at)) (λ children.
      low-bind {A = ℕ} _ _ (low-given (u32_at s (at + 1))) (λ name.
      low-bind {A = ℕ × ℕ} _ _ (low-told (unsigned_at s (at + 5))) (λ file.
      low-need (leb file.0 most_file) CallFile _ (inl (omega arith, omega arith))
      (low-bind {A = ℕ × ℕ} _ _ (low-told (unsigned_at s file.1)) (λ line.
      low-ok (record {
        next = line.1;
        base = start;
        inside = inside;
        children = children;
        frame = frame name file.0 (min most_line line.0);
      }))))))

  low-node : (c : Inherited) (count at : ℕ) → Low (judged_node c s count at)
  unfolding judged_node
  low-node c count at =
      low-need (leb c.level deepest_level) Level _ (inl (omega arith, omega arith))
      (low-bind (judged_ranges c.base count s at) _ (low-ranges c.base count at)
      (λ rs. low-rest (c.base + first_off rs.0) (any_in c.addr c.base rs.0) rs.1))

  low-head : (c : Inherited) (at : ℕ) → Low (judged_at c s at)
  unfolding judged_at
  low-head c at = low-bind {A = ℕ × ℕ} _ _ (low-told (unsigned_at s at)) (λ n. by-count (eqb n.0 0) n.0 n.1)
    where
      by-count :
          (z : Bool) (count first : ℕ) →
          Low (cond z (Ok (head.End first)) (judged_node c s count first >>= λ i. Ok (head.Node i)))
      by-count true count first = low-ok (head.End first)
      by-count false count first =
          low-bind (judged_node c s count first) _ (low-node c count first) (λ i. low-ok (head.Node i))

  low-from : (go : Inherited → ℕ → Result ℕ Fault) (c : Inherited) → ((d : Inherited) (n : ℕ) → Low (go d n))
      → (x : Head JudgedNode) → Low (checked_from go c x)
  unfolding checked_from
  low-from go c l (head.End n) = low-ok (after.End n)
  low-from go c l (head.Node i) =
      low-bind (cond (eqb i.children 0) (Ok i.next) (go (below c i.base) i.next)) _ (by-children (eqb i.children 0))
      (λ n. low-ok (after.Past n))
    where
      by-children : (z : Bool) → Low (cond z (Ok i.next) (go (below c i.base) i.next))
      by-children true = low-ok i.next
      by-children false = l (below c i.base) i.next

  low-then : (go : ℕ → Result ℕ Fault) → ((n : ℕ) → Low (go n)) → (x : Next) → Low (then_skip go x)
  unfolding then_skip
  low-then go l (after.End n) = low-ok n
  low-then go l (after.Past n) = l n

  low-within : (f : ℕ) (c : Inherited) (at : ℕ) → Low (checked_within f s c at)
  unfolding checked_within Low
  low-within zero c at = inl (omega arith, omega arith)
  low-within (suc f) c at =
      low-bind (judged_at c s at) _ (low-head c at) (λ x.
      low-bind (checked_from (checked_within f s) c x) _ (low-from (checked_within f s) c (low-within f) x)
      (low-then (checked_within f s c) (low-within f c)))

  low-list : (c : Inherited) (at : ℕ) → Low (checked_list s c at)
  unfolding checked_list
  low-list c at = low-within (suc (length s)) c at

  low-tree : (c : Inherited) (at : ℕ) → Low (checked_node s c at)
  unfolding checked_node
  low-tree c at = low-bind (judged_at c s at) _ (low-head c at) (low-from (checked_list s) c low-list)

abbrev passes : Result (Unit {0}) Refusal
passes = Ok tt

pub check_number :
    (symbol : ℕ) (bytes : List ℕ) (x : Result (Unit {0}) Refusal) → x ≡ checked_tree symbol bytes →
    IfErr x IsOfTreeCheck
unfolding checked_tree Low
check_number symbol bytes x e =
    let c = check_context 1 symbol in
    rw e (by (checked_node bytes c 0) (low-tree bytes c 0))
  where
    by : (x : Result Next Fault) → Low x → IfErr (told refusal_of x >>= λ n. passes) IsOfTreeCheck
    by (Ok n) l = tt
    by (Err f) l = l
