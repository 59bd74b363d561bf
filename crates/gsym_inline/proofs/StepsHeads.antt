-- Steps judged in their order, and what the items of a node come to so: what its head comes to, judged or passed over.
-- Assumes nothing.
use Rattle.std.proofs.Common.{Ok, Err, Some, None, Option, Result, ℕ, zero, suc, ◌+◌, min, Bool, true, false, cond}
use Rattle.std.proofs.Common.{List, [], ◌∷◌, ◌++◌, ◌≡◌, refl, ap, ◌∙◌, eqb, leb, length, arith}
use Rattle.gsym_reads.specs.Steps.{◌>>=◌, ◌>>◌, need, given, told}
use Rattle.gsym_reads.specs.Answers.{u8_at, u32_at}
use Rattle.gsym_leb128.specs.Answers.{unsigned_at}
use Rattle.gsym_leb128.specs.declared.Cause.{Cause}
use Rattle.gsym_leb128.specs.declared.Cause.TheVariants.{Short}
use Rattle.gsym_types.specs.declared.InlineFrame.{InlineFrame}
use Rattle.gsym_types.specs.declared.Refusal.{Refusal}
use Rattle.gsym_types.specs.declared.Refusal.TheVariants.{InlineSumTooLarge, CallFileTooLarge, TooDeep}
use Rattle.gsym_types.specs.declared.Refusal.TheVariants.{TooManyFrames}
use Rattle.gsym_inline.specs.Limits.{most_address, most_file, deepest_level}
use Rattle.gsym_inline.specs.Tree.{Range}
use Rattle.gsym_inline.specs.Frames.{any_in, first_off, named, frame}
use Rattle.gsym_inline.specs.Head.{range_at, ranges_at, Rest, rest_at, past_ranges, rest_head, node_head, head_at}
use Rattle.gsym_inline.specs.Judge.{judged_range, judged_ranges, judged_rest, judged_node, judged_at}
use Rattle.gsym_inline.specs.Block.{Block, refusal_of}
use Rattle.gsym_inline.specs.Steps.{
  NodeItem,
  range_count,
  range_offset,
  range_size,
  children_byte,
  node_name,
  call_file,
  call_line,
  Step,
  read,
  unread,
  stands,
  starts,
  ends,
  calls,
  opens,
  item_at,
  with_item,
  item_steps,
  Judging,
  Mode,
  judged,
  passed,
  sums,
  limit,
  range_steps,
  children_steps,
  node_steps,
}
use Rattle.gsym_inline.specs.declared.head.Fault.{Fault}
use Rattle.gsym_inline.specs.declared.head.Fault.TheVariants as fault
use Rattle.gsym_inline.specs.declared.head.NodeHead.{NodeHead}
use Rattle.gsym_inline.specs.declared.head.Head.{Head}
use Rattle.gsym_inline.specs.declared.head.Head.TheVariants as head
use Rattle.gsym_inline.specs.Inherited.{Inherited}
use Rattle.gsym_inline.specs.declared.judge.JudgedNode.{JudgedNode}

-- a block that is refused
abbrev pub no : Refusal → Block
no r = Err r

-- ---- steps judged in their order, after the frames so far

unfoldable pub outcome : ℕ → List InlineFrame → List Step → Block
outcome room acc [] = Ok acc
outcome room acc (read i v ∷ more) = outcome room acc more
outcome room acc (unread i k ∷ more) = no (refusal_of (fault.Unread k))
outcome room acc (stands n ∷ more) = need (leb n deepest_level) TooDeep >> outcome room acc more
outcome room acc (starts v ∷ more) = need (leb v most_address) InlineSumTooLarge >> outcome room acc more
outcome room acc (ends v ∷ more) = need (leb v most_address) InlineSumTooLarge >> outcome room acc more
outcome room acc (calls v ∷ more) = need (leb v most_file) CallFileTooLarge >> outcome room acc more
outcome room acc (opens self ∷ more) =
    need (leb (length (acc ++ named self)) room) TooManyFrames >> outcome room (acc ++ named self) more

-- what a rule gives is told on, and its fault is the block's refusal
abbrev pub on : {A : Type 0} → Result A Fault → (A → Block) → Block
on x go = told refusal_of x >>= go

-- a rule within a rule
pub on-bind :
    {A B : Type 0} (x : Result A Fault) (f : A → Result B Fault) (go : B → Block) →
    on x (λ a. on (f a) go) ≡ on (x >>= f) go
on-bind (Ok a) f go = refl
on-bind (Err e) f go = refl

-- rests that agree
pub on-same :
    {A : Type 0} (x : Result A Fault) (go to : A → Block) → ((a : A) → go a ≡ to a) → on x go ≡ on x to
on-same (Ok a) go to h = h a
on-same (Err e) go to h = refl

-- a test
pub on-need :
    {A : Type 0} (t : Bool) (f : Fault) (x : Result A Fault) (go : A → Block) →
    (need t (refusal_of f) >> on x go) ≡ on (need t f >> x) go
on-need true f x go = refl
on-need false f x go = refl

-- a rule within one that is told as bytes that don't read
pub on-told :
    {A B : Type 0} (x : Result A Cause) (f : A → Result B Cause) (go : B → Block) →
    on (told fault.Unread x) (λ a. on (told fault.Unread (f a)) go) ≡ on (told fault.Unread (x >>= f)) go
on-told (Ok a) f go = refl
on-told (Err e) f go = refl

pub on-given :
    {A B : Type 0} (x : Option A) (f : A → Result B Cause) (go : B → Block) →
    on (given (fault.Unread Short) x) (λ a. on (told fault.Unread (f a)) go)
    ≡ on (told fault.Unread (given Short x >>= f)) go
on-given (Some a) f go = refl
on-given None f go = refl

-- of ranges that are passed over the place after them
pub on-place :
    {A B : Type 0} (x : Result (A × ℕ) Cause) (f : ℕ → Result B Fault) (go : B → Block) →
    on (told fault.Unread x) (λ p. on (f p.1) go) ≡ on (told fault.Unread (x >>= λ p. Ok p.1) >>= f) go
on-place (Ok p) f go = refl
on-place (Err e) f go = refl

module _ (room : ℕ) (acc : List InlineFrame) where
  -- an item that is read
  item-number :
      (i : NodeItem) (go : ℕ → ℕ → List Step) (x : Result (ℕ × ℕ) Cause) →
      outcome room acc (with_item i go x) ≡ on (told fault.Unread x) (λ p. outcome room acc (go p.0 p.1))
  unfolding outcome with_item
  item-number i go (Ok (v, n)) = refl
  item-number i go (Err k) = refl

  item-byte :
      (i : NodeItem) (go : ℕ → ℕ → List Step) (next : ℕ) (x : Option ℕ) →
      outcome room acc (with_item i go (given Short x >>= λ v. Ok (v, next)))
      ≡ on (given (fault.Unread Short) x) (λ v. outcome room acc (go v next))
  unfolding outcome with_item
  item-byte i go next (Some v) = refl
  item-byte i go next None = refl

  module _ (s : List ℕ) where
    -- ---- ranges

    judged-range :
        (base at : ℕ) (more : Range → ℕ → List Step) →
        outcome room acc
        (item_steps range_offset s at (λ off n. item_steps range_size s n (λ size m.
        sums (judged base) (record { off = off; size = size }) (more (record { off = off; size = size }) m))))
        ≡ on (judged_range base s at) (λ p. outcome room acc (more p.0 p.1))
    unfolding outcome item_at sums judged_range
    judged-range base at more =
        item-number range_offset _ (unsigned_at s at)
        ∙ on-same (told fault.Unread (unsigned_at s at)) _ _
        (λ p. item-number range_size _ (unsigned_at s p.1)
        ∙ on-same (told fault.Unread (unsigned_at s p.1)) _ _
        (λ q. ap (λ (x : Block). need (leb (base + p.0) most_address) InlineSumTooLarge >> x)
        (on-need (leb (base + p.0 + q.0) most_address) fault.Sum
        (Ok (record { off = p.0; size = q.0 }, q.1)) (λ r. outcome room acc (more r.0 r.1)))
        ∙ on-need (leb (base + p.0) most_address) fault.Sum _ (λ r. outcome room acc (more r.0 r.1)))
        ∙ on-bind (told fault.Unread (unsigned_at s p.1)) _ (λ r. outcome room acc (more r.0 r.1)))
        ∙ on-bind (told fault.Unread (unsigned_at s at)) _ (λ r. outcome room acc (more r.0 r.1))

    judged-ranges :
        (count base at : ℕ) (go : List Range → ℕ → List Step) →
        outcome room acc (range_steps count s (judged base) at go)
        ≡ on (judged_ranges base count s at) (λ p. outcome room acc (go p.0 p.1))
    unfolding range_steps judged_ranges
    judged-ranges zero base at go = refl
    judged-ranges (suc count) base at go =
        judged-range base at (λ r m. range_steps count s (judged base) m (λ rs k. go (r ∷ rs) k))
        ∙ on-same (judged_range base s at) _ _
        (λ p. judged-ranges count base p.1 (λ rs k. go (p.0 ∷ rs) k)
        ∙ on-bind (judged_ranges base count s p.1) (λ q. Ok (p.0 ∷ q.0, q.1)) (λ q. outcome room acc (go q.0 q.1)))
        ∙ on-bind (judged_range base s at) _ (λ q. outcome room acc (go q.0 q.1))

    passed-range :
        (at : ℕ) (more : Range → ℕ → List Step) →
        outcome room acc
        (item_steps range_offset s at
        (λ off n. item_steps range_size s n (λ size m. more (record { off = off; size = size }) m)))
        ≡ on (told fault.Unread (range_at s at)) (λ p. outcome room acc (more p.0 p.1))
    unfolding item_at range_at
    passed-range at more =
        item-number range_offset _ (unsigned_at s at)
        ∙ on-same (told fault.Unread (unsigned_at s at)) _ _
        (λ p. item-number range_size _ (unsigned_at s p.1)
        ∙ on-told (unsigned_at s p.1) (λ q. Ok (record { off = p.0; size = q.0 }, q.1))
        (λ r. outcome room acc (more r.0 r.1)))
        ∙ on-told (unsigned_at s at) _ (λ r. outcome room acc (more r.0 r.1))

    passed-ranges :
        (count at : ℕ) (go : List Range → ℕ → List Step) →
        outcome room acc (range_steps count s passed at go)
        ≡ on (told fault.Unread (ranges_at count s at)) (λ p. outcome room acc (go p.0 p.1))
    unfolding range_steps ranges_at sums
    passed-ranges zero at go = refl
    passed-ranges (suc count) at go =
        passed-range at (λ r m. range_steps count s passed m (λ rs k. go (r ∷ rs) k))
        ∙ on-same (told fault.Unread (range_at s at)) _ _
        (λ p. passed-ranges count p.1 (λ rs k. go (p.0 ∷ rs) k)
        ∙ on-told (ranges_at count s p.1) (λ q. Ok (p.0 ∷ q.0, q.1)) (λ q. outcome room acc (go q.0 q.1)))
        ∙ on-told (range_at s at) _ (λ q. outcome room acc (go q.0 q.1))

    -- ---- what follows the ranges

    module _ (mode : Mode) (go : (children name file line next : ℕ) → List Step) where
      line_steps : (children name file at : ℕ) → List Step
      line_steps children name file at =
          item_steps call_line s at (λ line n. go children name file (min 4294967295 line) n)

      file_steps : (children name at : ℕ) → List Step
      file_steps children name at =
          item_steps call_file s at (λ file n. limit mode file (line_steps children name file n))

      rest_steps : ℕ → List Step
      rest_steps at =
          item_steps children_byte s at (λ children n. item_steps node_name s n (λ name m. file_steps children name m))

      -- the byte and the four bytes, with `to` for what comes after them
      byte-and-name :
          (at : ℕ) (to : (children name : ℕ) → Block) →
          ((children name : ℕ) → outcome room acc (file_steps children name (at + 5)) ≡ to children name) →
          outcome room acc (rest_steps at)
          ≡ on (given (fault.Unread Short) (u8_at s at))
          (λ children. on (given (fault.Unread Short) (u32_at s (at + 1))) (to children))
      unfolding item_at rest_steps
      byte-and-name at to h =
          let e : at + 1 + 4 ≡ at + 5 = omega arith in
          item-byte children_byte _ (at + 1) (u8_at s at)
          ∙ on-same (given (fault.Unread Short) (u8_at s at)) _ _
          (λ children. item-byte node_name (λ name m. file_steps children name m) (at + 1 + 4) (u32_at s (at + 1))
          ∙ on-same (given (fault.Unread Short) (u32_at s (at + 1))) _ _
          (λ name. ap (λ (n : ℕ). outcome room acc (file_steps children name n)) e ∙ h children name))

    judged-rest :
        (base start : ℕ) (inside : Bool) (at : ℕ) (go : (children name file line next : ℕ) → List Step)
        (to : JudgedNode → Block) →
        ((children name file line next : ℕ) →
        outcome room acc (go children name file line next)
        ≡ to (record {
          next = next;
          base = start;
          inside = inside;
          children = children;
          frame = frame name file line;
        })) →
        outcome room acc (rest_steps (judged base) go at) ≡ on (judged_rest start inside s at) to
    unfolding outcome item_at judged_rest file_steps line_steps limit
    judged-rest base start inside at go to h =
        byte-and-name (judged base) go at _
        (λ children name. item-number call_file _ (unsigned_at s (at + 5))
        ∙ on-same (told fault.Unread (unsigned_at s (at + 5))) _ _
        (λ p. ap (λ (x : Block). need (leb p.0 most_file) CallFileTooLarge >> x)
        (item-number call_line _ (unsigned_at s p.1)
        ∙ on-same (told fault.Unread (unsigned_at s p.1)) _ _ (λ q. h children name p.0 (min 4294967295 q.0) q.1)
        ∙ on-bind (told fault.Unread (unsigned_at s p.1)) (λ q. Ok (record {
          next = q.1;
          base = start;
          inside = inside;
          children = children;
          frame = frame name p.0 (min 4294967295 q.0);
        })) to)
        ∙ on-need (leb p.0 most_file) fault.CallFile _ to)
        ∙ on-bind (told fault.Unread (unsigned_at s (at + 5))) _ to)
        ∙ on-same (given (fault.Unread Short) (u8_at s at)) _ _
        (λ children. on-bind (given (fault.Unread Short) (u32_at s (at + 1))) _ to)
        ∙ on-bind (given (fault.Unread Short) (u8_at s at)) _ to

    passed-rest :
        (at : ℕ) (go : (children name file line next : ℕ) → List Step) (to : Rest → Block) →
        ((t : Rest) → outcome room acc (go t.children t.name t.file t.line t.next) ≡ to t) →
        outcome room acc (rest_steps passed go at) ≡ on (told fault.Unread (rest_at s at)) to
    unfolding item_at rest_at file_steps line_steps limit
    passed-rest at go to h =
        byte-and-name passed go at _
        (λ children name. item-number call_file _ (unsigned_at s (at + 5))
        ∙ on-same (told fault.Unread (unsigned_at s (at + 5))) _ _
        (λ p. item-number call_line _ (unsigned_at s p.1)
        ∙ on-same (told fault.Unread (unsigned_at s p.1)) _ _ (λ q. h (record {
          children = children;
          name_at = at + 1;
          name = name;
          file = p.0;
          line = min 4294967295 q.0;
          next = q.1;
        }))
        ∙ on-told (unsigned_at s p.1) (λ q. Ok (record {
          children = children;
          name_at = at + 1;
          name = name;
          file = p.0;
          line = min 4294967295 q.0;
          next = q.1;
        })) to)
        ∙ on-told (unsigned_at s (at + 5)) _ to)
        ∙ on-same (given (fault.Unread Short) (u8_at s at)) _ _ (λ children. on-given (u32_at s (at + 1)) _ to)
        ∙ on-given (u8_at s at) _ to

    -- ---- a node

    module _ (list : ℕ → Mode → ℕ → (ℕ → List Step) → List Step) (judging : Judging) (level : ℕ)
        (over rest : ℕ → List Step) where
      -- after a node's ranges, and after its head
      abbrev head_steps : Mode → List Range → (children name file line next : ℕ) → List Step
      head_steps mode rs children name file line next =
          children_steps list judging level mode rest
          (record { ranges = rs; name = name; file = file; line = line }) children next

      pub judged-head :
          (addr base at : ℕ) (to : Head JudgedNode → Block) → ((n : ℕ) → outcome room acc (over n) ≡ to (head.End n)) →
          ((rs : List Range) (children name file line next : ℕ) →
          outcome room acc (head_steps (judged base) rs children name file line next)
          ≡ to (head.Node (record {
            next = next;
            base = base + first_off rs;
            inside = any_in addr base rs;
            children = children;
            frame = frame name file line;
          }))) →
          outcome room acc (node_steps list s judging level (judged base) at over rest)
          ≡ on (judged_at (record { level = level; addr = addr; base = base; room = room }) s at) to
      unfolding outcome node_steps item_at judged_at judged_node rest_steps file_steps line_steps
      judged-head addr base at to over-is node-is =
          item-number range_count _ (unsigned_at s at)
          ∙ on-same (told fault.Unread (unsigned_at s at)) _ _ (λ p. by-zero p.0 p.1 (eqb p.0 0))
          ∙ on-bind (told fault.Unread (unsigned_at s at)) _ to
        where
          c : Inherited
          c = record { level = level; addr = addr; base = base; room = room }

          by-zero :
              (count first : ℕ) (z : Bool) →
              outcome room acc (cond z (over first) (stands level ∷ range_steps count s (judged base) first
              (λ rs n. rest_steps (judged base) (head_steps (judged base) rs) n)))
              ≡ on (cond z (Ok (head.End first)) (judged_node c s count first >>= λ node. Ok (head.Node node))) to
          by-zero count first true = over-is first
          by-zero count first false =
              ap (λ (x : Block). need (leb level deepest_level) TooDeep >> x)
              (judged-ranges count base first _
              ∙ on-same (judged_ranges base count s first) _ _
              (λ p. judged-rest base (base + first_off p.0) (any_in addr base p.0) p.1 (head_steps (judged base) p.0)
              (λ i. to (head.Node i)) (node-is p.0))
              ∙ on-bind (judged_ranges base count s first) _ (λ i. to (head.Node i)))
              ∙ on-need (leb level deepest_level) fault.Level _ (λ i. to (head.Node i))
              ∙ on-bind (judged_node c s count first) (λ i. Ok (head.Node i)) to

      pub passed-head :
          (at : ℕ) (to : Head NodeHead → Block) → ((n : ℕ) → outcome room acc (over n) ≡ to (head.End n)) →
          ((rs : List Range) (name file line : ℕ) (h : NodeHead) →
          outcome room acc (head_steps passed rs h.children name file line h.next) ≡ to (head.Node h)) →
          outcome room acc (node_steps list s judging level passed at over rest) ≡ on (head_at s level at) to
      unfolding outcome node_steps item_at head_at node_head past_ranges rest_head rest_steps file_steps line_steps
      passed-head at to over-is node-is =
          item-number range_count _ (unsigned_at s at)
          ∙ on-same (told fault.Unread (unsigned_at s at)) _ _ (λ p. by-zero p.0 p.1 (eqb p.0 0))
          ∙ on-bind (told fault.Unread (unsigned_at s at)) _ to
        where
          by-zero :
              (count first : ℕ) (z : Bool) →
              outcome room acc (cond z (over first) (stands level ∷ range_steps count s passed first
              (λ rs n. rest_steps passed (head_steps passed rs) n)))
              ≡ on (cond z (Ok (head.End first)) (node_head s level count first >>= λ h. Ok (head.Node h))) to
          by-zero count first true = over-is first
          by-zero count first false =
              ap (λ (x : Block). need (leb level deepest_level) TooDeep >> x)
              (passed-ranges count first _
              ∙ on-same (told fault.Unread (ranges_at count s first)) _ _
              (λ p. passed-rest p.1 (head_steps passed p.0) _
              (λ t. node-is p.0 t.name t.file t.line (record {
                ranges = count;
                first = first;
                children = t.children;
                name_at = t.name_at;
                name = record { 0 = t.name };
                call_file = t.file;
                call_line = record { 0 = t.line };
                next = t.next;
              }))
              ∙ on-bind (told fault.Unread (rest_at s p.1)) _ (λ h. to (head.Node h)))
              ∙ on-place (ranges_at count s first) (λ at. rest_head count first s at) (λ h. to (head.Node h)))
              ∙ on-need (leb level deepest_level) fault.Level _ (λ h. to (head.Node h))
              ∙ on-bind (node_head s level count first) (λ h. Ok (head.Node h)) to
