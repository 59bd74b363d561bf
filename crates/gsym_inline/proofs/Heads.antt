-- A head as it is judged, and as a caller gets it, beside what stands at the place: where that is there in full, its
-- own faults decide; where it isn't, there is a fault.
-- Assumes nothing.
use Rattle.std.proofs.Common.{Ok, Err, Result, ℕ, zero, suc, ◌+◌, min, List, ◌∷◌, Bool, true, false, not, ◌≡◌, refl}
use Rattle.std.proofs.Common.{⊎_elim, leb, eqb, ◌<◌, ◌≤◌, le-leb, lt-ltb, le-ltb, if◌then◌else◌}
use Rattle.std.proofs.lemmas.Bool.{cases_lt, lt-leb}
use Rattle.std.specs.Prelude.{is_err}
use Rattle.gsym_reads.specs.Steps.{◌>>=◌, ◌>>◌, need, told}
use Rattle.gsym_reads.specs.Answers.{u8_at, u32_at}
use Rattle.gsym_leb128.specs.Answers.{unsigned_at}
use Rattle.gsym_leb128.specs.declared.Cause.{Cause}
use Rattle.gsym_leb128.specs.declared.Cause.TheVariants.{Short}
use Rattle.gsym_inline.specs.Tree.{Range, Node}
use Rattle.gsym_inline.specs.Frames.{any_in, first_off, child_base, frame, frame_of}
use Rattle.gsym_inline.specs.Limits.{most_address, most_file}
use Rattle.gsym_inline.proofs.Forests.{too_large, any_large}
use Rattle.gsym_inline.specs.Head.{range_at, ranges_at, Rest, rest_at, whole_at, EndOrNode, end, node, found_at}
use Rattle.gsym_inline.specs.Head.{past_ranges, rest_head, node_head, head_at}
use Rattle.gsym_inline.specs.Judge.{judged_range, judged_ranges, judged_rest, judged_node, judged_at}
use Rattle.gsym_inline.proofs.Forests.{node_fits}
use Rattle.gsym_inline.specs.declared.head.Fault.{Fault}
use Rattle.gsym_inline.specs.declared.head.Fault.TheVariants.{Unread, Level, Sum, CallFile}
use Rattle.gsym_inline.specs.declared.head.NodeHead.{NodeHead}
use Rattle.gsym_inline.specs.declared.head.Head.{Head}
use Rattle.gsym_inline.specs.declared.head.Head.TheVariants as head
use Rattle.gsym_inline.specs.Inherited.{Inherited}
use Rattle.gsym_inline.specs.declared.judge.JudgedNode.{JudgedNode}
use Rattle.gsym_inline.proofs.Ranges.{put_front}
use Rattle.gsym_inline.proofs.Follows.{Follows, by_told, by_given, by_step, by_first, by_test}

-- ---- ranges

-- what was read, unless a test refuses it
abbrev Unless : {A : Type 0} → Fault → (A → Bool) → A → Result A Fault → Type 0
Unless f refuses a r = r ≡ (if refuses a then Err f else Ok a)

module _ (base : ℕ) where
  abbrev RangeJudged : Range × ℕ → Result (Range × ℕ) Fault → Type 0
  RangeJudged = Unless Sum (λ p. too_large base p.0)

  abbrev RangesJudged : List Range × ℕ → Result (List Range × ℕ) Fault → Type 0
  RangesJudged = Unless Sum (λ p. any_large base p.0)

  sums :
      (off size n : ℕ) →
      RangeJudged (record { off = off; size = size }, n)
      (need (leb (base + off) most_address) Sum >> (need (leb (base + off + size) most_address) Sum
      >> Ok (record { off = off; size = size }, n)))
  unfolding too_large
  sums off size n =
      ⊎_elim
      (λ (l : most_address < base + off). rw (lt-leb _ _ l, lt-ltb _ _ l) refl)
      (λ (l : base + off ≤ most_address).
      ⊎_elim
      (λ (k : most_address < base + off + size). rw (le-leb _ _ l, le-ltb _ _ l, lt-leb _ _ k, lt-ltb _ _ k) refl)
      (λ (k : base + off + size ≤ most_address). rw (le-leb _ _ l, le-ltb _ _ l, le-leb _ _ k, le-ltb _ _ k) refl)
      (cases_lt most_address (base + off + size)))
      (cases_lt most_address (base + off))

  range-is : (s : List ℕ) (at : ℕ) → Follows RangeJudged (range_at s at) (judged_range base s at)
  unfolding range_at judged_range
  range-is s at =
      by_told RangeJudged Unread (unsigned_at s at) _ _
      (λ p. by_told RangeJudged Unread (unsigned_at s p.1) _ _ (λ q. sums p.0 q.0 q.1))

  -- one range in front, which is too large
  front-large :
      (r : Range) → too_large base r ≡ true → (x : Result (List Range × ℕ) Cause) →
      Follows RangesJudged (put_front r x) (Err Sum)
  unfolding any_large
  front-large r z (Ok q) = rw z refl
  front-large r z (Err k) = refl

  -- one that isn't
  front-fits :
      (r : Range) → too_large base r ≡ false → (x : Result (List Range × ℕ) Cause) (y : Result (List Range × ℕ) Fault) →
      Follows RangesJudged x y → Follows RangesJudged (put_front r x) (put_front r y)
  unfolding any_large
  front-fits r z (Ok (rs, m)) y s = go (any_large base rs) refl s
    where
      go :
          (b : Bool) → any_large base rs ≡ b → y ≡ (if b then Err Sum else Ok (rs, m)) →
          put_front r y ≡ (if (if too_large base r then true else any_large base rs) then Err Sum else Ok (r ∷ rs, m))
      go true b e = rw (e, z, b) refl
      go false b e = rw (e, z, b) refl
  front-fits r z (Err k) (Ok q) s = absurd cc
  front-fits r z (Err k) (Err f) s = refl

  front-is :
      (r : Range) (n : ℕ) (read : ℕ → Result (List Range × ℕ) Cause) (judge : ℕ → Result (List Range × ℕ) Fault) →
      ((n : ℕ) → Follows RangesJudged (read n) (judge n)) → (y : Result (Range × ℕ) Fault) → (b : Bool) →
      too_large base r ≡ b → y ≡ (if b then Err Sum else Ok (r, n)) →
      Follows RangesJudged (put_front r (read n)) (y >>= λ p. put_front p.0 (judge p.1))
  front-is r n read judge h y true z e = rw e (front-large r z (read n))
  front-is r n read judge h y false z e = rw e (front-fits r z (read n) (judge n) (h n))

  pub ranges-is :
      (count : ℕ) (s : List ℕ) (at : ℕ) → Follows RangesJudged (ranges_at count s at) (judged_ranges base count s at)
  unfolding ranges_at judged_ranges any_large
  ranges-is zero s at = refl
  ranges-is (suc count) s at =
      by_step RangesJudged RangeJudged (range_at s at) (judged_range base s at) _ _ (range-is s at)
      (λ p y e. front-is p.0 p.1 (ranges_at count s) (judged_ranges base count s) (ranges-is count s) y
      (too_large base p.0) refl e)

-- ---- what follows the ranges

node_of_rest : ℕ → Bool → Rest → JudgedNode
node_of_rest start inside t = record {
  next = t.next;
  base = start;
  inside = inside;
  children = t.children;
  frame = frame t.name t.file t.line;
}

RestJudged : ℕ → Bool → Rest → Result JudgedNode Fault → Type 0
RestJudged start inside t r = r ≡ (need (leb t.file most_file) CallFile >> Ok (node_of_rest start inside t))

rest-is :
    (start : ℕ) (inside : Bool) (s : List ℕ) (at : ℕ) →
    Follows (RestJudged start inside) (rest_at s at) (judged_rest start inside s at)
unfolding rest_at judged_rest RestJudged node_of_rest
rest-is start inside s at =
    let R = RestJudged start inside in
    by_given R Short (Unread Short) (u8_at s at) _ _
    (λ children. by_given R Short (Unread Short) (u32_at s (at + 1)) _ _
    (λ name. by_told R Unread (unsigned_at s (at + 5)) _ _
    (λ p. by-file children name p.0 (unsigned_at s p.1) (leb p.0 most_file) refl)))
  where
    by-file :
        (children name file : ℕ) (x : Result (ℕ × ℕ) Cause) (b : Bool) → leb file most_file ≡ b →
        Follows (RestJudged start inside)
        (do
          (line, next) ← x
          Ok (record {
            children = children;
            name_at = at + 1;
            name = name;
            file = file;
            line = min 4294967295 line;
            next = next;
          }))
        (do
          need b CallFile
          (line, next) ← told Unread x
          Ok (record {
            next = next;
            base = start;
            inside = inside;
            children = children;
            frame = frame name file (min 4294967295 line);
          }))
    by-file children name file (Ok q) true e = rw e refl
    by-file children name file (Ok q) false e = rw e refl
    by-file children name file (Err k) true e = refl
    by-file children name file (Err k) false e = refl

-- ---- a node

-- a node that is there in full, judged
abbrev pub judged_of : Inherited → Node × ℕ × ℕ → JudgedNode
judged_of c w = record {
  next = w.2;
  base = child_base c.base w.0;
  inside = any_in c.addr c.base w.0.ranges;
  children = w.1;
  frame = frame_of w.0;
}

NodeJudged : Inherited → Node × ℕ × ℕ → Result JudgedNode Fault → Type 0
NodeJudged c w r = r ≡ (node_fits c w.0 >> Ok (judged_of c w))

node-of : List Range → Rest → Node × ℕ × ℕ
node-of rs t = (record { ranges = rs; name = t.name; file = t.file; line = t.line }, t.children, t.next)

-- one of the first two tests refuses it
node-refused :
    (c : Inherited) (rs : List Range) (f : Fault) →
    ((file : ℕ) → (need (leb c.level 64) Level
    >> (need (not (any_large c.base rs)) Sum >> need (leb file most_file) CallFile)) ≡ Err f) →
    (x : Result Rest Cause) → Follows (NodeJudged c) (x >>= λ t. Ok (node-of rs t)) (Err f)
unfolding node-of NodeJudged node_fits
node-refused c rs f e (Ok t) = rw (e t.file) refl
node-refused c rs f e (Err k) = refl

always : {A C E : Type 0} (D : Type 0) (f : E) (x : Result A C) → Follows {D = D} (λ _ y. y ≡ Err f) x (Err f)
always D f (Ok a) = refl
always D f (Err k) = refl

module _ (c : Inherited) (s : List ℕ) (z : leb c.level 64 ≡ true) where
  node-large :
      (rs : List Range) (m : ℕ) (b : Bool) → any_large c.base rs ≡ b →
      (y : Result (List Range × ℕ) Fault) → y ≡ (if b then Err Sum else Ok (rs, m)) →
      Follows (NodeJudged c) (rest_at s m >>= λ t. Ok (node-of rs t))
      (y >>= λ p. judged_rest (c.base + first_off p.0) (any_in c.addr c.base p.0) s p.1)
  unfolding RestJudged NodeJudged node_fits node_of_rest node-of
  node-large rs m true l y e = rw e (node-refused c rs Sum (λ file. rw (z, l) refl) (rest_at s m))
  node-large rs m false l y e =
      let start = c.base + first_off rs in
      let inside = any_in c.addr c.base rs in
      rw e (by_first (NodeJudged c) (RestJudged start inside) (rest_at s m) (judged_rest start inside s m) _
      (rest-is start inside s m) (λ t q. rw (z, l) q))

node-is :
    (c : Inherited) (s : List ℕ) (count at : ℕ) →
    Follows (NodeJudged c) (whole_at s count at) (judged_node c s count at)
unfolding whole_at judged_node node-of
node-is c s count at = by-level (leb c.level 64) refl
  where
    by-level :
        (d : Bool) → leb c.level 64 ≡ d →
        Follows (NodeJudged c) (ranges_at count s at >>= λ p. rest_at s p.1 >>= λ t. Ok (node-of p.0 t))
        (need d Level >> (judged_ranges c.base count s at >>= λ p.
        judged_rest (c.base + first_off p.0) (any_in c.addr c.base p.0) s p.1))
    by-level true z =
        by_step (NodeJudged c) (RangesJudged c.base) (ranges_at count s at) (judged_ranges c.base count s at) _ _
        (ranges-is c.base count s at) (λ p y e. node-large c s z p.0 p.1 (any_large c.base p.0) refl y e)
    by-level false z =
        by_first (NodeJudged c) (λ _ y. y ≡ Err Level) (ranges_at count s at) (Err Level) _
        (always JudgedNode Level (ranges_at count s at))
        (λ p e. node-refused c p.0 Level (λ file. rw z refl) (rest_at s p.1))

-- ---- what stands at a place

-- as judged
abbrev pub judge_of : Inherited → EndOrNode → Result (Head JudgedNode) Fault
judge_of c (end n) = Ok (head.End n)
judge_of c (node self children next) = node_fits c self >> Ok (head.Node (judged_of c (self, children, next)))

abbrev pub FoundJudged : Inherited → EndOrNode → Result (Head JudgedNode) Fault → Type 0
FoundJudged c x r = r ≡ judge_of c x

head-of :
    (c : Inherited) (w : Node × ℕ × ℕ) (x : Result (Unit {0}) Fault) →
    ((x >> Ok (judged_of c w)) >>= λ i. Ok (head.Node i)) ≡ (x >> Ok (head.Node (judged_of c w)))
head-of c w (Ok u) = refl
head-of c w (Err f) = refl

pub judged-is : (c : Inherited) (s : List ℕ) (at : ℕ) → Follows (FoundJudged c) (found_at s at) (judged_at c s at)
unfolding found_at judged_at NodeJudged
judged-is c s at =
    by_told (FoundJudged c) Unread (unsigned_at s at) _ _
    (λ p. by_test (FoundJudged c) (eqb p.0 0) _ _ _ _ (λ _. refl)
    (λ _. by_step (FoundJudged c) (NodeJudged c) (whole_at s p.0 p.1) (judged_node c s p.0 p.1) _ _
    (node-is c s p.0 p.1) (λ w y e. rw e (head-of c w (node_fits c w.0)))))

-- as a caller gets it: of a head the children byte and the place after it
NodeRead : ℕ → Node × ℕ × ℕ → Result NodeHead Fault → Type 0
NodeRead level w r = (h : NodeHead) × (r ≡ (need (leb level 64) Level >> Ok h)) × (h.children ≡ w.1) × (h.next ≡ w.2)

abbrev pub FoundRead : ℕ → EndOrNode → Result (Head NodeHead) Fault → Type 0
FoundRead level (end n) r = r ≡ Ok (head.End n)
FoundRead level (node self children next) r =
    (h : NodeHead) × (r ≡ (need (leb level 64) Level >> Ok (head.Node h))) × (h.children ≡ children) × (h.next ≡ next)

module _ (s : List ℕ) (level count first : ℕ) where
  from-rest :
      (rs : List Range) (x : Result Rest Cause) →
      Follows (NodeRead level) (x >>= λ t. Ok (node-of rs t))
      (need (leb level 64) Level >> (told Unread x >>= λ t. Ok (record {
        ranges = count;
        first = first;
        children = t.children;
        name_at = t.name_at;
        name = record { 0 = t.name };
        call_file = t.file;
        call_line = record { 0 = t.line };
        next = t.next;
      })))
  unfolding NodeRead node-of
  from-rest rs (Ok t) = (
    record {
      ranges = count;
      first = first;
      children = t.children;
      name_at = t.name_at;
      name = record { 0 = t.name };
      call_file = t.file;
      call_line = record { 0 = t.line };
      next = t.next;
    },
    refl,
    refl,
    refl,
  )
  from-rest rs (Err k) = go (leb level 64)
    where
      go : (d : Bool) → is_err {T = NodeHead} (need d Level >> Err (Unread k)) ≡ true
      go true = refl
      go false = refl

  head-node : Follows (NodeRead level) (whole_at s count first) (node_head s level count first)
  unfolding whole_at node_head past_ranges rest_head node-of
  head-node = go (ranges_at count s first)
    where
      go :
          (x : Result (List Range × ℕ) Cause) →
          Follows (NodeRead level) (x >>= λ p. rest_at s p.1 >>= λ t. Ok (node-of p.0 t))
          (need (leb level 64) Level >> (told Unread (x >>= λ p. Ok p.1) >>= λ at. rest_head count first s at))
      go (Ok p) = from-rest p.0 (rest_at s p.1)
      go (Err k) = by-level (leb level 64)
        where
          by-level : (d : Bool) → is_err {T = NodeHead} (need d Level >> Err (Unread k)) ≡ true
          by-level true = refl
          by-level false = refl

pub head-is : (level : ℕ) (s : List ℕ) (at : ℕ) → Follows (FoundRead level) (found_at s at) (head_at s level at)
unfolding found_at head_at NodeRead
head-is level s at =
    by_told (FoundRead level) Unread (unsigned_at s at) _ _
    (λ p. by_test (FoundRead level) (eqb p.0 0) _ _ _ _ (λ _. refl)
    (λ _. by_step (FoundRead level) (NodeRead level) (whole_at s p.0 p.1) (node_head s level p.0 p.1) _ _
    (head-node s level p.0 p.1) (λ w y e. (e.0, rw e.1 (go e.0 (leb level 64)), e.2, e.3))))
  where
    go : (h : NodeHead) (d : Bool) →
        ((need d Level >> Ok h) >>= λ h. Ok (head.Node h)) ≡ (need d Level >> Ok (head.Node h))
    go h true = refl
    go h false = refl
