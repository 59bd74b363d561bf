-- The steps of a block are in the order of RULES ("Inline tree"): the items stand in its bytes one after another from
-- its start on, and what is judged comes directly after what it is judged by.
-- Assumes nothing.
use Rattle.std.proofs.Common.{Ok, Err, Some, None, Option, Result, ℕ, zero, suc, ◌+◌, ◌<◌, ◌≤◌, min, List, [], ◌∷◌, ◌≡◌}
use Rattle.std.proofs.Common.{refl, ap, eqb, length, cond, drop_of_length-le, arith}
use borrow.Author.Tests.{eqb-false}
use Rattle.gsym_leb128.specs.declared.Cause.{Cause}
use Rattle.gsym_leb128.specs.declared.Cause.TheVariants.{Short}
use Rattle.gsym_reads.specs.Answers.{u8_at, u32_at}
use Rattle.gsym_leb128.specs.Leb.{digits, unsigned}
use Rattle.gsym_leb128.specs.Answers.{unsigned_at}
use Rattle.gsym_inline.specs.Tree.{Range, Node}
use Rattle.gsym_inline.specs.Steps.{NodeItem, range_count, range_offset, range_size, children_byte, node_name}
use Rattle.gsym_inline.specs.Steps.{call_file}
use Rattle.gsym_inline.specs.Steps.{call_line, Step, read, stands, ends, calls, opens, item_at, with_item, item_steps}
use Rattle.gsym_inline.specs.Steps.{Judging, Mode, judged, passed, is_open, children_mode, sums, limit, range_steps}
use Rattle.gsym_inline.specs.Steps.{children_steps, node_steps, list_steps, block_steps, InFile, Follows, InPlace}
use Rattle.gsym_inline.proofs.Numbers.{never, pick-has, byte-within, word-within}
use Rattle.gsym_leb128.proofs.Places.{unsigned_next}
use Rattle.gsym_reads.specs.Steps.{◌>>=◌, given}

-- ---- an item

-- a value that is there, and the place after it
abbrev value_to : ℕ → Option ℕ → Result (ℕ × ℕ) Cause
value_to next x = do
  v ← given Short x
  Ok (v, next)

-- reading goes on after an item, and stays within the bytes
module _ (s : List ℕ) (at v n : ℕ) where
  number-goes : unsigned_at s at ≡ Ok (v, n) → (at < n) × (n ≤ length s)
  number-goes p = unsigned_next s at v n p

  byte-goes : (x : Option ℕ) → u8_at s at ≡ x → value_to (at + 1) x ≡ Ok (v, n) → (at < n) × (n ≤ length s)
  byte-goes (Some w) q p =
      let z : ◌≡◌ {A = ℕ × ℕ} (w, at + 1) (v, n) = cc in
      let e : at + 1 ≡ n = ap (λ (x : ℕ × ℕ). x.1) z in
      let h = byte-within s at w q in
      (omega arith, omega arith)
  byte-goes None q p = never (let z : ◌≡◌ {A = ℕ} 0 1 = cc in z)

  word-goes : (x : Option ℕ) → u32_at s at ≡ x → value_to (at + 4) x ≡ Ok (v, n) → (at < n) × (n ≤ length s)
  word-goes (Some w) q p =
      let z : ◌≡◌ {A = ℕ × ℕ} (w, at + 4) (v, n) = cc in
      let e : at + 4 ≡ n = ap (λ (x : ℕ × ℕ). x.1) z in
      let h = word-within s at w q in
      (omega arith, omega arith)
  word-goes None q p = never (let z : ◌≡◌ {A = ℕ} 0 1 = cc in z)

  item-goes : (i : NodeItem) → item_at i s at ≡ Ok (v, n) → (at < n) × (n ≤ length s)
  unfolding item_at
  item-goes range_count p = number-goes p
  item-goes range_offset p = number-goes p
  item-goes range_size p = number-goes p
  item-goes children_byte p = byte-goes (u8_at s at) refl p
  item-goes node_name p = word-goes (u32_at s at) refl p
  item-goes call_file p = number-goes p
  item-goes call_line p = number-goes p

-- past the bytes there is no number
short-past : (s : List ℕ) (at : ℕ) → length s ≤ at → unsigned_at s at ≡ Err Short
unfolding unsigned_at unsigned digits
short-past s at l = rw (drop_of_length-le s l)

-- steps from a place on, after a last one
abbrev Ordered : List ℕ → ℕ → Step → List Step → Type 0
Ordered s at last xs = InFile s at xs × InPlace last xs

module _ (s : List ℕ) where
  item_in :
      (i : NodeItem) (at : ℕ) (last : Step) (go : ℕ → ℕ → List Step) →
      ((v n : ℕ) → at < n → Ordered s n (read i v) (go v n)) → Ordered s at last (item_steps i s at go)
  unfolding with_item InFile InPlace Follows
  item_in i at last go h = by (item_at i s at) refl
    where
      by : (N : Result (ℕ × ℕ) Cause) → item_at i s at ≡ N → Ordered s at last (with_item i go N)
      by (Ok (v, n)) p =
          let o = h v n (item-goes s at v n i p).0 in
          ((n, p, o.0), (tt, o.1))
      by (Err k) p = ((p, refl), (tt, tt))

  -- ---- what is judged takes no bytes

  sums-in :
      (mode : Mode) (r : Range) (at size : ℕ) (xs : List Step) → ((last : Step) → Ordered s at last xs) →
      Ordered s at (read range_size size) (sums mode r xs)
  unfolding sums InFile InPlace Follows
  sums-in (judged base) r at size xs h =
      let o = h (ends (base + r.off + r.size)) in
      (o.0, ((size, refl), ((base + r.off, refl), o.1)))
  sums-in passed r at size xs h = h (read range_size size)

  limit-in :
      (mode : Mode) (file at : ℕ) (xs : List Step) → ((last : Step) → Ordered s at last xs) →
      Ordered s at (read call_file file) (limit mode file xs)
  unfolding limit InFile InPlace Follows
  limit-in (judged base) file at xs h = let o = h (calls file) in (o.0, (refl, o.1))
  limit-in passed file at xs h = h (read call_file file)

  -- ---- a node

  ranges_in :
      (count : ℕ) (mode : Mode) (at : ℕ) (go : List Range → ℕ → List Step) →
      ((rs : List Range) (n : ℕ) → at ≤ n → (last : Step) → Ordered s n last (go rs n)) →
      (last : Step) → Ordered s at last (range_steps count s mode at go)
  unfolding range_steps
  ranges_in zero mode at go h last = h [] at (omega arith) last
  ranges_in (suc count) mode at go h last =
      item_in range_offset at last _ (λ off n l.
      item_in range_size n (read range_offset off) _ (λ size m k.
      sums-in mode _ m size _
      (ranges_in count mode m _ (λ rs j i. h (record { off = off; size = size } ∷ rs) j (omega arith)))))

  module _ (list : ℕ → Mode → ℕ → (ℕ → List Step) → List Step) (judging : Judging) (level : ℕ) (mode : Mode) (at : ℕ)
      (over rest : ℕ → List Step)
      (list-in : (level : ℕ) (mode : Mode) (n : ℕ) → at < n → (last : Step) → Ordered s n last (list level mode n rest))
      (over-in : (n : ℕ) → at < n → (last : Step) → Ordered s n last (over n))
      (rest_in : (n : ℕ) → at < n → (last : Step) → Ordered s n last (rest n)) where
    children-in :
        (self : Node) (children line n : ℕ) → at < n →
        Ordered s n (read call_line line) (children_steps list judging level mode rest self children n)
    unfolding children_steps InFile InPlace Follows
    children-in self children line n l =
        let more = cond (eqb children 0) (rest n) (list (level + 1) (children_mode judging mode self) n rest) in
        let h : (last : Step) → Ordered s n last more =
        λ last. pick-has (Ordered s n last) (eqb children 0) (rest n)
        (list (level + 1) (children_mode judging mode self) n rest)
        (λ _. rest_in n l last) (λ _. list-in (level + 1) (children_mode judging mode self) n l last) in
        pick-has (Ordered s n (read call_line line)) (is_open judging mode self) (opens self ∷ more) more
        (λ _. ((h (opens self)).0, ((line, refl), (h (opens self)).1)))
        (λ _. h (read call_line line))

    node_in : (last : Step) → Ordered s at last (node_steps list s judging level mode at over rest)
    unfolding node_steps InFile InPlace Follows
    node_in last =
        item_in range_count at last _ (λ count a l.
        pick-has (Ordered s a (read range_count count)) (eqb count 0) (over a) _
        (λ _. over-in a l (read range_count count)) (λ z.
        let o = ranges_in count mode a _ (λ rs b m last.
        item_in children_byte b last _ (λ children c n.
        item_in node_name c (read children_byte children) _ (λ name d o.
        item_in call_file d (read node_name name) _ (λ file e p.
        limit-in mode file e _ (λ last.
        item_in call_line e last _ (λ line g q.
        children-in (record { ranges = rs; name = name; file = file; line = min 4294967295 line }) children line g
        (omega arith))))))) (stands level) in
        (o.0, ((count, refl, eqb-false count 0 z), o.1))))

-- ---- nodes side by side, and a block

list-in :
    (s : List ℕ) (f : ℕ) (judging : Judging) (level : ℕ) (mode : Mode) (at : ℕ) (over : ℕ → List Step) →
    length s ≤ at + f →
    ((n : ℕ) → at < n → (last : Step) → Ordered s n last (over n)) →
    (last : Step) → Ordered s at last (list_steps f s judging level mode at over)
unfolding list_steps InFile InPlace Follows item_at
list-in s zero judging level mode at over l h last = ((short-past s at (omega arith), refl), (tt, tt))
list-in s (suc f) judging level mode at over l h last =
    let rest : (n : ℕ) → at < n → (last : Step) → Ordered s n last (list_steps f s judging level mode n over) =
    λ n k. list-in s f judging level mode n over (omega arith) (λ m j. h m (omega arith)) in
    node_in s (list_steps f s judging) judging level mode at over (λ n. list_steps f s judging level mode n over)
    (λ d mode' n k. list-in s f judging d mode' n (λ n. list_steps f s judging level mode n over) (omega arith)
    (λ m j. rest m (omega arith)))
    h rest last

ordered : (judging : Judging) (symbol : ℕ) (bytes : List ℕ) (last : Step) →
    Ordered bytes 0 last (block_steps judging symbol bytes)
unfolding block_steps InFile InPlace
ordered judging symbol bytes last =
    node_in bytes (list_steps (suc (length bytes)) bytes judging) judging 1 (judged symbol) 0 (λ n. []) (λ n. [])
    (λ d mode n k. list-in bytes (suc (length bytes)) judging d mode n (λ n. []) (omega arith) (λ m j last. (tt, tt)))
    (λ n k last. (tt, tt)) (λ n k last. (tt, tt)) last

-- the items are read in file order, from the block's first byte on
pub in_file : (judging : Judging) (symbol : ℕ) (bytes : List ℕ) → InFile bytes 0 (block_steps judging symbol bytes)
in_file judging symbol bytes = (ordered judging symbol bytes (stands 0)).0

-- what is judged stands where RULES has it
pub in_place :
    (judging : Judging) (symbol : ℕ) (bytes : List ℕ) (last : Step) → InPlace last (block_steps judging symbol bytes)
in_place judging symbol bytes last = (ordered judging symbol bytes last).1
