-- Which refusals come of what an entry says: 1, and those from 6 on; without code info those of 1 and 6 alone, and
-- without inlining those of 1, 6 to 9, and 15.
-- Assumes nothing.
use Rattle.std.proofs.Common.{◌≡◌, ◌≤◌, ◌⊎◌, inl, inr, ⊎_elim, false, refl, ap, arith}
use Rattle.gsym_types.specs.declared.Refusal.{Refusal}
use Rattle.gsym_types.specs.Refusal.{number_of}
use Rattle.gsym_leb128.specs.declared.Cause.{Cause}
use Rattle.gsym_leb128.specs.declared.Cause.TheVariants.{Short, Wide}
use Rattle.gsym_linetab.specs.Unread.{header_refusal}
use Rattle.gsym_resolver.specs.Met.{EntryQuestion, items_question}
use Rattle.gsym_resolver.specs.Met.{Unanswered, uncovered, unnamed, unread, unplaced, first_unnamed, uncalled}
use Rattle.gsym_resolver.proofs.Blocks.{fault_number}
use Rattle.gsym_resolver.proofs.Numbers.{unplaced_number, uncalled_number, FirstTable, FirstBlock, item_number}

-- a header's is 9 or 15
header_number : (r : Refusal) (c : Cause) → r ≡ header_refusal c → (number_of r ≡ 9) ⊎ (number_of r ≡ 15)
header_number r Short e = inl (ap number_of e)
header_number r Wide e = inr (ap number_of e)

module _ (q : EntryQuestion) where
  table_number :
      (r : Refusal) → FirstTable (items_question q) q.entry.items r → (number_of r ≡ 9) ⊎ (number_of r ≡ 15)
  table_number r t = header_number r t.holds.1.0 t.holds.1.2

  block_number : (r : Refusal) → FirstBlock (items_question q) q.entry.items r → 10 ≤ number_of r
  block_number r b = (fault_number q.symbol.0 q.addr.0 q.room b.1.this.bytes r b.1.holds.1).0

  -- 1, and those from 6 on
  pub unanswered_number : (r : Refusal) → Unanswered q r → (number_of r ≡ 1) ⊎ (6 ≤ number_of r)
  unanswered_number r (uncovered c) = inl refl
  unanswered_number r (unnamed c n) = inr (omega arith)
  unanswered_number r (unread A F) =
      ⊎_elim
      (λ (t : FirstTable (items_question q) q.entry.items r).
      ⊎_elim
      (λ (n : number_of r ≡ 9). inr (omega arith))
      (λ (n : number_of r ≡ 15). inr (omega arith))
      (table_number r t))
      (λ (b : FirstBlock (items_question q) q.entry.items r). inr (omega (arith, block_number r b)))
      (item_number (items_question q) q.entry.items r F)
  unanswered_number r (unplaced row fs G u) =
      let k = unplaced_number q.tables row.file_idx r u in inr (omega (arith, k.0))
  unanswered_number r (first_unnamed row f fs G P n) = inr (omega arith)
  unanswered_number r (uncalled row f fs G P n F) =
      let k = uncalled_number q.tables F.this r F.holds in inr (omega (arith, k.0))

  -- without code info nothing of the list is read
  pub unanswered_plain : q.options.code_info ≡ false → (r : Refusal) → Unanswered q r → number_of r ≤ 6
  unanswered_plain c r (uncovered k) = omega arith
  unanswered_plain c r (unnamed k n) = omega arith
  unanswered_plain c r (unread A F) = let a = A.code in absurd cc
  unanswered_plain c r (unplaced row fs G u) = let a = G.asked.code in absurd cc
  unanswered_plain c r (first_unnamed row f fs G P n) = omega arith
  unanswered_plain c r (uncalled row f fs G P n F) = let a = G.asked.code in absurd cc

  -- without inlining no inline block refuses
  pub unanswered_off :
      q.options.inlining ≡ false → (r : Refusal) → Unanswered q r → (number_of r ≤ 9) ⊎ (number_of r ≡ 15)
  unanswered_off i r (uncovered c) = inl (omega arith)
  unanswered_off i r (unnamed c n) = inl (omega arith)
  unanswered_off i r (unread A F) =
      ⊎_elim
      (λ (t : FirstTable (items_question q) q.entry.items r).
      ⊎_elim (λ (n : number_of r ≡ 9). inl (omega arith)) (λ (n : number_of r ≡ 15). inr n) (table_number r t))
      (λ (b : FirstBlock (items_question q) q.entry.items r). let t = b.0 in absurd cc)
      (item_number (items_question q) q.entry.items r F)
  unanswered_off i r (unplaced row fs G u) =
      let k = unplaced_number q.tables row.file_idx r u in inl (omega (arith, k.1))
  unanswered_off i r (first_unnamed row f fs G P n) = inl (omega arith)
  unanswered_off i r (uncalled row f fs G P n F) =
      let k = uncalled_number q.tables F.this r F.holds in inl (omega (arith, k.1))
