-- What the calls of C hosts tell, by what the calls that they hand on to do.
-- Assumes nothing.
use Rattle.std.proofs.Common.{Ok, Err, Result, IsOk, IfOk, IfErr, Option, Some, None, true, ℕ, ◌≤◌, List, take, length}
use Rattle.std.proofs.Common.{subst, ◌↔◌, ◌≡◌, ◌⊎◌, inl, false, refl, ap, arith}
use Rattle.std.specs.Result.{IsErrOf}
use Rattle.gsym_types.specs.declared.InlineFrame.{InlineFrame}
use Rattle.gsym_types.specs.declared.Refusal.{Refusal}
use Rattle.gsym_types.specs.declared.Refusal.TheVariants.{UnreadLineHeader, TooWide}
use Rattle.gsym_types.specs.Refusal.{number_of}
use Rattle.gsym_inline.specs.Block.{room_of}
use Rattle.gsym_inline.specs.Reads.{Reads}
use Rattle.gsym_inline.specs.ListsFrames.{ListsFrames}
use Rattle.gsym_inline.specs.Steps.{steps_of}
use Rattle.gsym_inline.specs.FirstFault.{FirstFault}
use Rattle.gsym_types.specs.declared.Address.{Address}
use Rattle.gsym_types.specs.declared.Answer.{Answer}
use Rattle.gsym_types.specs.declared.Frame.{Frame}
use Rattle.gsym_types.specs.declared.Options.{Options}
use Rattle.gsym_types.specs.declared.Position.{Position}
use Rattle.gsym_parser.specs.Entries.{covered_by}
use Rattle.gsym_resolver.specs.Lookup.{lookup_of, looked_up}
use Rattle.gsym_resolver.specs.Blocks.{RefusedByBlock, RefusedByHeader}
use Rattle.gsym.specs.Lookups.{records_in, MeetsLookup}
use Rattle.gsym_c.specs.declared.GsymListed.{GsymListed}
use Rattle.gsym_c.specs.Laid.{address, with_position, answered, answer_in, listed}
use Rattle.gsym.proofs.Numbers.{number_range, number_same}

module _ (symbol addr room : ℕ) (bytes : List ℕ) (result : Result ℕ Refusal) (g : GsymListed)
    (laid : g ≡ listed result) where
  pub told_listed :
      (after : List InlineFrame) →
      IsOk result ↔ Reads symbol addr room bytes →
      IfOk result (λ n. ListsFrames symbol addr room bytes (take n after)) →
      (g.number ≡ 0) ↔ ListsFrames symbol addr room bytes (take g.count after)
  told_listed after = go result laid
    where
      go : (x : Result ℕ Refusal) → g ≡ listed x →
          IsOk x ↔ Reads symbol addr room bytes → IfOk x (λ n. ListsFrames symbol addr room bytes (take n after)) →
          (g.number ≡ 0) ↔ ListsFrames symbol addr room bytes (take g.count after)
      go (Ok n) e h l = rw e (λ _. l, λ F. refl)
      go (Err k) e h l =
          rw e (λ z. absurd (omega (arith, (number_range k).0)), λ F. let z = h.1 F.reads in absurd cc)

  pub told_refused :
      ((k : Refusal) → IsErrOf result k ↔ FirstFault room (steps_of symbol addr bytes) k) →
      (k : Refusal) → (g.number ≡ number_of k) ↔ FirstFault room (steps_of symbol addr bytes) k
  told_refused h k = go result laid (h k)
    where
      go : (x : Result ℕ Refusal) → g ≡ listed x →
          IsErrOf x k ↔ FirstFault room (steps_of symbol addr bytes) k →
          (g.number ≡ number_of k) ↔ FirstFault room (steps_of symbol addr bytes) k
      go (Ok n) e f =
          rw e (λ z. absurd (omega (arith, (number_range k).0)), λ F. let z = f.1 F in absurd cc)
      go (Err r) e f =
          rw e (
            λ z. let q = number_same r k z in f.0 cc,
            λ F. let z = f.1 F in let q : r ≡ k = cc in ap number_of q,
          )

-- ---- a lookup

module _ (file : List ℕ) (addr : Address) (o : Options) (found : Result Answer Refusal) (old new : List Frame)
    (p : MeetsLookup file addr o found old new) where
  pub told_exact : answered found ≡ answered (answer_in (lookup_of file addr o (room_of (length old))))
  told_exact = go found p.exact
    where
      go :
          (x : Result Answer Refusal) → looked_up x (records_in x new) ≡ lookup_of file addr o (room_of (length old)) →
          answered x ≡ answered (answer_in (lookup_of file addr o (room_of (length old))))
      go (Ok a) e = ap (λ l. answered (answer_in l)) e
      go (Err r) e = ap (λ l. answered (answer_in l)) e

  pub told_covered :
      (answered found).number ≡ 0 → covered_by addr (address (answered found).addr) (answered found).size ≡ true
  told_covered = go found p.covered
    where
      covers : (a : Answer) (q : Option Position) → covered_by addr a.addr a.size ≡ true →
          covered_by addr (address (with_position a q).addr) (with_position a q).size ≡ true
      covers a (Some q) h = h
      covers a None h = h

      go :
          (x : Result Answer Refusal) → IfOk x (λ a. covered_by addr a.addr a.size ≡ true) → (answered x).number ≡ 0 →
          covered_by addr (address (answered x).addr) (answered x).size ≡ true
      go (Ok a) h z = covers a a.position h
      go (Err r) h z = absurd (omega (arith, (number_range r).0))

  zero-number : (a : Answer) (q : Option Position) → (with_position a q).number ≡ 0
  zero-number a (Some q) = refl
  zero-number a None = refl

  pub told_blocks :
      (r : Refusal) → (answered found).number ≡ number_of r → 10 ≤ (answered found).number →
      (answered found).number ≤ 14 → RefusedByBlock file addr o (room_of (length old)) r
  told_blocks r = go found p.blocks
    where
      go :
          (x : Result Answer Refusal) →
          IfErr x (λ s. 10 ≤ number_of s → number_of s ≤ 14 → RefusedByBlock file addr o (room_of (length old)) s) →
          (answered x).number ≡ number_of r → 10 ≤ (answered x).number → (answered x).number ≤ 14 →
          RefusedByBlock file addr o (room_of (length old)) r
      go (Ok a) h e l m = absurd (omega (arith, zero-number a a.position))
      go (Err s) h e l m = subst (RefusedByBlock file addr o (room_of (length old))) (number_same s r e) (h l m)

  -- the number of a refusal is told of it alone
  refused-is : (r : Refusal) → (answered found).number ≡ number_of r → IsErrOf found r
  refused-is r = go found
    where
      go : (x : Result Answer Refusal) → (answered x).number ≡ number_of r → IsErrOf x r
      go (Ok a) e = absurd (omega (arith, zero-number a a.position, (number_range r).0))
      go (Err s) e = let q = number_same s r e in cc

  pub told_header :
      (answered found).number ≡ 9 → RefusedByHeader file addr o (room_of (length old)) UnreadLineHeader
  told_header e = p.header (refused-is UnreadLineHeader e)

  pub told_wide : (answered found).number ≡ 15 →
      RefusedByBlock file addr o (room_of (length old)) TooWide
      ⊎ RefusedByHeader file addr o (room_of (length old)) TooWide
  told_wide e = p.wide (refused-is TooWide e)

  -- what holds of 0 and of the number of each refusal
  by-number : (P : ℕ → Type 0) → P 0 → IfErr found (λ s. P (number_of s)) → P (answered found).number
  by-number P z = go found
    where
      go : (x : Result Answer Refusal) → IfErr x (λ s. P (number_of s)) → P (answered x).number
      go (Ok a) h = rw (zero-number a a.position) z
      go (Err s) h = h

  pub told_no_code_info : o.code_info ≡ false → (answered found).number ≤ 6
  told_no_code_info i = by-number (λ n. n ≤ 6) (omega arith) (p.no_code_info i)

  pub told_no_inlining :
      o.inlining ≡ false → ((answered found).number ≤ 9) ⊎ ((answered found).number ≡ 15)
  told_no_inlining i = by-number (λ n. (n ≤ 9) ⊎ (n ≡ 15)) (inl (omega arith)) (p.no_inlining i)
