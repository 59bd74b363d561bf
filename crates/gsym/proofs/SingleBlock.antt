-- What the call that reads a single block promises, by its equation with the definition.
-- Assumes nothing.
use Rattle.std.proofs.Common.{Ok, Err, Result, IsOk, IfOk, ℕ, List, [], ◌↔◌, ◌≡◌, refl, sym, subst, take}
use Rattle.std.specs.Result.{IsErrOf}
use Rattle.gsym_types.specs.declared.InlineFrame.{InlineFrame}
use Rattle.gsym_types.specs.declared.Refusal.{Refusal}
use Rattle.gsym_inline.specs.Block.{block_of}
use Rattle.gsym_inline.specs.Reads.{Reads}
use Rattle.gsym_inline.specs.ListsFrames.{ListsFrames}
use Rattle.gsym_inline.specs.Steps.{steps_of}
use Rattle.gsym_inline.specs.FirstFault.{FirstFault}
use Rattle.gsym_inline.proofs.Listing.{reads-iff, block-lists}
use Rattle.gsym_inline.proofs.Told.{told_refused}
use Rattle.gsym.specs.Blocks.{frames_in}

module _ (symbol addr room : ℕ) (bytes : List ℕ) (result : Result ℕ Refusal) (frames : List InlineFrame)
    (e : frames_in result frames ≡ block_of symbol addr room bytes) where
  pub block_reads : IsOk result ↔ Reads symbol addr room bytes
  block_reads = go result e
    where
      go : (x : Result ℕ Refusal) → frames_in x frames ≡ block_of symbol addr room bytes →
          IsOk x ↔ Reads symbol addr room bytes
      go (Ok n) e = (
        λ i. (reads-iff symbol addr room bytes).0 (subst IsOk e refl),
        λ R. refl,
      )
      go (Err r) e = (
        λ i. absurd cc,
        λ R. let z : IsOk (frames_in (Err r) frames) = subst IsOk (sym e)
            ((reads-iff symbol addr room bytes).1 R) in absurd cc,
      )

  pub block_listed : IfOk result (λ n. ListsFrames symbol addr room bytes (take n frames))
  block_listed = go result e
    where
      go : (x : Result ℕ Refusal) → frames_in x frames ≡ block_of symbol addr room bytes →
          IfOk x (λ n. ListsFrames symbol addr room bytes (take n frames))
      go (Ok n) e = (block-lists symbol addr room bytes (take n frames)).0 (sym e)
      go (Err r) e = tt

  pub block_refused : (r : Refusal) → IsErrOf result r ↔ FirstFault room (steps_of symbol addr bytes) r
  block_refused r = go result e
    where
      go : (x : Result ℕ Refusal) → frames_in x frames ≡ block_of symbol addr room bytes →
          IsErrOf x r ↔ FirstFault room (steps_of symbol addr bytes) r
      go (Ok n) e =
          let t = told_refused bytes symbol addr room (take n frames) (Ok tt) e r in
          (λ z. absurd cc, λ F. let z = t.1 F in absurd cc)
      go (Err s) e =
          let t = told_refused bytes symbol addr room [] (Err s) e r in
          (λ z. t.0 (let q : s ≡ r = cc in cc), λ F. let z = t.1 F in cc)
