-- A block whose tree is there in full, each node judged, reads at every address; only more frames than room are
-- refused.
-- Assumes nothing.
use Rattle.std.proofs.Common.{Ok, Err, IsOk, ℕ, ◌<◌, ◌≤◌, ⊎_elim, List, ◌≡◌, sym, ◌∙◌}
use Rattle.std.proofs.Common.{length, arith}
use Rattle.std.proofs.lemmas.Bool.{cases_lt}
use Rattle.gsym_types.specs.declared.Refusal.{Refusal}
use Rattle.gsym_types.specs.declared.Refusal.TheVariants.{TooManyFrames}
use Rattle.gsym_inline.specs.Block.{Block, block_of}
use Rattle.gsym_inline.specs.Reads.{Reads}
use Rattle.gsym_inline.specs.TreeInFull.{TreeInFull}
use Rattle.gsym_inline.specs.Steps.{steps_of}
use Rattle.gsym_inline.specs.FirstFault.{FirstFault}
use Rattle.gsym_inline.proofs.PathLists.{frame_paths}
use Rattle.gsym_inline.proofs.ByPaths.{paths-listed}
use Rattle.gsym_inline.proofs.Listing.{reads-iff}
use Rattle.gsym_inline.proofs.MoreRoom.{block_more}
use Rattle.gsym_inline.proofs.FirstFault.{first-fault}

module _ (symbol : ℕ) (bytes : List ℕ) (T : TreeInFull symbol bytes) (addr : ℕ) where
  -- with room for all its frames
  reads_with : (room : ℕ) → length (frame_paths addr symbol T.forest) ≤ room → Reads symbol addr room bytes
  reads_with room l = record {
    forest = T.forest;
    place = T.place;
    full = T.full;
    fits = λ p x e j. T.fits p x e;
    levels = T.levels;
    paths = frame_paths addr symbol T.forest;
    listed = paths-listed addr symbol T.forest;
    few = l;
  }

  not-refused : (b : Block) (r : Refusal) → IsOk b → b ≡ Err r → {A : Type 0} → A
  not-refused (Ok fs) r o e = absurd cc
  not-refused (Err k) r o e = absurd cc

  pub full_refused : (room : ℕ) (r : Refusal) → block_of symbol addr room bytes ≡ Err r → r ≡ TooManyFrames
  full_refused room r e =
      let n = length (frame_paths addr symbol T.forest) in
      ⊎_elim
      (λ (l : room < n).
      ⊎_elim
      (λ (q : block_of symbol addr room bytes ≡ Err TooManyFrames).
      let z : ◌≡◌ {A = Block} (Err r) (Err TooManyFrames) = sym e ∙ q in cc)
      (λ (q : block_of symbol addr room bytes ≡ block_of symbol addr n bytes).
      not-refused (block_of symbol addr n bytes) r
      ((reads-iff symbol addr n bytes).1 (reads_with n (omega arith))) (sym q ∙ e))
      (block_more room n (omega (arith, l)) symbol addr bytes))
      (λ (l : n ≤ room).
      not-refused (block_of symbol addr room bytes) r ((reads-iff symbol addr room bytes).1 (reads_with room l)) e)
      (cases_lt room n)

  pub full_fault :
      (room : ℕ) (r : Refusal) → FirstFault room (steps_of symbol addr bytes) r → r ≡ TooManyFrames
  full_fault room r f = full_refused room r ((first-fault symbol addr room bytes r).1 f)
