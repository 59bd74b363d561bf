-- What the definition of one block says, in RULES' words: it lists exactly its frames by paths, and is refused exactly
-- with its first fault.
-- Assumes nothing.
use Rattle.std.proofs.Common.{◌≡◌, ◌↔◌, ◌≤◌, ℕ, List, length, Ok, Err}
use Rattle.gsym_types.specs.declared.InlineFrame.{InlineFrame}
use Rattle.gsym_types.specs.declared.Refusal.{Refusal}
use Rattle.gsym_types.specs.Refusal.{number_of}
use Rattle.gsym_inline.specs.Block.{block_of}
use Rattle.gsym_inline.specs.ListsFrames.{ListsFrames}
use Rattle.gsym_inline.specs.Steps.{steps_of}
use Rattle.gsym_inline.specs.FirstFault.{FirstFault}
use Rattle.gsym_inline.proofs.Listing.{block_room, block-lists, refused-number}
use Rattle.gsym_inline.proofs.FirstFault.{first-fault}

module _ (symbol addr room : ℕ) (bytes : List ℕ) where
  pub block_listed :
      (fs : List InlineFrame) → (block_of symbol addr room bytes ≡ Ok fs) ↔ ListsFrames symbol addr room bytes fs
  block_listed fs = block-lists symbol addr room bytes fs

  pub block_refused :
      (r : Refusal) → (block_of symbol addr room bytes ≡ Err r) ↔ FirstFault room (steps_of symbol addr bytes) r
  block_refused r = first-fault symbol addr room bytes r

  -- frames are never more than the room
  pub listed_room : (fs : List InlineFrame) → ListsFrames symbol addr room bytes fs → length fs ≤ room
  listed_room fs L = block_room symbol addr room bytes fs ((block_listed fs).1 L)

  -- a first fault is one of 10 to 15
  pub fault_number :
      (r : Refusal) → FirstFault room (steps_of symbol addr bytes) r → (10 ≤ number_of r) × (number_of r ≤ 15)
  fault_number r F = refused-number symbol addr room bytes r ((block_refused r).1 F)
