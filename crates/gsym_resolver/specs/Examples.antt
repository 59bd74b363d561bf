-- The marked examples T1 to T12 of RULES as one statement about the written definitions.
-- Assumes nothing.
use Rattle.std.specs.Prelude.{Ok, Err, ◌-◌, ◌^◌, [], ◌∷◌, ◌++◌, ◌≡◌, pos, neg_ℤ, replicate}
use Rattle.gsym_leb128.specs.declared.Cause.TheVariants.{Wide}
use Rattle.gsym_leb128.specs.Leb.{unsigned, signed}
use Rattle.gsym_leb128.specs.Examples as leb
use Rattle.gsym_linetab.specs.declared.Ending.TheVariants.{Stopped}
use Rattle.gsym_linetab.specs.declared.RunResult.TheVariants.{NewRow}
use Rattle.gsym_linetab.specs.Machine.{state, step_of}
use Rattle.gsym_linetab.specs.Examples.{between}
use Rattle.gsym_linetab.specs.Examples as line
use Rattle.gsym_inline.specs.Frames.{frame}
use Rattle.gsym_inline.specs.Block.{block_of}
use Rattle.gsym_inline.specs.Examples.{root_over_leaf}
use Rattle.gsym_inline.specs.Examples as block

pub record MarkedExamples : Type 0 where
  -- LEB128: `b9 64`, `80 7f`, nine `ff` and `01`, nine `ff` and `02`, nine `80` and `7f`
  pub t1 : unsigned (0xb9 ∷ 0x64 ∷ []) ≡ Ok (12857, 2)
  pub t2 : signed (0x80 ∷ 0x7f ∷ []) ≡ Ok (neg_ℤ (pos 128), 2)
  pub t3 : unsigned (replicate 9 0xff ++ (0x01 ∷ [])) ≡ Ok (2 ^ 64 - 1, 10)
  pub t4 : unsigned (replicate 9 0xff ++ (0x02 ∷ [])) ≡ Err Wide
  pub t5 : signed (replicate 9 0x80 ++ (0x7f ∷ [])) ≡ Ok (neg_ℤ (pos (2 ^ 63)), 10)
  -- special opcodes between min and max, from address 4096 and line 100
  pub t6 : step_of (between (neg_ℤ (pos 4)) (pos 10)) (255 ∷ []) (state 4096 1 100 0) ≡ Ok (NewRow (state 4112 1 107 1))
  pub t7 : step_of (between (pos 0) (neg_ℤ (pos 1))) (4 ∷ []) (state 4096 1 100 0) ≡ Err Stopped
  pub t8 : step_of (between (pos 0) (neg_ℤ (pos 3))) (7 ∷ []) (state 4096 1 100 0) ≡ Ok (NewRow (state 4095 1 101 1))
  -- blocks at symbol 0x1000: a root and its child contain 0x1005, only the root 0x100c; a root without a name; `00`
  pub t9 : block_of 0x1000 0x1005 64 (root_over_leaf 1) ≡ Ok (frame 1 0 0 ∷ frame 5 1 10 ∷ [])
  pub t10 : block_of 0x1000 0x100c 64 (root_over_leaf 1) ≡ Ok (frame 1 0 0 ∷ [])
  pub t11 : block_of 0x1000 0x1005 64 (root_over_leaf 0) ≡ Ok (frame 5 1 10 ∷ [])
  pub t12 : block_of 0x1000 0x1005 64 (0x00 ∷ []) ≡ Ok []

pub marked_examples : MarkedExamples
marked_examples = record {
  t1 = leb.t1;
  t2 = leb.t2;
  t3 = leb.t3;
  t4 = leb.t4;
  t5 = leb.t5;
  t6 = line.t6;
  t7 = line.t7;
  t8 = line.t8;
  t9 = block.t9;
  t10 = block.t10;
  t11 = block.t11;
  t12 = block.t12;
}
