-- The marked examples T1 to T5 of RULES, of the definitions.
-- Assumes nothing.
use Rattle.std.specs.Prelude.{◌≡◌, ◌-◌, ◌^◌, [], ◌∷◌, ◌++◌, replicate, pos, neg_ℤ, Ok, Err, refl}
use Rattle.gsym_leb128.specs.declared.Cause.TheVariants.{Wide}
use Rattle.gsym_leb128.specs.Leb.{digits, unsigned, signed}

-- `b9 64`
pub t1 : unsigned (0xb9 ∷ 0x64 ∷ []) ≡ Ok (12857, 2)
unfolding unsigned digits
t1 = refl

-- `80 7f`
pub t2 : signed (0x80 ∷ 0x7f ∷ []) ≡ Ok (neg_ℤ (pos 128), 2)
unfolding signed digits
t2 = refl

-- nine `ff`, `01`
pub t3 : unsigned (replicate 9 0xff ++ (0x01 ∷ [])) ≡ Ok (2 ^ 64 - 1, 10)
unfolding unsigned digits
t3 = refl

-- nine `ff`, `02`
pub t4 : unsigned (replicate 9 0xff ++ (0x02 ∷ [])) ≡ Err Wide
unfolding unsigned digits
t4 = refl

-- nine `80`, `7f`
pub t5 : signed (replicate 9 0x80 ++ (0x7f ∷ [])) ≡ Ok (neg_ℤ (pos (2 ^ 63)), 10)
unfolding signed digits
t5 = refl
