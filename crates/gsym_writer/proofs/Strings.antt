-- Strings that are a file of their own are the string table of it.
-- Assumes nothing.
use Rattle.std.proofs.Common.{◌≡◌, ℕ, ◌+◌, List, length, Option, Some, None, is_some, refl, le-leb, arith}
use Rattle.std.proofs.lemmas.List.{take_all}
use Rattle.gsym_types.specs.declared.StrOffset.{StrOffset}
use Rattle.gsym_strtab.specs.Strings.{text_in, name_in, text_at, name_at, placed}

placed_some : (at : ℕ) (o : Option ℕ) → is_some (placed at o) ≡ is_some o
placed_some at (Some n) = refl
placed_some at None = refl

module _ (strings : List ℕ) (offset : StrOffset) where
  pub name_alone :
      is_some (name_at strings (record { place = 0; size = length strings }) offset)
      ≡ is_some (name_in strings offset.0)
  unfolding name_at
  name_alone =
      rw (le-leb (0 + length strings) (length strings) (omega arith), take_all (length strings) strings (omega arith))
      (placed_some (0 + offset.0) (name_in strings offset.0))

  pub text_alone :
      is_some (text_at strings (record { place = 0; size = length strings }) offset)
      ≡ is_some (text_in strings offset.0)
  unfolding text_at
  text_alone =
      rw (le-leb (0 + length strings) (length strings) (omega arith), take_all (length strings) strings (omega arith))
      (placed_some (0 + offset.0) (text_in strings offset.0))
