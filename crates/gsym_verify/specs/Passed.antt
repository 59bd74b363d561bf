-- What a lookup in a file that passed may still be refused with (RULES, "Checking a file").
-- Assumes nothing.
use Rattle.std.specs.Prelude.{◌≡◌, ◌≤◌, ◌⊎◌, ℕ, List, false, Err}
use Rattle.gsym_types.specs.declared.Address.{Address}
use Rattle.gsym_types.specs.declared.Options.{Options}
use Rattle.gsym_types.specs.declared.Refusal.{Refusal}
use Rattle.gsym_types.specs.Refusal.{number_of}
use Rattle.gsym_resolver.specs.Lookup.{lookup_of}

-- without code info: 1 alone, at any address and in any room
abbrev pub NamesFound : List ℕ → Type 0
NamesFound file = (addr : Address) (options : Options) (room : ℕ) → options.code_info ≡ false → (r : Refusal)
    → lookup_of file addr options room ≡ Err r → number_of r ≡ 1

-- with code info also 7 and 8, for a position
abbrev pub IsOfPosition : Refusal → Type 0
IsOfPosition r = (7 ≤ number_of r) × (number_of r ≤ 8)

abbrev pub PositionsFound : List ℕ → Type 0
PositionsFound file = (addr : Address) (options : Options) (room : ℕ) → options.inlining ≡ false → (r : Refusal)
    → lookup_of file addr options room ≡ Err r → (number_of r ≡ 1) ⊎ IsOfPosition r

-- and with inlining 6, for a frame's name, and 14, for more frames than room
abbrev pub IsOfCodeInfo : Refusal → Type 0
IsOfCodeInfo r = ((6 ≤ number_of r) × (number_of r ≤ 8)) ⊎ (number_of r ≡ 14)

abbrev pub CodeInfoFound : List ℕ → Type 0
CodeInfoFound file = (addr : Address) (options : Options) (room : ℕ) (r : Refusal)
    → lookup_of file addr options room ≡ Err r → (number_of r ≡ 1) ⊎ IsOfCodeInfo r
