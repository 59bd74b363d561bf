-- What is asked of a symbol file before anything is answered from it, and its build id.
-- Assumes nothing.
use Rattle.std.specs.Prelude.{ℕ, false, List, [], length, take, drop, min, nat_lt, slice_index, if◌then◌else◌}
use Rattle.gsym_types.specs.declared.Refusal.{Refusal}
use Rattle.gsym_types.specs.declared.Refusal.TheVariants.{WrongMagic, WrongVersion}
use Rattle.gsym_resolver.specs.Lookup.{plain_options}
use Rattle.gsym_resolver.specs.Met.{Met}

-- a lookup of the symbol alone, at the address 0, is refused with this
abbrev pub Refuses : List ℕ → Refusal → Type 0
Refuses file r = Met file (record { 0 = 0 }) (plain_options false) 0 r

-- magic and version are right, or not there yet
pub record HasStart (file : List ℕ) : Type 0 where
  pub magic : Refuses file WrongMagic → ⊥
  pub version : Refuses file WrongVersion → ⊥

-- the UUID: so many bytes as the header says, and 20 at most; none where the file is too short for it
abbrev pub uuid_of : List ℕ → List ℕ
uuid_of file = if nat_lt (length file) 48 then [] else take (min (slice_index file 7) 20) (drop 28 file)
