-- Numbers have room where they are written: addresses are below 2^64, and so are their offsets; the offset of a string
-- that reads is below 2^32.
-- Assumes nothing.
use Rattle.std.proofs.Common.{◌-◌, ◌^◌, ◌<◌, List, [], ◌∷◌, arith, length-drop}
use Rattle.std.specs.List.{All}
use Rattle.std.proofs.lemmas.List.Elements.{All-head, All-map}
use Rattle.gsym_types.specs.declared.StrOffset.{StrOffset}
use Rattle.gsym_resolver.specs.SharedTables.{HasText}
use Rattle.gsym_layout.specs.Given.{GivenEntry, Given}
use Rattle.gsym_layout.specs.Layout.{base_of, offsets_of, size_of}
use Rattle.gsym_layout.specs.Writable.{IsOf32, SumFits, NameReads, Writable}
use Rattle.gsym_layout.proofs.Widths.{least_has_room}

module _ (es : List GivenEntry) (sums : All SumFits es) where
  offsets_small : All (λ n. n < 256 ^ 8) (offsets_of es)
  unfolding offsets_of
  offsets_small =
      All-map (λ n. n < 256 ^ 8) (λ (e : GivenEntry). e.addr.0 - base_of es) es (λ k d l. omega (arith, sums k d l))

pub base_small : (es : List GivenEntry) → All SumFits es → base_of es < 2 ^ 64
unfolding base_of
base_small [] sums = omega arith
base_small (e ∷ es) sums = omega (arith, All-head SumFits e es sums)

module _ (g : Given) (w : Writable g) where
  pub has_room : All (λ n. n < 256 ^ size_of g) (offsets_of g.entries)
  unfolding size_of
  has_room = least_has_room (offsets_of g.entries) (offsets_small g.entries w.sums)

  -- a string that reads stands inside the table
  pub name_small : (e : GivenEntry) → NameReads g.tables e → IsOf32 e.name.0
  name_small e n = omega (arith, n.string.inside, length-drop e.name.0 g.tables.strings, w.of_32.strings_size)

  pub text_small : (o : StrOffset) → HasText g.tables o → IsOf32 o.0
  text_small o t = omega (arith, t.string.inside, length-drop o.0 g.tables.strings, w.of_32.strings_size)
