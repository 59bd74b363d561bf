-- What is asked of what is given for a file to be written from it (RULES, "Writing a file"): the table of refusals,
-- each as what holds where it isn't met. The room is no part of it.
-- Assumes nothing.
use Rattle.std.specs.Prelude.{◌≢◌, ℕ, ◌+◌, ◌^◌, ◌<◌, ◌≤◌, List, length}
use Rattle.std.specs.List.{All}
use Rattle.std.specs.List.Sorted.{IsStrictlyIncreasing}
use Rattle.gsym_inline.specs.Limits.{most_address}
use Rattle.gsym_parser.specs.declared.entries.FileInfo.{FileInfo}
use Rattle.gsym_parser.specs.Items.{ItemData}
use Rattle.gsym_resolver.specs.SharedTables.{SharedTables, HasName, HasText}
use Rattle.gsym_layout.specs.Given.{GivenEntry, Given, addresses}
use Rattle.gsym_layout.specs.Layout.{strings_start, places_of}

-- of each item of each entry
abbrev pub AllItems : (ItemData → Type 0) → List GivenEntry → Type 0
AllItems P es = All (λ (e : GivenEntry). All P e.items) es

-- each entry is above the one before it (21)
abbrev pub Rises : Given → Type 0
Rises g = IsStrictlyIncreasing (addresses g.entries)

-- no symbol ends above 2^64-1 (22)
abbrev pub SumFits : GivenEntry → Type 0
SumFits e = e.addr.0 + e.size ≤ most_address

-- an entry's name reads, and both strings of a file (29)
abbrev pub NameReads : SharedTables → GivenEntry → Type 0
NameReads t e = HasName t e.name

abbrev pub FileReads : SharedTables → FileInfo → Type 0
FileReads t f = HasText t f.directory × HasText t f.filename

-- an item doesn't end its list (30)
abbrev pub IsNoEnd : ItemData → Type 0
IsNoEnd item = item.kind ≢ 0

-- a number of 32 bits
abbrev pub IsOf32 : ℕ → Type 0
IsOf32 n = n < 2 ^ 32

-- counts, places and lengths are of 32 bits (31)
pub record Of32 (g : Given) : Type 0 where
  pub count : IsOf32 (length g.entries)
  pub files : IsOf32 (length g.tables.files)
  pub strings_place : IsOf32 (strings_start g)
  pub strings_size : IsOf32 (length g.tables.strings)
  pub places : All IsOf32 (places_of g)
  pub lengths : AllItems (λ item. IsOf32 (length item.bytes)) g.entries

pub record Writable (g : Given) : Type 0 where
  pub rises : Rises g
  pub sums : All SumFits g.entries
  pub names : All (NameReads g.tables) g.entries
  pub files : All (FileReads g.tables) g.tables.files
  pub no_ends : AllItems IsNoEnd g.entries
  pub of_32 : Of32 g

-- sizes and types are of 32 bits, as their Rust types have it; that addresses are of 64 follows from the sums, and that
-- offsets are of 32 from the strings
pub record Typed (g : Given) : Type 0 where
  pub sizes : All (λ (e : GivenEntry). IsOf32 e.size) g.entries
  pub kinds : AllItems (λ item. IsOf32 item.kind) g.entries
