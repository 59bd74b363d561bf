-- What a file is written from, as a value (RULES, "Writing a file"), and the same as what is read of a file.
-- Assumes nothing.
use Rattle.std.specs.Prelude.{ℕ, true, List, Some, map}
use Rattle.gsym_types.specs.declared.Address.{Address}
use Rattle.gsym_types.specs.declared.StrOffset.{StrOffset}
use Rattle.gsym_parser.specs.Items.{ItemData}
use Rattle.gsym_resolver.specs.EntryData.{EntryData}
use Rattle.gsym_resolver.specs.SharedTables.{SharedTables}
use Rattle.gsym_verify.specs.Content.{EntryContent, Content}

-- an entry: its symbol's address, size and name, and its items
pub record GivenEntry : Type 0 where
  pub addr : Address
  pub size : ℕ
  pub name : StrOffset
  pub items : List ItemData

-- the entries, and the strings and files that all share
pub record Given : Type 0 where
  pub entries : List GivenEntry
  pub tables : SharedTables

abbrev pub addresses : List GivenEntry → List ℕ
addresses es = map (λ (e : GivenEntry). e.addr.0) es

-- ---- as what is read of a file

-- what an entry says: its list ends at type 0
abbrev pub said_by : GivenEntry → EntryData
said_by e = record { size = e.size; name = e.name; items = e.items; closed = true }

abbrev pub entry_said : GivenEntry → EntryContent
entry_said e = record { symbol = e.addr.0; says = Some (said_by e) }

abbrev pub content_said : Given → Content
content_said g = record { strings = g.tables.strings; entries = map entry_said g.entries }
