-- What an opened file says, as a value without places (RULES, "Checking a file"): of each entry of the address table
-- the symbol's address and what the entry's data say, and the strings that all share.
-- Assumes nothing.
use Rattle.std.specs.Prelude.{ℕ, ◌+◌, List, [], ◌∷◌, Option}
use Rattle.gsym_parser.specs.View.{View}
use Rattle.gsym_parser.specs.Search.{entries_of}
use Rattle.gsym_resolver.specs.EntryData.{EntryData, data_at}
use Rattle.gsym_resolver.specs.SharedTables.{shared_tables}

-- the symbol's address is a sum of natural numbers, so that none wraps; nothing is said where the information doesn't
-- read
pub record EntryContent : Type 0 where
  pub symbol : ℕ
  pub says : Option EntryData

pub record Content : Type 0 where
  pub strings : List ℕ
  pub entries : List EntryContent

-- the entry e of index i
abbrev pub entry_content : View → ℕ → ℕ → EntryContent
entry_content v i e = record { symbol = v.tables.base.0 + e; says = data_at v i }

-- entries, of which the first has the index i
unfoldable pub contents_from : View → ℕ → List ℕ → List EntryContent
contents_from v i [] = []
contents_from v i (e ∷ es) = entry_content v i e ∷ contents_from v (i + 1) es

abbrev pub content_of : View → Content
content_of v = record { strings = (shared_tables v).strings; entries = contents_from v 0 (entries_of v) }
