-- When a file passes the check (RULES, "Checking a file"), said of its tables, its entries, the states that line
-- programs lead to, and the paths of inline trees.
-- Assumes nothing.
use Rattle.std.specs.Prelude.{◌≡◌, ℕ, ◌+◌, ◌<◌, ◌≤◌, true, List, Some, Ok, slice_index}
use Rattle.std.specs.List.{All}
use Rattle.std.specs.List.Sorted.{IsNonDecreasing}
use Rattle.gsym_types.specs.declared.Address.{Address}
use Rattle.gsym_linetab.specs.Endings.{LineInFull}
use Rattle.gsym_inline.specs.Limits.{most_address}
use Rattle.gsym_inline.specs.TreeInFull.{TreeInFull}
use Rattle.gsym_parser.specs.View.{View}
use Rattle.gsym_parser.specs.Header.{opened_of}
use Rattle.gsym_parser.specs.Items.{ItemData}
use Rattle.gsym_parser.specs.Search.{is_width, entries_of}
use Rattle.gsym_resolver.specs.EntryData.{EntryData, data_at}
use Rattle.gsym_resolver.specs.Known.{line_table, inline_info}
use Rattle.gsym_resolver.specs.SharedTables.{SharedTables, shared_tables, HasName}

-- a line table and an inline tree read in full; of other items nothing is asked
pub record GoodItem (symbol : Address) (item : ItemData) : Type 0 where
  pub line : item.kind ≡ line_table → LineInFull symbol item.bytes
  pub inlined : item.kind ≡ inline_info → TreeInFull symbol.0 item.bytes

-- what an entry says of the symbol at an address, which is a sum of natural numbers
pub record GoodData (shared : SharedTables) (symbol : ℕ) (said : EntryData) : Type 0 where
  pub sum : symbol + said.size ≤ most_address
  pub named : HasName shared said.name
  pub items : All (GoodItem (record { 0 = symbol })) said.items
  -- the list ends in type 0
  pub closed : said.closed ≡ true

-- where the symbol of an entry starts: the base plus the entry
abbrev pub start_of : View → ℕ → ℕ
start_of v i = v.tables.base.0 + slice_index (entries_of v) i

pub record GoodEntry (v : View) (i : ℕ) : Type 0 where
  pub said : EntryData
  pub reads : data_at v i ≡ Some said
  pub good : GoodData (shared_tables v) (start_of v i) said

pub record Good (file : List ℕ) : Type 0 where
  pub view : View
  -- header and tables read
  pub opens : opened_of file ≡ Ok view
  -- the offset size is 1, 2, 4 or 8
  pub width : is_width view.tables.offset_size ≡ true
  -- no entry is below one before it
  pub never_falls : IsNonDecreasing (entries_of view)
  pub entries : (i : ℕ) → i < view.tables.count → GoodEntry view i
