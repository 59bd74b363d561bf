-- What an entry says, as a value without places (RULES, "Finding the entry" and "Address data list").
--
--   size      4 bytes
--   name      4          an offset in the string table
--   items                each a type, a length and that many bytes, up to type 0 or to one that doesn't fit
--
-- Assumes nothing.
use Rattle.std.specs.Prelude.{◌≡◌, ℕ, Bool, List, Option, Some, Ok}
use Rattle.gsym_reads.specs.Maybe.{◌>>=◌}
use Rattle.gsym_types.specs.declared.Address.{Address}
use Rattle.gsym_types.specs.declared.StrOffset.{StrOffset}
use Rattle.gsym_parser.specs.View.{View}
use Rattle.gsym_parser.specs.Header.{opened_of}
use Rattle.gsym_parser.specs.Search.{find_of}
use Rattle.gsym_parser.specs.Entries.{EntryInfo, info_at}
use Rattle.gsym_parser.specs.Items.{ItemData, items_of, closed_of}

-- what an entry says, and whether its list ended at type 0
pub record EntryData : Type 0 where
  pub size : ℕ
  pub name : StrOffset
  pub items : List ItemData
  pub closed : Bool

-- with the items that its bytes begin with
abbrev pub entry_data : EntryInfo → EntryData
entry_data info = record {
  size = info.size;
  name = record { 0 = info.name };
  items = items_of info.bytes;
  closed = closed_of info.bytes;
}

-- what an entry of an opened file says, where its information reads
unfoldable pub data_at : View → ℕ → Option EntryData
data_at v i = do
  info ← info_at v i
  Some (entry_data info)

-- the entry that an address lands on: the file opens, the entry is found, and its information reads
pub record Entered (file : List ℕ) (addr : Address) : Type 0 where
  pub view : View
  pub index : ℕ
  pub entry : EntryData
  pub opens : opened_of file ≡ Ok view
  pub finds : find_of view addr ≡ Some index
  pub reads : data_at view index ≡ Some entry
