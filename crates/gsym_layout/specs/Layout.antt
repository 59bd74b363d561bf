-- The file of what is given, byte for byte (RULES, "Writing a file").
--
--   bytes                    what
--   48                       the header: UUID size 0, UUID zero; the base is the first address, or 0
--   count · offset size      of each entry the address less the base; the smallest offset size that has room
--   0 to 3                   zeros, up to a place divisible by 4
--   count · 4                data offsets
--   4                        file count
--   files · 8                directory, file name
--                            strings
--   for each entry: 0 to 3   zeros, up to a place divisible by 4
--                   4        size
--                   4        name
--                            items: type 4, length 4, bytes
--                   8        type 0, length 0
--
-- Assumes nothing.
use Rattle.std.specs.Prelude.{ℕ, ◌+◌, ◌-◌, ◌*◌, ◌^◌, Bool, List, [], ◌∷◌, ◌++◌, map, length, replicate, nat_lt}
use Rattle.std.specs.Prelude.{if◌then◌else◌}
use Rattle.std.specs.Int.{Width, w16, w32, w64, to_le_bytes, next_multiple_of}
use Rattle.std.specs.List.{flat_map, list_all}
use Rattle.gsym_types.specs.declared.Address.{Address}
use Rattle.gsym_parser.specs.declared.entries.FileInfo.{FileInfo}
use Rattle.gsym_parser.specs.View.{View}
use Rattle.gsym_parser.specs.Format.{magic_number, version_number, header_len}
use Rattle.gsym_parser.specs.Items.{ItemData}
use Rattle.gsym_parser.specs.Search.{width_of}
use Rattle.gsym_layout.specs.Given.{GivenEntry, Given}

abbrev pub zeros : ℕ → List ℕ
zeros n = replicate n 0

-- numbers of a width, one after another
abbrev pub numbers : Width → List ℕ → List ℕ
numbers w ns = flat_map (to_le_bytes w) ns

-- ---- the data of entries

-- an item: type, length, bytes
unfoldable pub item_bytes : ItemData → List ℕ
item_bytes item = to_le_bytes w32 item.kind ++ to_le_bytes w32 (length item.bytes) ++ item.bytes

-- what an entry says, its list ended by type 0 with length 0
unfoldable pub data_bytes : GivenEntry → List ℕ
data_bytes e =
    to_le_bytes w32 e.size ++ to_le_bytes w32 e.name.0 ++ flat_map item_bytes e.items
    ++ to_le_bytes w32 0 ++ to_le_bytes w32 0

-- where the data of an entry stand if the file is so long up to them, and where they end
abbrev pub data_start : ℕ → ℕ
data_start at = next_multiple_of at 4

abbrev pub data_end : ℕ → GivenEntry → ℕ
data_end at e = data_start at + length (data_bytes e)

-- the data of entries, and the place of each one's, where the file is so long up to them
unfoldable pub data_from : ℕ → List GivenEntry → List ℕ
data_from at [] = []
data_from at (e ∷ es) = zeros (data_start at - at) ++ data_bytes e ++ data_from (data_end at e) es

unfoldable pub places_from : ℕ → List GivenEntry → List ℕ
places_from at [] = []
places_from at (e ∷ es) = data_start at ∷ places_from (data_end at e) es

-- ---- the address table

-- the first address, 0 where there is none
unfoldable pub base_of : List GivenEntry → ℕ
base_of [] = 0
base_of (e ∷ es) = e.addr.0

-- of each entry the address less the base
unfoldable pub offsets_of : List GivenEntry → List ℕ
offsets_of es = map (λ (e : GivenEntry). e.addr.0 - base_of es) es

-- whether each number has room in so many bytes
abbrev pub have_room : ℕ → List ℕ → Bool
have_room size ns = list_all (λ n. nat_lt n (256 ^ size)) ns

-- the smallest offset size that has room for each
unfoldable pub least_size : List ℕ → ℕ
least_size ns = if have_room 1 ns then 1 else if have_room 2 ns then 2 else if have_room 4 ns then 4 else 8

unfoldable pub size_of : Given → ℕ
size_of g = least_size (offsets_of g.entries)

-- ---- where the parts stand

abbrev pub table_end : Given → ℕ
table_end g = header_len + length g.entries * size_of g

abbrev pub offsets_start : Given → ℕ
offsets_start g = next_multiple_of (table_end g) 4

abbrev pub file_count_start : Given → ℕ
file_count_start g = offsets_start g + length g.entries * 4

abbrev pub files_start : Given → ℕ
files_start g = file_count_start g + 4

abbrev pub strings_start : Given → ℕ
strings_start g = files_start g + length g.tables.files * 8

abbrev pub strings_end : Given → ℕ
strings_end g = strings_start g + length g.tables.strings

-- the place of each entry's data
unfoldable pub places_of : Given → List ℕ
places_of g = places_from (strings_end g) g.entries

-- ---- the file

-- the header's numbers
pub record Head : Type 0 where
  pub offset_size : ℕ
  pub base : Address
  pub count : ℕ
  pub strings_place : ℕ
  pub strings_size : ℕ

unfoldable pub head_of : Given → Head
head_of g = record {
  offset_size = size_of g;
  base = record { 0 = base_of g.entries };
  count = length g.entries;
  strings_place = strings_start g;
  strings_size = length g.tables.strings;
}

unfoldable pub header_bytes : Head → List ℕ
header_bytes h =
    to_le_bytes w32 magic_number ++ to_le_bytes w16 version_number ++ (h.offset_size ∷ 0 ∷ [])
    ++ to_le_bytes w64 h.base.0 ++ to_le_bytes w32 h.count
    ++ to_le_bytes w32 h.strings_place ++ to_le_bytes w32 h.strings_size ++ zeros 20

-- a row of the file table
abbrev pub row_bytes : FileInfo → List ℕ
row_bytes f = to_le_bytes w32 f.directory.0 ++ to_le_bytes w32 f.filename.0

unfoldable pub layout_of : Given → List ℕ
layout_of g =
    header_bytes (head_of g)
    ++ numbers (width_of (size_of g)) (offsets_of g.entries)
    ++ zeros (offsets_start g - table_end g)
    ++ numbers w32 (places_of g)
    ++ to_le_bytes w32 (length g.tables.files)
    ++ flat_map row_bytes g.tables.files
    ++ g.tables.strings
    ++ data_from (strings_end g) g.entries

-- that file, opened
unfoldable pub opened_layout : Given → View
opened_layout g = record {
  file = layout_of g;
  tables = record {
    offset_size = size_of g;
    base = record { 0 = base_of g.entries };
    count = length g.entries;
    addrs = header_len;
    offsets = offsets_start g;
    file_count = length g.tables.files;
    files = files_start g;
    strings = record { place = strings_start g; size = length g.tables.strings };
  };
}
