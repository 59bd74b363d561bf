-- A small file, written out, and what it says: where its tables stand, which entry an address has, what an entry says,
-- and the items of a list (RULES, "Header and tables", "Finding the entry" and "Address data list").
-- Assumes nothing.
use Rattle.std.specs.Prelude.{◌≡◌, ℕ, true, false, List, [], ◌∷◌, ◌++◌, Option, Some, None, Ok, Err, map, take}
use Rattle.std.specs.Prelude.{replicate}
use Rattle.gsym_types.specs.declared.Address.{Address}
use Rattle.gsym_types.specs.declared.Refusal.TheVariants.{TooFewBytes, WrongMagic, WrongVersion}
use Rattle.gsym_parser.specs.View.{View}
use Rattle.gsym_parser.specs.Header.{opened_of}
use Rattle.gsym_parser.specs.Search.{find_in, land_of, entries_of, find_of}
use Rattle.gsym_parser.specs.Entries.{symbol_at, info_at, covered_by, file_at}
use Rattle.gsym_parser.specs.Items.{items_of, closed_of}

abbrev four : ℕ → List ℕ
four n = n ∷ 0 ∷ 0 ∷ 0 ∷ []

abbrev magic : List ℕ
magic = 0x4d ∷ 0x59 ∷ 0x53 ∷ 0x47 ∷ []

-- offset size 2, UUID size, base 0x1000, three entries, a string table of 5 bytes at 80, UUID
abbrev pub header : List ℕ
header =
    magic ++ (1 ∷ 0 ∷ 2 ∷ 0x14 ∷ []) ++ (0 ∷ 0x10 ∷ 0 ∷ 0 ∷ 0 ∷ 0 ∷ 0 ∷ 0 ∷ [])
    ++ four 3 ++ four 80 ++ four 5 ++ replicate 20 0x55

-- entries 0, 0x10 and 0x30; two bytes that are skipped; data offsets; one file, its directory at 1 and its name at 3
abbrev pub tables : List ℕ
tables =
    (0 ∷ 0 ∷ 0x10 ∷ 0 ∷ 0x30 ∷ 0 ∷ 0xee ∷ 0xee ∷ []) ++ four 85 ++ four 85 ++ four 200
    ++ four 1 ++ four 1 ++ four 3

abbrev pub strings : List ℕ
strings = 0 ∷ 0x64 ∷ 0 ∷ 0x66 ∷ 0 ∷ []

-- an item of type 1 with two bytes, and the end of the list
abbrev pub list : List ℕ
list = four 1 ++ four 2 ++ (0xaa ∷ 0xbb ∷ []) ++ four 0

-- size 16, and the name at 3
abbrev pub file : List ℕ
file = header ++ tables ++ strings ++ four 16 ++ four 3 ++ list

abbrev pub opened : View
opened = record {
  file = file;
  tables = record {
    offset_size = 2;
    base = record { 0 = 0x1000 };
    count = 3;
    addrs = 48;
    offsets = 56;
    file_count = 1;
    files = 72;
    strings = record { place = 80; size = 5 };
  };
}

abbrev find : ℕ → Option ℕ
find addr = find_of opened (record { 0 = addr })

abbrev at : ℕ → Address
at addr = record { 0 = addr }

-- the same bytes read at another offset size
abbrev pub sized : ℕ → View
sized size = record {
  file = file;
  tables = record {
    offset_size = size;
    base = record { 0 = 0x1000 };
    count = 3;
    addrs = 48;
    offsets = 56;
    file_count = 1;
    files = 72;
    strings = record { place = 80; size = 5 };
  };
}

pub record SmallFile : Type 0 where
  -- it opens; and not, where it is cut, where its magic is read backwards, and where its version is 2
  pub opens : opened_of file ≡ Ok opened
  pub cut :
      map (λ n. opened_of (take n file)) (0 ∷ 5 ∷ 47 ∷ 79 ∷ 84 ∷ [])
      ≡ Err TooFewBytes ∷ Err TooFewBytes ∷ Err TooFewBytes ∷ Err TooFewBytes ∷ Err TooFewBytes ∷ []
  pub magic_first : opened_of (0x47 ∷ 0x53 ∷ 0x59 ∷ 0x4d ∷ []) ≡ Err WrongMagic
  pub version : opened_of (magic ++ (2 ∷ 0 ∷ [])) ≡ Err WrongVersion
  -- the entry of an address: below the base, on each entry, in front of the next, and far above
  pub entries :
      map find (0xfff ∷ 0x1000 ∷ 0x100f ∷ 0x1010 ∷ 0x102f ∷ 0x1030 ∷ 0xffffffffffffffff ∷ [])
      ≡ None ∷ Some 0 ∷ Some 0 ∷ Some 1 ∷ Some 1 ∷ Some 2 ∷ Some 2 ∷ []
  -- of equal entries in a row the first: below them, on them, past them; by the search and counted along the table
  pub runs :
      map (find_in (5 ∷ 5 ∷ 5 ∷ 9 ∷ 9 ∷ [])) (4 ∷ 5 ∷ 8 ∷ 9 ∷ 20 ∷ [])
      ≡ None ∷ Some 0 ∷ Some 0 ∷ Some 3 ∷ Some 3 ∷ []
  pub runs_counted :
      map (land_of (5 ∷ 5 ∷ 5 ∷ 9 ∷ 9 ∷ [])) (4 ∷ 5 ∷ 8 ∷ 9 ∷ 20 ∷ [])
      ≡ None ∷ Some 0 ∷ Some 0 ∷ Some 3 ∷ Some 3 ∷ []
  -- in tables that fall: a run that another entry parts; a first entry that is above; where several are allowed
  pub parted : map (find_in (5 ∷ 5 ∷ 3 ∷ 5 ∷ 5 ∷ [])) (4 ∷ 5 ∷ 7 ∷ []) ≡ None ∷ Some 3 ∷ Some 3 ∷ []
  pub first_above : find_in (9 ∷ 5 ∷ []) 6 ≡ None
  pub several : map (find_in (1 ∷ 1 ∷ 9 ∷ 5 ∷ [])) (6 ∷ 9 ∷ []) ≡ Some 0 ∷ Some 3 ∷ []
  pub symbol : symbol_at opened 1 ≡ record { 0 = 0x1010 }
  -- entries of 1, 4 and 8 bytes, and none of 3
  pub sizes :
      map (λ size. entries_of (sized size)) (1 ∷ 4 ∷ 8 ∷ 3 ∷ [])
      ≡ (0 ∷ 0 ∷ 0x10 ∷ [])
      ∷ (0x100000 ∷ 0xeeee0030 ∷ 85 ∷ [])
      ∷ (0xeeee003000100000 ∷ 0x5500000055 ∷ 0x1000000c8 ∷ [])
      ∷ [] ∷ []
  -- a symbol of size 16 at 0x1000: its last byte, and its end; size 0 far above; below the symbol
  pub covered :
      covered_by (at 0x100f) (at 0x1000) 16 ∷ covered_by (at 0x1010) (at 0x1000) 16
      ∷ covered_by (at 0xffffffffffffffff) (at 0x1000) 0 ∷ covered_by (at 0xfff) (at 0x1000) 0 ∷ []
      ≡ true ∷ false ∷ true ∷ false ∷ []
  -- what the entries say: the third's data offset is past the end, there is no fourth; the one row of the file table
  pub infos :
      map (info_at opened) (1 ∷ 2 ∷ 3 ∷ []) ≡ Some (record { size = 16; name = 3; bytes = list }) ∷ None ∷ None ∷ []
  pub row :
      file_at opened (record { 0 = 0 }) ≡ Some (record { directory = record { 0 = 1 }; filename = record { 0 = 3 } })
  pub no_row : file_at opened (record { 0 = 1 }) ≡ None
  -- the list, and the same cut in front of its end and inside its item
  pub items : items_of list ≡ record { kind = 1; bytes = 0xaa ∷ 0xbb ∷ [] } ∷ []
  pub torn : items_of (take 9 list) ≡ []
  pub ends : map closed_of (list ∷ take 13 list ∷ take 9 list ∷ []) ≡ true ∷ false ∷ false ∷ []
