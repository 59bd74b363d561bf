-- Parts of a file that one function writes (RULES, "Writing a file"): together they are the layout.
-- Assumes nothing.
use Rattle.std.specs.Prelude.{ℕ, ◌+◌, ◌-◌, List, [], ◌∷◌, ◌++◌, map, length}
use Rattle.std.specs.Int.{w16, w32, w64, to_le_bytes, next_multiple_of}
use Rattle.std.specs.List.{flat_map}
use Rattle.gsym_parser.specs.declared.entries.FileInfo.{FileInfo}
use Rattle.gsym_parser.specs.Format.{magic_number, version_number}
use Rattle.gsym_parser.specs.Search.{width_of}
use Rattle.gsym_layout.specs.Given.{GivenEntry}
use Rattle.gsym_layout.specs.Layout.{Head, row_bytes, zeros, numbers, places_from}

-- of each entry the address less a base
abbrev pub addresses_less : ℕ → List GivenEntry → List ℕ
addresses_less base es = map (λ (e : GivenEntry). e.addr.0 - base) es

-- the header up to the base
abbrev pub front_bytes : Head → List ℕ
front_bytes h =
    to_le_bytes w32 magic_number ++ to_le_bytes w16 version_number ++ (h.offset_size ∷ 0 ∷ [])
    ++ to_le_bytes w64 h.base.0

-- from a place on the address table and the places of data, which begin where the file is so long up to them
unfoldable pub index_bytes : (at size base start : ℕ) → List GivenEntry → List ℕ
index_bytes at size base start es =
    numbers (width_of size) (addresses_less base es)
    ++ zeros (next_multiple_of (at + length (numbers (width_of size) (addresses_less base es))) 4
    - (at + length (numbers (width_of size) (addresses_less base es))))
    ++ numbers w32 (places_from start es)

-- file count, files and strings
unfoldable pub shared_bytes : List FileInfo → (strings : List ℕ) → List ℕ
shared_bytes files strings = to_le_bytes w32 (length files) ++ flat_map row_bytes files ++ strings
