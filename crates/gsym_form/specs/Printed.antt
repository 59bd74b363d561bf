-- A file's text (RULES, "A file as text").
-- Assumes nothing.
use Rattle.std.specs.Prelude.{ℕ, ◌+◌, Bool, true, false, ◌&&◌, ◌||◌, nat_le, ◌==◌, if◌then◌else◌, List, [], ◌∷◌, ◌++◌}
use Rattle.std.specs.Prelude.{map, codes, decimal, is_some, Option, Some, None}
use Rattle.std.specs.List.{flat_map, slice_split}
use Rattle.std.specs.Fmt.{digits}
use Rattle.hex.specs.Hex.{encode_lower}
use Rattle.gsym_output.specs.Lines.{text_of}
use Rattle.gsym_types.specs.declared.StrOffset.{StrOffset}
use Rattle.gsym_types.specs.declared.Text.{Text}
use Rattle.gsym_strtab.specs.Strings.{part_of}
use Rattle.gsym_parser.specs.declared.entries.FileInfo.{FileInfo}
use Rattle.gsym_parser.specs.View.{View}
use Rattle.gsym_parser.specs.Items.{ItemData, items_of, closed_of}
use Rattle.gsym_parser.specs.Entries.{EntryInfo, info_at}
use Rattle.gsym_parser.specs.Search.{entries_of}
use Rattle.gsym_parser.specs.Texts.{text_at, name_at}
use Rattle.gsym_resolver.specs.SharedTables.{shared_tables}

-- ---- words

-- a byte of a text: a quote and a backslash behind a backslash, a byte below 32 and from 127 on by its number
abbrev pub text_byte : ℕ → List ℕ
text_byte b =
    if (b == 34) || (b == 92) then 92 ∷ b ∷ []
    else if nat_le 32 b && nat_le b 126 then b ∷ []
    else codes "\\x" ++ encode_lower (b ∷ [])

abbrev pub quoted : List ℕ → List ℕ
quoted bytes = (codes "\"" ++ flat_map text_byte bytes) ++ codes "\""

abbrev pub hexadecimal : ℕ → List ℕ
hexadecimal n = codes "0x" ++ digits 16 false n

-- an offset, and behind it the text where it reads
abbrev pub text_behind : List ℕ → Option Text → List ℕ
text_behind file None = []
text_behind file (Some t) = codes " " ++ quoted (part_of file t.place t.len)

abbrev pub string_shown : List ℕ → StrOffset → Option Text → List ℕ
string_shown file offset t = (codes " " ++ decimal offset.0) ++ text_behind file t

-- ---- the string table: a line for each zero byte, and one for what stands behind the last, or where there is none

abbrev pub string_line : List ℕ → List ℕ
string_line bytes = codes "string " ++ quoted bytes

abbrev pub bytes_line : List ℕ → List ℕ
bytes_line bytes = codes "bytes " ++ quoted bytes

-- what stands before and between the zero bytes, and behind the last
unfoldable pub part_lines : List (List ℕ) → List (List ℕ)
part_lines [] = []
part_lines ([] ∷ []) = []
part_lines ((b ∷ bs) ∷ []) = bytes_line (b ∷ bs) ∷ []
part_lines (part ∷ next ∷ parts) = string_line part ∷ part_lines (next ∷ parts)

unfoldable pub table_lines : List ℕ → List (List ℕ)
table_lines [] = bytes_line [] ∷ []
table_lines (b ∷ bs) = part_lines (slice_split (λ c. c == 0) (b ∷ bs))

-- ---- files

abbrev pub file_line : View → FileInfo → List ℕ
file_line v f =
    (codes "file" ++ string_shown v.file f.directory (text_at v f.directory))
    ++ string_shown v.file f.filename (text_at v f.filename)

-- ---- entries

abbrev pub bytes_behind : List ℕ → List ℕ
bytes_behind [] = []
bytes_behind (b ∷ bs) = codes " " ++ encode_lower (b ∷ bs)

abbrev pub item_line : ItemData → List ℕ
item_line item = (codes "  " ++ decimal item.kind) ++ bytes_behind item.bytes

-- a list that doesn't end in type 0
abbrev pub open_line : List ℕ → List (List ℕ)
open_line bytes = if closed_of bytes then [] else codes "  # the list doesn't end in type 0" ∷ []

abbrev pub item_lines : List ℕ → List (List ℕ)
item_lines bytes = map item_line (items_of bytes) ++ open_line bytes

abbrev pub entry_line : View → ℕ → EntryInfo → List ℕ
entry_line v addr info =
    (((codes "entry " ++ hexadecimal addr) ++ codes " ") ++ decimal info.size)
    ++ string_shown v.file (record { 0 = info.name }) (name_at v (record { 0 = info.name }))

-- an entry whose information doesn't read
abbrev pub info_lines : View → ℕ → Option EntryInfo → List (List ℕ)
info_lines v addr None = ((codes "entry " ++ hexadecimal addr) ++ codes " ?5") ∷ []
info_lines v addr (Some info) = entry_line v addr info ∷ item_lines info.bytes

-- those of the entries from an index on; an address is the base plus the entry, and exact
unfoldable pub entry_lines_from : View → ℕ → List ℕ → List (List ℕ)
entry_lines_from v i [] = []
entry_lines_from v i (e ∷ es) = info_lines v (v.tables.base.0 + e) (info_at v i) ++ entry_lines_from v (i + 1) es

unfoldable pub entry_lines : View → List (List ℕ)
entry_lines v = entry_lines_from v 0 (entries_of v)

-- ---- the text

abbrev pub dump_lines : View → List (List ℕ)
dump_lines v =
    codes "gsym 1"
    ∷ (((table_lines (shared_tables v).strings ++ map (file_line v) (shared_tables v).files) ++ entry_lines v)
    ++ codes "end" ∷ [])

abbrev pub dump_of : View → List ℕ
dump_of v = text_of (dump_lines v)

-- ---- what is answered beside it

-- whether the information of each entry reads, from an index on
unfoldable pub all_read_from : View → ℕ → List ℕ → Bool
all_read_from v i [] = true
all_read_from v i (e ∷ es) = is_some (info_at v i) && all_read_from v (i + 1) es

unfoldable pub all_read : View → Bool
all_read v = all_read_from v 0 (entries_of v)
