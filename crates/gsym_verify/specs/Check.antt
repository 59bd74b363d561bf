-- The check of a whole file, in the order of RULES ("Checking a file"): opening (2, 3, 4), the offset size (20), and of
-- each entry that it isn't below the one before it (21), its information (5), its sum (22), its name (6), the items of
-- its list in their order (9 to 13, 15, 23), and the list's end (24).
-- Assumes nothing.
use Rattle.std.specs.Prelude.{ℕ, ◌+◌, Bool, true, List, [], ◌∷◌, Option, Some, None, Ok, Err, Result, ◌==◌, nat_le}
use Rattle.std.specs.Prelude.{is_some, if◌then◌else◌}
use Rattle.gsym_reads.specs.Steps.{◌>>=◌, ◌>>◌, need, given, told}
use Rattle.gsym_types.specs.declared.Address.{Address}
use Rattle.gsym_types.specs.declared.Refusal.TheVariants as refused
use Rattle.gsym_strtab.specs.Strings.{name_in}
use Rattle.gsym_linetab.specs.declared.Ending.{Ending}
use Rattle.gsym_linetab.specs.declared.Ending.TheVariants.{EndSequence, Stopped, UsedUp}
use Rattle.gsym_linetab.specs.Endings.{ending_of}
use Rattle.gsym_linetab.specs.Unread.{header_refusal}
use Rattle.gsym_inline.specs.Limits.{most_address}
use Rattle.gsym_inline.specs.Checked.{checked_tree}
use Rattle.gsym_parser.specs.Header.{opened_of}
use Rattle.gsym_parser.specs.Items.{ItemData}
use Rattle.gsym_parser.specs.Search.{is_width}
use Rattle.gsym_resolver.specs.EntryData.{EntryData}
use Rattle.gsym_resolver.specs.Known.{line_table, inline_info}
use Rattle.gsym_verify.specs.Content.{EntryContent, Content, content_of}
use Rattle.gsym_verify.specs.declared.finding.Fault.{Fault}
use Rattle.gsym_verify.specs.declared.finding.Fault.TheVariants.{FallingTable, SumTooLarge, StoppedProgram, OpenList}
use Rattle.gsym_verify.specs.declared.finding.Fault.TheVariants.{Refused}
use Rattle.gsym_verify.specs.declared.finding.Finding.{Finding}
use Rattle.gsym_verify.specs.declared.finding.Finding.TheVariants.{Tables, OffsetSize, Entry}

-- ---- an item

-- how a line program ended: at opcode 0 or with its bytes, or it was stopped
abbrev pub ended_well : Ending → Result (Unit {0}) Fault
ended_well (EndSequence n) = Ok tt
ended_well Stopped = Err StoppedProgram
ended_well UsedUp = Ok tt

abbrev pub line_checked : Address → List ℕ → Result (Unit {0}) Fault
line_checked symbol bytes = told (λ c. Refused (header_refusal c)) (ending_of bytes symbol) >>= ended_well

-- types 1 and 2 are judged, each item of them, and no others
unfoldable pub item_checked : Address → ItemData → Result (Unit {0}) Fault
item_checked symbol item =
    if item.kind == line_table then line_checked symbol item.bytes
    else if item.kind == inline_info then told Refused (checked_tree symbol.0 item.bytes) else Ok tt

-- a list: its items in their order, and then whether it ends in type 0
unfoldable pub list_checked : Address → List ItemData → Bool → Result (Unit {0}) Fault
list_checked symbol [] closed = need closed OpenList
list_checked symbol (item ∷ items) closed = do
  item_checked symbol item
  list_checked symbol items closed

-- ---- an entry

-- an entry is not below the one before it, if there is one
abbrev pub is_not_below : Option ℕ → ℕ → Bool
is_not_below None symbol = true
is_not_below (Some before) symbol = nat_le before symbol

-- whether a name reads
abbrev pub has_name : List ℕ → ℕ → Bool
has_name strings name = is_some (name_in strings name)

-- what an entry says of the symbol at an address
unfoldable pub data_checked : List ℕ → ℕ → EntryData → Result (Unit {0}) Fault
data_checked strings symbol said = do
  need (nat_le (symbol + said.size) most_address) SumTooLarge
  need (has_name strings said.name.0) (Refused refused.UnreadName)
  list_checked (record { 0 = symbol }) said.items said.closed

-- an entry, with the symbol's address of the one before it
unfoldable pub entry_checked : List ℕ → Option ℕ → EntryContent → Result (Unit {0}) Fault
entry_checked strings before e = do
  need (is_not_below before e.symbol) FallingTable
  said ← given (Refused refused.UnreadInfo) e.says
  data_checked strings e.symbol said

-- ---- a file

-- entries, of which the first has the index i: the lowest that is faulty is told, with its first fault
unfoldable pub entries_checked : List ℕ → Option ℕ → ℕ → List EntryContent → Result (Unit {0}) Finding
entries_checked strings before i [] = Ok tt
entries_checked strings before i (e ∷ es) = do
  told (Entry i) (entry_checked strings before e)
  entries_checked strings (Some e.symbol) (i + 1) es

-- behind the faults of the tables a check is one of what the file says
unfoldable pub content_checked : Content → Result (Unit {0}) Finding
content_checked c = entries_checked c.strings None 0 c.entries

unfoldable pub check_of : List ℕ → Result (Unit {0}) Finding
check_of file = do
  v ← told Tables (opened_of file)
  need (is_width v.tables.offset_size) OffsetSize
  content_checked (content_of v)
