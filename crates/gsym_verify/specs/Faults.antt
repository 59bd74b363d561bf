-- What a check finds first (RULES, "Checking a file"): of the tables, then of the lowest entry that is faulty, and
-- there what comes first in the order of RULES.
-- Assumes nothing.
use Rattle.std.specs.Prelude.{◌≡◌, ℕ, ◌+◌, ◌<◌, ◌≤◌, suc, true, false, Bool, List, Some, None, Ok, slice_index}
use Rattle.std.specs.List.{All}
use Rattle.gsym_types.specs.declared.Address.{Address}
use Rattle.gsym_types.specs.declared.Refusal.{Refusal}
use Rattle.gsym_types.specs.declared.Refusal.TheVariants as refused
use Rattle.gsym_leb128.specs.declared.Cause.{Cause}
use Rattle.gsym_linetab.specs.Endings.{LineStops}
use Rattle.gsym_linetab.specs.Unread.{IsUnread, header_refusal}
use Rattle.gsym_inline.specs.Limits.{most_address}
use Rattle.gsym_inline.specs.Steps.{check_steps}
use Rattle.gsym_inline.specs.FirstFault.{FirstFault}
use Rattle.gsym_parser.specs.View.{View}
use Rattle.gsym_parser.specs.Header.{opened_of}
use Rattle.gsym_parser.specs.Unopened.{Unopened}
use Rattle.gsym_parser.specs.Items.{ItemData}
use Rattle.gsym_parser.specs.Search.{is_width, entries_of}
use Rattle.gsym_resolver.specs.EntryData.{EntryData, data_at}
use Rattle.gsym_resolver.specs.Known.{line_table, inline_info}
use Rattle.gsym_resolver.specs.Met.{First}
use Rattle.gsym_resolver.specs.SharedTables.{SharedTables, shared_tables, HasName}
use Rattle.gsym_verify.specs.Good.{GoodItem, GoodEntry, start_of}
use Rattle.gsym_verify.specs.declared.finding.Fault.{Fault}
use Rattle.gsym_verify.specs.declared.finding.Fault.TheVariants.{FallingTable, SumTooLarge, StoppedProgram, OpenList}
use Rattle.gsym_verify.specs.declared.finding.Fault.TheVariants.{Refused}
use Rattle.gsym_verify.specs.declared.finding.Finding.{Finding}
use Rattle.gsym_verify.specs.declared.finding.Finding.TheVariants.{Tables, OffsetSize, Entry}

-- ---- an item

-- a line table's header doesn't read (9; 15 for a number that is too wide), or its program is stopped (23)
pub data LineFault (symbol : Address) (bytes : List ℕ) : Fault → Type 0 where
  no_header : (c : Cause) → IsUnread bytes 0 c → LineFault symbol bytes (Refused (header_refusal c))
  stopped : LineStops symbol bytes → LineFault symbol bytes StoppedProgram

-- an inline tree's first fault in reading order, where each node is judged (10 to 13, 15)
pub data ItemFault (symbol : Address) (item : ItemData) : Fault → Type 0 where
  in_line : {f : Fault} → item.kind ≡ line_table → LineFault symbol item.bytes f → ItemFault symbol item f
  in_tree : {r : Refusal} → item.kind ≡ inline_info → FirstFault 0 (check_steps symbol.0 item.bytes) r →
      ItemFault symbol item (Refused r)

-- the first item that is faulty; else the list doesn't end in type 0 (24)
pub data ListFault (symbol : Address) (items : List ItemData) (closed : Bool) : Fault → Type 0 where
  in_item : {f : Fault} → First (GoodItem symbol) (λ item. ItemFault symbol item f) items →
      ListFault symbol items closed f
  open_list : All (GoodItem symbol) items → closed ≡ false → ListFault symbol items closed OpenList

-- ---- an entry

-- what it says of the symbol at an address: the sum (22), the name (6), the list
pub data DataFault (shared : SharedTables) (symbol : ℕ) (said : EntryData) : Fault → Type 0 where
  sum_too_large : most_address < symbol + said.size → DataFault shared symbol said SumTooLarge
  unnamed : symbol + said.size ≤ most_address → (HasName shared said.name → ⊥) →
      DataFault shared symbol said (Refused refused.UnreadName)
  in_list : {f : Fault} → symbol + said.size ≤ most_address → HasName shared said.name →
      ListFault (record { 0 = symbol }) said.items said.closed f → DataFault shared symbol said f

-- an entry isn't below the one before it, if there is one
abbrev pub NotBelow : View → ℕ → Type 0
NotBelow v i = (j : ℕ) → i ≡ suc j → slice_index (entries_of v) j ≤ slice_index (entries_of v) i

-- that it is below comes first (21), then its information (5), then what that says
pub data EntryFault (v : View) (i : ℕ) : Fault → Type 0 where
  falls : (j : ℕ) → i ≡ suc j → slice_index (entries_of v) i < slice_index (entries_of v) j →
      EntryFault v i FallingTable
  no_info : NotBelow v i → data_at v i ≡ None → EntryFault v i (Refused refused.UnreadInfo)
  in_data : {f : Fault} → NotBelow v i → (said : EntryData) → data_at v i ≡ Some said →
      DataFault (shared_tables v) (start_of v i) said f → EntryFault v i f

-- ---- a file

-- it doesn't open (2, 3, 4); its offset size (20); the lowest entry that is faulty, of which all before it are good
pub data IsFirstFault (file : List ℕ) : Finding → Type 0 where
  unopened : {r : Refusal} → Unopened file r → IsFirstFault file (Tables r)
  offset_size : (v : View) → opened_of file ≡ Ok v → is_width v.tables.offset_size ≡ false →
      IsFirstFault file OffsetSize
  in_entry : {i : ℕ} {f : Fault} (v : View) → opened_of file ≡ Ok v → is_width v.tables.offset_size ≡ true →
      i < v.tables.count → ((j : ℕ) → j < i → NotBelow v j × GoodEntry v j) → EntryFault v i f →
      IsFirstFault file (Entry i f)
