-- What is judged before a file is written, in the order of RULES ("Writing a file"): that the entries rise (21), their
-- sums (22), their names and the files' strings (29), the types of their items (30), counts, places and lengths (31),
-- the room (32).
-- Assumes nothing.
use Rattle.std.specs.Prelude.{ℕ, ◌+◌, ◌^◌, ◌==◌, Bool, true, not, ◌&&◌, List, [], ◌∷◌, Option, Some, None, Ok, Result}
use Rattle.std.specs.Prelude.{length, nat_le, nat_lt}
use Rattle.std.specs.List.{list_all}
use Rattle.gsym_reads.specs.Steps.{◌>>◌, need}
use Rattle.gsym_inline.specs.Limits.{most_address}
use Rattle.gsym_parser.specs.declared.entries.FileInfo.{FileInfo}
use Rattle.gsym_parser.specs.Items.{ItemData}
use Rattle.gsym_resolver.specs.SharedTables.{SharedTables, reads_name, reads_text}
use Rattle.gsym_layout.specs.Given.{GivenEntry, Given}
use Rattle.gsym_layout.specs.Layout.{strings_start, places_of, layout_of}
use Rattle.gsym_writer.specs.Ends.{told_len}
use Rattle.gsym_writer.specs.declared.error.WriteError.{WriteError}
use Rattle.gsym_writer.specs.declared.error.WriteError.TheVariants.{
  NotRising,
  SumTooLarge,
  UnreadName,
  UnreadFile,
  EndItem,
  TooLarge,
  TooLittleRoom,
}

-- whether one is above the one before it, if there is one
abbrev pub is_above : Option ℕ → ℕ → Bool
is_above None addr = true
is_above (Some before) addr = nat_lt before addr

-- entries, of which the first has the index i, with the address before them: the lowest that isn't above is told
unfoldable pub rising : Option ℕ → ℕ → List GivenEntry → Result (Unit {0}) WriteError
rising before i [] = Ok tt
rising before i (e ∷ es) = do
  need (is_above before e.addr.0) (NotRising i)
  rising (Some e.addr.0) (i + 1) es

-- things, of which the first has the index i: the lowest that doesn't pass is told
unfoldable pub all_pass : {A : Type 0} → (A → Bool) → (ℕ → WriteError) → ℕ → List A → Result (Unit {0}) WriteError
all_pass passes error i [] = Ok tt
all_pass passes error i (x ∷ xs) = do
  need (passes x) (error i)
  all_pass passes error (i + 1) xs

-- ---- what is asked of an entry, of a file, of all

abbrev pub sum_fits : GivenEntry → Bool
sum_fits e = nat_le (e.addr.0 + e.size) most_address

abbrev pub name_reads : SharedTables → GivenEntry → Bool
name_reads t e = reads_name t e.name

abbrev pub file_reads : SharedTables → FileInfo → Bool
file_reads t f = reads_text t f.directory && reads_text t f.filename

abbrev pub no_end : ItemData → Bool
no_end item = not (item.kind == 0)

abbrev pub has_no_end : GivenEntry → Bool
has_no_end e = list_all no_end e.items

abbrev pub is_of_32 : ℕ → Bool
is_of_32 n = nat_lt n (2 ^ 32)

-- the lengths of an entry's items
abbrev pub lengths_fit : GivenEntry → Bool
lengths_fit e = list_all (λ (item : ItemData). is_of_32 (length item.bytes)) e.items

-- counts, and the string table's place and size
unfoldable pub counts_of_32 : Given → Bool
counts_of_32 g =
    is_of_32 (length g.entries) && is_of_32 (length g.tables.files)
    && is_of_32 (strings_start g) && is_of_32 (length g.tables.strings)

-- these, the places of data and the lengths of items
unfoldable pub all_of_32 : Given → Bool
all_of_32 g = counts_of_32 g && list_all is_of_32 (places_of g) && list_all lengths_fit g.entries

-- ---- the whole

-- what is judged of addresses, strings and types
unfoldable pub said_judged : Given → Result (Unit {0}) WriteError
said_judged g = do
  rising None 0 g.entries
  all_pass sum_fits SumTooLarge 0 g.entries
  all_pass (name_reads g.tables) UnreadName 0 g.entries
  all_pass (file_reads g.tables) UnreadFile 0 g.tables.files
  all_pass has_no_end EndItem 0 g.entries

unfoldable pub judged : Given → Result (Unit {0}) WriteError
judged g = do
  said_judged g
  need (all_of_32 g) TooLarge

-- how many bytes are written to so much room
unfoldable pub write_of : Given → (room : ℕ) → Result ℕ WriteError
write_of g room = do
  judged g
  need (nat_le (length (layout_of g)) room) (TooLittleRoom (told_len (length (layout_of g))))
  Ok (length (layout_of g))
