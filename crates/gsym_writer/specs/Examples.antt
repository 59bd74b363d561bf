-- What comes of contents that are written out (RULES, "Writing a file"): a file with just enough room, each refusal,
-- and which of two comes first. Of what is not of 32 bits the numbers and places stand here, and not the gigabytes.
-- Assumes nothing.
use Rattle.std.specs.Prelude.{◌≡◌, ℕ, true, false, List, [], ◌∷◌, Ok, Err, Result}
use Rattle.std.specs.List.{list_all}
use Rattle.gsym_parser.specs.declared.entries.FileInfo.{FileInfo}
use Rattle.gsym_parser.specs.Items.{ItemData}
use Rattle.gsym_layout.specs.Given.{GivenEntry, Given}
use Rattle.gsym_layout.specs.Examples.{item, entry, file, three}
use Rattle.gsym_layout.specs.Layout.{places_from}
use Rattle.gsym_writer.specs.Number.{error_number}
use Rattle.gsym_writer.specs.Writing.{write_of, is_of_32}
use Rattle.gsym_writer.specs.declared.error.WriteError.{WriteError}
use Rattle.gsym_writer.specs.declared.error.WriteError.TheVariants.{
  NotRising,
  SumTooLarge,
  UnreadName,
  UnreadFile,
  EndItem,
  TooLarge,
  TooLittleRoom,
}

-- the strings: an empty one at 0, m at 1, and at 3 a byte that is no UTF-8
abbrev strings : List ℕ
strings = 0 ∷ 0x6d ∷ 0 ∷ 0xff ∷ 0 ∷ []

abbrev with_files : List FileInfo → List GivenEntry → Given
with_files files entries = record { entries = entries; tables = record { strings = strings; files = files } }

abbrev of_entries : List GivenEntry → Given
of_entries entries = with_files [] entries

-- an entry at an address, of a size, with a name
abbrev named : (addr size name : ℕ) → GivenEntry
named addr size name = entry addr size name []

-- the last address
abbrev top : ℕ
top = 0xffffffffffffffff

-- an item that would end its list
abbrev end : ItemData
end = item 0 []

abbrev outcome : Given → Result ℕ WriteError
outcome g = write_of g 8192

abbrev refused : WriteError → Result ℕ WriteError
refused e = Err e

pub record WriteOutcomes : Type 0 where
  -- a file with just enough room, and with a byte less
  pub written : write_of three 201 ≡ Ok 201
  pub no_room : write_of three 200 ≡ refused (TooLittleRoom 201)
  -- two at one address, and one below the one before it
  pub equal : outcome (of_entries (named 0x1000 1 1 ∷ named 0x1000 1 1 ∷ [])) ≡ refused (NotRising 1)
  pub falls : outcome (of_entries (named 1 1 1 ∷ named 9 1 1 ∷ named 8 1 1 ∷ [])) ≡ refused (NotRising 2)
  -- a symbol that ends at 2^64, and one that ends at 2^64-1
  pub too_large : outcome (of_entries (named 1 1 1 ∷ named top 1 1 ∷ [])) ≡ refused (SumTooLarge 1)
  pub too_large_alone : outcome (of_entries (named top 1 5 ∷ [])) ≡ refused (SumTooLarge 0)
  pub just_fits : outcome (of_entries (named top 0 1 ∷ [])) ≡ Ok 84
  -- a name behind the strings, and one that is not UTF-8, which as a directory reads
  pub unnamed_at_the_top : outcome (of_entries (named top 0 5 ∷ [])) ≡ refused (UnreadName 0)
  pub unnamed : outcome (of_entries (named 1 1 5 ∷ [])) ≡ refused (UnreadName 0)
  pub no_name : outcome (of_entries (named 1 1 1 ∷ named 2 1 3 ∷ [])) ≡ refused (UnreadName 1)
  pub directory : outcome (with_files (file 3 1 ∷ []) []) ≡ Ok 65
  -- a directory that doesn't read, and a file name
  pub no_directory : outcome (with_files (file 5 1 ∷ []) []) ≡ refused (UnreadFile 0)
  pub no_file : outcome (with_files (file 0 0 ∷ file 1 5 ∷ []) []) ≡ refused (UnreadFile 1)
  -- an item of type 0 behind another
  pub ends : outcome (of_entries (entry 1 1 1 (item 9 [] ∷ end ∷ []) ∷ [])) ≡ refused (EndItem 0)
  -- of two refusals the one that RULES has first, in whichever entry
  pub rise_before_sum : outcome (of_entries (named top 1 1 ∷ named top 0 1 ∷ [])) ≡ refused (NotRising 1)
  pub sum_before_name : outcome (of_entries (named 1 1 5 ∷ named top 1 1 ∷ [])) ≡ refused (SumTooLarge 1)
  pub name_before_file :
      outcome (with_files (file 5 5 ∷ []) (named 1 1 1 ∷ named 2 1 5 ∷ [])) ≡ refused (UnreadName 1)
  pub file_before_end :
      outcome (with_files (file 0 0 ∷ file 0 5 ∷ []) (entry 1 1 1 (end ∷ []) ∷ [])) ≡ refused (UnreadFile 1)
  -- 2^32-1 is of 32 bits and 2^32 isn't; data that begin where the file is so long, up to a place divisible by 4
  pub most : is_of_32 0xffffffff ≡ true
  pub above : is_of_32 0x100000000 ≡ false
  pub last_place : list_all is_of_32 (places_from 0xfffffffc (named 1 1 1 ∷ [])) ≡ true
  pub no_place : list_all is_of_32 (places_from 0xfffffffd (named 1 1 1 ∷ [])) ≡ false
  pub end_before_room : write_of (of_entries (entry 1 1 1 (end ∷ []) ∷ [])) 0 ≡ refused (EndItem 0)
  -- the numbers
  pub number_21 : error_number (NotRising 1) ≡ 21
  pub number_22 : error_number (SumTooLarge 1) ≡ 22
  pub number_29 : error_number (UnreadName 1) ≡ 29
  pub number_29_of_file : error_number (UnreadFile 1) ≡ 29
  pub number_30 : error_number (EndItem 1) ≡ 30
  pub number_31 : error_number TooLarge ≡ 31
  pub number_32 : error_number (TooLittleRoom 1) ≡ 32
