-- A small file, written out, and whole lookups of it: what each option, a larger address and less room change; and of
-- files with other items, in which a number is too wide or is cut.
--
--   at     bytes                        what
--   0      48                           header: offset size 2, base 0x1000, one entry, strings at 84
--   48     2, 2                         entry 0; two bytes that are skipped
--   52     4, 4                         data offset 101; three files
--   60     3 times 8                    directory d with the file names x, y, z
--   84     17                           the strings m, f, g, h, d, x, y, z
--   101    8                            size 0x20, name m
--   109    9, 40, 14, 4                 an item that is passed over, an inline tree, a line table, type 0
--
-- The tree is a root f, below it g, called in file 0, line 10, and below that h, called in file 2, line 20. The table
-- has one row, of file 1 and line 100.
-- Assumes nothing.
use Rattle.std.specs.Prelude.{◌≡◌, ℕ, Bool, true, false, List, [], ◌∷◌, ◌++◌, Option, Some, None, Result, Ok, Err}
use Rattle.std.specs.Prelude.{replicate, length}
use Rattle.gsym_types.specs.declared.Frame.{Frame}
use Rattle.gsym_types.specs.declared.Position.{Position}
use Rattle.gsym_types.specs.declared.Refusal.{Refusal}
use Rattle.gsym_types.specs.declared.Refusal.TheVariants.{UnknownAddress, UnreadLineHeader, UnreadInline, TooManyFrames}
use Rattle.gsym_types.specs.declared.Refusal.TheVariants.{TooWide}
use Rattle.gsym_types.specs.declared.Text.{Text}
use Rattle.gsym_resolver.specs.Lookup.{LookedUp, lookup_of}

abbrev four : ℕ → List ℕ
four n = n ∷ 0 ∷ 0 ∷ 0 ∷ []

abbrev header : List ℕ
header =
    (0x4d ∷ 0x59 ∷ 0x53 ∷ 0x47 ∷ 1 ∷ 0 ∷ 2 ∷ 0x14 ∷ []) ++ (0 ∷ 0x10 ∷ 0 ∷ 0 ∷ 0 ∷ 0 ∷ 0 ∷ 0 ∷ [])
    ++ four 1 ++ four 84 ++ four 17 ++ replicate 20 0x55

abbrev tables : List ℕ
tables =
    (0 ∷ 0 ∷ 0xee ∷ 0xee ∷ []) ++ four 101 ++ four 3 ++ four 9 ++ four 11 ++ four 9 ++ four 13 ++ four 9 ++ four 15

-- m at 1, f at 3, g at 5, h at 7, d at 9, x at 11, y at 13, z at 15
abbrev strings : List ℕ
strings =
    0 ∷ 0x6d ∷ 0 ∷ 0x66 ∷ 0 ∷ 0x67 ∷ 0 ∷ 0x68 ∷ 0 ∷ 0x64 ∷ 0 ∷ 0x78 ∷ 0 ∷ 0x79 ∷ 0 ∷ 0x7a ∷ 0 ∷ []

-- f on 0x1000 to 0x101f, g on 0x1004 to 0x100b, h on 0x1004 to 0x1007
abbrev tree : List ℕ
tree =
    (1 ∷ 0 ∷ 0x20 ∷ 1 ∷ 3 ∷ 0 ∷ 0 ∷ 0 ∷ 0 ∷ 0 ∷ []) ++ (1 ∷ 4 ∷ 8 ∷ 1 ∷ 5 ∷ 0 ∷ 0 ∷ 0 ∷ 0 ∷ 10 ∷ [])
    ++ (1 ∷ 0 ∷ 4 ∷ 0 ∷ 7 ∷ 0 ∷ 0 ∷ 0 ∷ 2 ∷ 20 ∷ []) ++ (0 ∷ 0 ∷ [])

-- min -4, max 10, first line 100; a row at the symbol's address; the end
abbrev table : List ℕ
table = 0x7c ∷ 0x0a ∷ 0x64 ∷ 2 ∷ 0 ∷ 0 ∷ []

abbrev items : List ℕ
items = four 9 ++ four 1 ++ (0xff ∷ []) ++ four 2 ++ four 32 ++ tree ++ four 1 ++ four 6 ++ table ++ four 0

abbrev file_with : List ℕ → List ℕ
file_with said = header ++ tables ++ strings ++ four 0x20 ++ four 1 ++ said

abbrev pub file : List ℕ
file = file_with items

-- nine bytes that ask for another, and then one
abbrev ten : ℕ → List ℕ
ten last = replicate 9 0x80 ++ (last ∷ [])

-- an item, and the end of the list
abbrev alone : (kind : ℕ) → List ℕ → List ℕ
alone kind s = four kind ++ four (length s) ++ s ++ four 0

-- the text of one byte at a place, and a line of a file name at a place, in d
abbrev letter : ℕ → Text
letter place = record { place = place; len = 1 }

abbrev line : (place line : ℕ) → Position
line place n = record { dir = letter 93; file = letter place; line = record { 0 = n } }

-- an answer of the symbol at 0x1000, of 0x20 bytes
abbrev found : (name : ℕ) → Option Position → (count : ℕ) → List Frame → Result LookedUp Refusal
found name p count fs = Ok (record {
  answer = record { addr = record { 0 = 0x1000 }; name = letter name; position = p; count = count; size = 0x20 };
  frames = fs;
})

abbrev looked_up_in : List ℕ → (inlining : Bool) → Result LookedUp Refusal
looked_up_in said inlining =
    lookup_of (file_with said) (record { 0 = 0x1005 }) (record { code_info = true; inlining = inlining }) 64

abbrev looked_up_with : (code inlining : Bool) → (room addr : ℕ) → Result LookedUp Refusal
looked_up_with code inlining room addr =
    lookup_of file (record { 0 = addr }) (record { code_info = code; inlining = inlining }) room

pub record WholeLookups : Type 0 where
  -- in h: the name is f's, positions move up one, and g and h are records
  pub innermost :
      looked_up_with true true 64 0x1005
      ≡ found 87 (Some (line 95 10)) 2
      (record { name = letter 89; position = line 99 20 } ∷ record { name = letter 91; position = line 97 100 } ∷ [])
  -- in g alone
  pub middle :
      looked_up_with true true 64 0x1009
      ≡ found 87 (Some (line 95 10)) 1 (record { name = letter 89; position = line 97 100 } ∷ [])
  -- in f alone: the row's position, and no record
  pub outermost : looked_up_with true true 64 0x1010 ≡ found 87 (Some (line 97 100)) 0 []
  -- without inlining the name is the symbol's own, without code info there is no position, whatever else is asked for
  pub no_inlining : looked_up_with true false 64 0x1005 ≡ found 85 (Some (line 97 100)) 0 []
  pub no_code_info : looked_up_with false true 64 0x1005 ≡ found 85 None 0 []
  pub neither : looked_up_with false false 64 0x1005 ≡ found 85 None 0 []
  -- three frames in room for three, and for two
  pub enough_room : looked_up_with true true 3 0x1005 ≡ looked_up_with true true 64 0x1005
  pub too_little_room : looked_up_with true true 2 0x1005 ≡ Err TooManyFrames
  -- past the symbol's end, and below the base
  pub past_the_end : looked_up_with true true 64 0x1020 ≡ Err UnknownAddress
  pub below_the_base : looked_up_with true true 64 0xfff ≡ Err UnknownAddress
  -- a max of 2^63 in a line table's header, asked with inlining and without; and one without its tenth byte
  pub wide_max : looked_up_in (alone 1 (0 ∷ ten 1)) true ≡ Err TooWide
  pub wide_max_alone : looked_up_in (alone 1 (0 ∷ ten 1)) false ≡ Err TooWide
  pub cut_max : looked_up_in (alone 1 (0 ∷ replicate 9 0x80)) true ≡ Err UnreadLineHeader
  -- a range count of 2^64 in a tree, which is not read without inlining; and one without its tenth byte
  pub wide_count : looked_up_in (alone 2 (ten 2)) true ≡ Err TooWide
  pub wide_count_unread : looked_up_in (alone 2 (ten 2)) false ≡ found 85 None 0 []
  pub cut_count : looked_up_in (alone 2 (replicate 9 0x80)) true ≡ Err UnreadInline
  -- an operand of 2^64 behind a row ends the program, and so does one without its tenth byte
  pub wide_operand :
      looked_up_in (alone 1 ((0x7c ∷ 0x0a ∷ 0x64 ∷ 2 ∷ 0 ∷ 1 ∷ []) ++ ten 2)) true ≡ found 85 (Some (line 97 100)) 0 []
  pub cut_operand :
      looked_up_in (alone 1 ((0x7c ∷ 0x0a ∷ 0x64 ∷ 2 ∷ 0 ∷ 1 ∷ []) ++ replicate 9 0x80)) true
      ≡ found 85 (Some (line 97 100)) 0 []
