-- Checks of files that are written out, byte for byte (RULES, "Checking a file"): one that passes, and what is found
-- where it is cut, where a few of its bytes are others, and where its first entry has other items.
--
--   at     bytes                        what
--   0      48                           header: offset size 2, base 0x1000, two entries, strings at 64
--   48     4                            entries 0 and 0x20
--   52     8, 4                         data offsets 67 and 122; no files
--   64     3                            the strings: an empty one at 0, m at 1
--   67     8                            size 0x20, name m
--   75     14, 29, 4                    a line table, an inline tree, type 0 without its length
--   122    8                            size 0x10, name m
--   130    9, 4                         an item that is passed over, type 0 without its length
--
-- With other items what follows these moves with them.
-- Assumes nothing.
use Rattle.std.specs.Prelude.{◌≡◌, ℕ, zero, suc, ◌+◌, ◌/◌, ◌%◌, List, [], ◌∷◌, ◌++◌, Result, Ok, Err, length, replicate}
use Rattle.std.specs.Prelude.{take, drop}
use Rattle.gsym_types.specs.declared.Refusal.TheVariants.{
  TooFewBytes,
  WrongMagic,
  WrongVersion,
  UnreadInfo,
  UnreadName,
  UnreadLineHeader,
  UnreadInline,
  InlineSumTooLarge,
  CallFileTooLarge,
  TooDeep,
  TooWide,
}
use Rattle.gsym_verify.specs.Check.{check_of}
use Rattle.gsym_verify.specs.declared.finding.Fault.TheVariants.{FallingTable, SumTooLarge, StoppedProgram, OpenList}
use Rattle.gsym_verify.specs.declared.finding.Fault.TheVariants.{Refused}
use Rattle.gsym_verify.specs.declared.finding.Finding.{Finding}
use Rattle.gsym_verify.specs.declared.finding.Finding.TheVariants.{Tables, OffsetSize, Entry}

abbrev four : ℕ → List ℕ
four n = n ∷ 0 ∷ 0 ∷ 0 ∷ []

-- magic, version, offset size, UUID size; base 0x1000; entry count, string table; UUID
abbrev header : (offset_size count strings_size : ℕ) → List ℕ
header w n size =
    (0x4d ∷ 0x59 ∷ 0x53 ∷ 0x47 ∷ 1 ∷ 0 ∷ w ∷ 0x14 ∷ []) ++ (0 ∷ 0x10 ∷ 0 ∷ 0 ∷ 0 ∷ 0 ∷ 0 ∷ 0 ∷ [])
    ++ four n ++ four 64 ++ four size ++ replicate 20 0x55

-- min -4, max 10, first line 100; a row; the end
abbrev table : List ℕ
table = 0x7c ∷ 0x0a ∷ 0x64 ∷ 2 ∷ 0 ∷ 0 ∷ []

-- a root on 0x20 bytes from the symbol on, and in it a child on 8 bytes from the fourth on
abbrev tree : List ℕ
tree =
    (1 ∷ 0 ∷ 0x20 ∷ 1 ∷ 1 ∷ 0 ∷ 0 ∷ 0 ∷ 0 ∷ 0 ∷ []) ++ (1 ∷ 4 ∷ 8 ∷ 0 ∷ 1 ∷ 0 ∷ 0 ∷ 0 ∷ 0 ∷ 10 ∷ []) ++ (0 ∷ [])

-- a root on no byte, so that no lookup judges what is below it: a child with the call file 2^32
abbrev out_of_reach : List ℕ
out_of_reach =
    (1 ∷ 0 ∷ 0 ∷ 1 ∷ 1 ∷ 0 ∷ 0 ∷ 0 ∷ 0 ∷ 0 ∷ [])
    ++ (1 ∷ 0 ∷ 0 ∷ 0 ∷ 1 ∷ 0 ∷ 0 ∷ 0 ∷ 0x80 ∷ 0x80 ∷ 0x80 ∷ 0x80 ∷ 0x10 ∷ 0 ∷ []) ++ (0 ∷ [])

-- nine bytes that ask for another, and then one
abbrev ten : ℕ → List ℕ
ten last = replicate 9 0x80 ++ (last ∷ [])

-- nodes one below the other, on so many levels
unfoldable pub levels : ℕ → List ℕ → List ℕ
levels zero s = s
levels (suc n) s = (1 ∷ 0 ∷ 0 ∷ 1 ∷ 0 ∷ 0 ∷ 0 ∷ 0 ∷ 0 ∷ 0 ∷ []) ++ levels n (0 ∷ s)

-- type and length, and the bytes of an item
abbrev item : (kind : ℕ) → List ℕ → List ℕ
item kind s = four kind ++ (length s % 256 ∷ length s / 256 ∷ 0 ∷ 0 ∷ []) ++ s

-- a file whose first entry has these items
abbrev file_with : List ℕ → List ℕ
file_with items =
    header 2 2 3 ++ (0 ∷ 0 ∷ 0x20 ∷ 0 ∷ []) ++ four 67
    ++ ((79 + length items) % 256 ∷ (79 + length items) / 256 ∷ 0 ∷ 0 ∷ []) ++ four 0
    ++ (0 ∷ 0x6d ∷ 0 ∷ []) ++ four 0x20 ++ four 1 ++ items ++ four 0
    ++ four 0x10 ++ four 1 ++ item 9 (0xff ∷ []) ++ four 0

abbrev file : List ℕ
file = file_with (item 1 table ++ item 2 tree)

-- no entries, no files, no strings; bytes behind them
abbrev empty : (offset_size : ℕ) → List ℕ
empty w = header w 0 0 ++ replicate 16 0

-- another byte at a place
abbrev changed : (place byte : ℕ) → List ℕ → List ℕ
changed place byte s = take place s ++ byte ∷ drop (place + 1) s

-- the base 2^64 - 0x30, so that the second symbol ends at 2^64
abbrev at_the_top : List ℕ
at_the_top = take 8 file ++ (0xd0 ∷ replicate 7 0xff) ++ drop 16 file

abbrev found : Finding → Result (Unit {0}) Finding
found f = Err f

pub record CheckedFiles : Type 0 where
  pub passes : check_of file ≡ Ok tt
  -- tables: a byte of the header is missing, another magic, another version
  pub cut : check_of (take 47 file) ≡ found (Tables TooFewBytes)
  pub other_magic : check_of (changed 0 0x4c file) ≡ found (Tables WrongMagic)
  pub other_version : check_of (changed 4 2 file) ≡ found (Tables WrongVersion)
  -- a file of no entries passes, but not with the offset size 3
  pub no_entries : check_of (empty 4) ≡ Ok tt
  pub odd_width : check_of (empty 3) ≡ found OffsetSize
  -- the second entry is the same as the first, and below it
  pub equal : check_of (changed 50 0 file) ≡ Ok tt
  pub falls : check_of (changed 48 0x30 file) ≡ found (Entry 1 FallingTable)
  -- the second's data are seven bytes
  pub no_info : check_of (changed 56 136 file) ≡ found (Entry 1 (Refused UnreadInfo))
  -- the second ends at 2^64, and at 2^64-1
  pub too_large : check_of at_the_top ≡ found (Entry 1 SumTooLarge)
  pub just_fits : check_of (changed 122 0x0f at_the_top) ≡ Ok tt
  -- the first's name starts where the strings end
  pub unnamed : check_of (changed 71 3 file) ≡ found (Entry 0 (Refused UnreadName))
  -- its line table has two bytes of the header; an opcode without its operand; no opcode
  pub no_header : check_of (changed 79 2 file) ≡ found (Entry 0 (Refused UnreadLineHeader))
  pub stopped : check_of (changed 79 4 file) ≡ found (Entry 0 StoppedProgram)
  -- a special opcode where max is min less 1
  pub no_range : check_of (changed 84 0x7b (changed 86 4 file)) ≡ found (Entry 0 StoppedProgram)
  -- a program that ends with its bytes, and one behind whose opcode 0 a byte stands
  pub used_up : check_of (file_with (item 1 (take 5 table))) ≡ Ok tt
  pub behind_the_end : check_of (file_with (item 1 (table ++ 4 ∷ []))) ≡ Ok tt
  -- its tree lacks its end; its child ends above 2^64-1
  pub no_end : check_of (changed 117 1 file) ≡ found (Entry 0 (Refused UnreadInline))
  pub child_too_large :
      check_of (changed 109 0x2c (changed 122 0x0f at_the_top)) ≡ found (Entry 0 (Refused InlineSumTooLarge))
  pub child_just_fits : check_of (changed 109 0x2b (changed 122 0x0f at_the_top)) ≡ Ok tt
  -- a call file below a node that no lookup opens; nodes on level 65, and on level 64
  pub not_reached : check_of (file_with (item 2 out_of_reach)) ≡ found (Entry 0 (Refused CallFileTooLarge))
  pub too_deep : check_of (file_with (item 2 (levels 65 []))) ≡ found (Entry 0 (Refused TooDeep))
  pub deep : check_of (file_with (item 2 (levels 64 (0 ∷ [])))) ≡ Ok tt
  -- a max of 2^63 in a line table's header, and one without its tenth byte; a range count of 2^64, and one without it;
  -- an operand of 2^64
  pub wide_max : check_of (file_with (item 1 (0 ∷ ten 1))) ≡ found (Entry 0 (Refused TooWide))
  pub cut_max : check_of (file_with (item 1 (0 ∷ replicate 9 0x80))) ≡ found (Entry 0 (Refused UnreadLineHeader))
  pub wide_count : check_of (file_with (item 2 (ten 2))) ≡ found (Entry 0 (Refused TooWide))
  pub cut_count : check_of (file_with (item 2 (replicate 9 0x80))) ≡ found (Entry 0 (Refused UnreadInline))
  pub wide_operand : check_of (file_with (item 1 (take 3 table ++ 2 ∷ ten 2))) ≡ found (Entry 0 StoppedProgram)
  -- a second line table and a second tree, which no lookup reads
  pub second_table : check_of (file_with (item 1 table ++ item 1 (take 2 table)))
      ≡ found (Entry 0 (Refused UnreadLineHeader))
  pub second_tree : check_of (file_with (item 1 table ++ item 2 tree ++ item 2 (take 20 tree)))
      ≡ found (Entry 0 (Refused UnreadInline))
  -- of two items that are faulty the first is told
  pub first_item : check_of (file_with (item 2 (take 20 tree) ++ item 1 (take 2 table)))
      ≡ found (Entry 0 (Refused UnreadInline))
  -- the last list lacks a byte of type 0
  pub not_closed : check_of (take 142 file) ≡ found (Entry 1 OpenList)
  -- of faults in both entries the first entry's is told, and of two in one entry the one that RULES has first
  pub lower_entry : check_of (changed 117 1 (changed 48 0x30 file)) ≡ found (Entry 0 (Refused UnreadInline))
  pub sum_before_name : check_of (changed 126 3 at_the_top) ≡ found (Entry 1 SumTooLarge)
  pub fall_before_information : check_of (changed 48 0x30 (changed 56 136 file)) ≡ found (Entry 1 FallingTable)
