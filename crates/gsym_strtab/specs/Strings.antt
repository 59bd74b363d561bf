-- The strings of the string table (RULES, "Strings"). The table's bytes, in file order: strings one after another, each
-- ended by a zero byte. A string is asked for by where it starts, counted from the table's start.
-- Assumes nothing.
use Rattle.std.specs.Prelude.{◌≡◌, ◌≢◌, ℕ, ◌+◌, ◌<◌, List, [], All, Option, Some, length, take, drop, position}
use Rattle.std.specs.Prelude.{slice_index, ◌==◌, nat_lt, nat_le, if◌then◌else◌}
use Rattle.std.specs.Option.{option_map}
use Rattle.std.specs.Borrow.{Bor}
use Rattle.gsym_reads.specs.Maybe.{◌>>=◌, ◌>>◌, need}
use Rattle.gsym_types.specs.declared.StrOffset.{StrOffset}
use Rattle.gsym_types.specs.declared.Text.{Text}
use Rattle.gsym_strtab.specs.Utf8.{utf8}
use Rattle.gsym_strtab.specs.declared.StrTable.{StrTable}

-- the len bytes of a file from a place on, or no byte where they don't fit
unfoldable pub part_of : List ℕ → ℕ → ℕ → List ℕ
part_of file place len = if nat_le (place + len) (length file) then take len (drop place file) else []

-- how many bytes stand before the first zero byte
unfoldable pub before_zero : List ℕ → Option ℕ
before_zero bs = position (λ b. b == 0) bs

-- the length of the string at an offset inside the table's bytes
unfoldable pub text_in : List ℕ → ℕ → Option ℕ
text_in table offset = do
  need (nat_lt offset (length table))
  before_zero (drop offset table)

-- and of the name: a string that is UTF-8
unfoldable pub name_in : List ℕ → ℕ → Option ℕ
name_in table offset = do
  n ← text_in table offset
  need (utf8 (take n (drop offset table)))
  Some n

-- the answer: the place counted from the file's start, and the length
abbrev pub placed : ℕ → Option ℕ → Option Text
placed at len = option_map (λ n. record { place = at; len = n }) len

-- where the table is a part of the file: the answer from its bytes
abbrev pub in_table : (List ℕ → ℕ → Option ℕ) → List ℕ → StrTable → StrOffset → Option Text
in_table read file table offset = do
  need (nat_le (table.place + table.size) (length file))
  placed (table.place + offset.0) (read (take table.size (drop table.place file)) offset.0)

-- directories and files
unfoldable pub text_at : List ℕ → StrTable → StrOffset → Option Text
text_at file table offset = in_table text_in file table offset

-- names
unfoldable pub name_at : List ℕ → StrTable → StrOffset → Option Text
name_at file table offset = in_table name_in file table offset

-- ---- what the answers are held to

-- the table's bytes from an offset on: none past its end, and none where the table is no part of the file
abbrev pub bytes_from : List ℕ → StrTable → StrOffset → List ℕ
bytes_from file table offset = drop offset.0 (part_of file table.place table.size)

-- the string has n bytes, none of them zero, and a zero byte follows it
pub record EndsBeforeZero (bs : List ℕ) (n : ℕ) : Type 0 where
  pub inside : n < length bs
  pub zero_after : slice_index bs n ≡ 0
  pub none_before : All (λ b. b ≢ 0) (take n bs)

-- a part lies in the same memory as the whole, so many bytes after its start
abbrev pub StartsAt : Bor (List ℕ) → ℕ → Bor (List ℕ) → Type 0
StartsAt whole place part = (part.ref_ptr.0 ≡ whole.ref_ptr.0) × (part.ref_ptr.1 ≡ whole.ref_ptr.1 + place)
