-- The marked examples T6 to T8 of RULES, what wraps, and a whole table, of the definitions.
-- Assumes nothing.
use Rattle.std.specs.Prelude.{◌≡◌, ℕ, ◌-◌, ◌^◌, [], ◌∷◌, List, ℤ, pos, neg_ℤ, Ok, Err, Some, None, refl}
use Rattle.std.specs.Int.{int_wrap}
use Rattle.gsym_types.specs.declared.Address.{Address}
use Rattle.gsym_leb128.specs.Leb.{digits, unsigned, signed}
use Rattle.gsym_leb128.specs.Answers.{unsigned_at, signed_at}
use Rattle.gsym_linetab.specs.declared.LineTableHeader.{LineTableHeader}
use Rattle.gsym_linetab.specs.declared.LineTableRow.{LineTableRow}
use Rattle.gsym_linetab.specs.declared.Ending.TheVariants.{EndSequence, Stopped}
use Rattle.gsym_linetab.specs.declared.RunResult.TheVariants.{NewRow}
use Rattle.gsym_linetab.specs.declared.RunResult.TheVariants as run
use Rattle.gsym_linetab.specs.Machine.{
  state,
  header_of,
  set_file,
  advance_pc,
  advance_line,
  range_of,
  special_of,
  step_of,
}
use Rattle.gsym_linetab.specs.Rows.{within, run_of, row_among, table_of, line_row}

-- a header with min and max
abbrev pub between : ℤ → ℤ → LineTableHeader
between min max = record { min_delta = min; max_delta = max; first_line = record { 0 = 100 } }

-- min -4, max 10: opcode 255 gives line +7, address +16
pub t6 : step_of (between (neg_ℤ (pos 4)) (pos 10)) (255 ∷ []) (state 4096 1 100 0) ≡ Ok (NewRow (state 4112 1 107 1))
unfolding step_of special_of range_of int_wrap
t6 = refl

-- min 0, max -1: opcode 4 stops
pub t7 : step_of (between (pos 0) (neg_ℤ (pos 1))) (4 ∷ []) (state 4096 1 100 0) ≡ Err Stopped
unfolding step_of special_of range_of int_wrap
t7 = refl

-- min 0, max -3: opcode 7 gives line +1, address -1
pub t8 : step_of (between (pos 0) (neg_ℤ (pos 3))) (7 ∷ []) (state 4096 1 100 0) ≡ Ok (NewRow (state 4095 1 101 1))
unfolding step_of special_of range_of int_wrap
t8 = refl

-- ---- what wraps

-- addresses modulo 2^64 and lines modulo 2^32, both ways; a range that wraps to 0; file and first line modulo 2^32
pub record WrapExamples : Type 0 where
  -- opcode 2 with the operand 2, from the last address
  pub address :
      step_of (between (pos 0) (pos 1)) (2 ∷ 2 ∷ []) (state (2 ^ 64 - 1) 1 100 0) ≡ Ok (NewRow (state 1 1 100 2))
  -- min 0, max -3: opcode 7 moves an address of 0 back by 1
  pub address_back :
      step_of (between (pos 0) (neg_ℤ (pos 3))) (7 ∷ []) (state 0 1 100 0) ≡ Ok (NewRow (state (2 ^ 64 - 1) 1 101 1))
  -- opcode 3 with the operand 2, from the last line, and with -2, from line 1
  pub line :
      step_of (between (pos 0) (pos 1)) (3 ∷ 2 ∷ []) (state 4096 1 (2 ^ 32 - 1) 0) ≡ Ok (run.Ok (state 4096 1 1 2))
  pub line_back :
      step_of (between (pos 0) (pos 1)) (3 ∷ 0x7e ∷ []) (state 4096 1 1 0) ≡ Ok (run.Ok (state 4096 1 (2 ^ 32 - 1) 2))
  -- min -2^63, max 2^63-1: the range is 2^64, which wraps to 0
  pub range : step_of (between (neg_ℤ (pos (2 ^ 63))) (pos (2 ^ 63 - 1))) (4 ∷ []) (state 4096 1 100 0) ≡ Err Stopped
  -- opcode 1 with the operand 2^32 + 3
  pub file :
      step_of (between (pos 0) (pos 1)) (1 ∷ 0x83 ∷ 0x80 ∷ 0x80 ∷ 0x80 ∷ 0x10 ∷ []) (state 4096 1 100 0)
      ≡ Ok (run.Ok (state 4096 3 100 6))
  -- a header of min 0, max 1 and the first line 2^32 + 3
  pub first_line :
      header_of (0 ∷ 1 ∷ 0x83 ∷ 0x80 ∷ 0x80 ∷ 0x80 ∷ 0x10 ∷ []) 0
      ≡ Ok (record { min_delta = pos 0; max_delta = pos 1; first_line = record { 0 = 3 } }, 7)

pub wrap_examples : WrapExamples
unfolding step_of set_file advance_pc advance_line special_of range_of int_wrap header_of unsigned_at signed_at
    unsigned signed digits
wrap_examples =
    record {
      address = refl;
      address_back = refl;
      line = refl;
      line_back = refl;
      range = refl;
      file = refl;
      first_line = refl;
    }

-- ---- a whole table of a symbol at 0x1000

-- min -4, max 10, first line 100; opcode 255; file 2, line -1, address +5; line +6; the end, and a byte behind it
abbrev pub table : List ℕ
table = 0x7c ∷ 0x0a ∷ 0x64 ∷ 0xff ∷ 0x01 ∷ 0x02 ∷ 0x03 ∷ 0x7f ∷ 0x02 ∷ 0x05 ∷ 0x03 ∷ 0x06 ∷ 0x00 ∷ 0x04 ∷ []

-- a row: address, file, line
abbrev pub row : ℕ → ℕ → ℕ → LineTableRow
row addr file line = (state addr file line 0).row

abbrev pub at : ℕ → Address
at addr = record { 0 = addr }

-- the first row is of file 1, and its line is the first line less 4 and 11 more; below the first row there is none,
-- then the row before the first row above is the answer, and where none is above, the state at the end
pub record TableExample : Type 0 where
  pub rows :
      table_of table (at 0x1000)
      ≡ Ok (record {
        rows = row 0x1010 1 107 ∷ row 0x1015 2 106 ∷ [];
        final = row 0x1015 2 112;
        ended = EndSequence 13;
      })
  pub below_all : line_row table (at 0x1000) (at 0x100f) ≡ Ok None
  pub first : line_row table (at 0x1000) (at 0x1010) ≡ Ok (Some (row 0x1010 1 107))
  pub between_two : line_row table (at 0x1000) (at 0x1014) ≡ Ok (Some (row 0x1010 1 107))
  pub above_all : line_row table (at 0x1000) (at 0x1015) ≡ Ok (Some (row 0x1015 2 112))

pub table_example : TableExample
unfolding line_row row_among table_of run_of within step_of set_file advance_pc advance_line special_of range_of
    int_wrap header_of unsigned_at signed_at unsigned signed digits
table_example = record { rows = refl; below_all = refl; first = refl; between_two = refl; above_all = refl }
