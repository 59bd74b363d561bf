-- Answers laid out as C has them.
-- Assumes nothing.
use Rattle.std.specs.Prelude.{ℕ, ℤ, Some, None, Ok, Err, Option, Result, length}
use Rattle.gsym_types.specs.declared.Address.{Address}
use Rattle.std.specs.Int.{w64, cast_unsigned}
use Rattle.gsym_leb128.specs.declared.Cause.{Cause}
use Rattle.gsym_leb128.specs.declared.Cause.TheVariants.{Short, Wide}
use Rattle.gsym_linetab.specs.declared.LineTableRow.{LineTableRow}
use Rattle.gsym_types.specs.Refusal.{number_of}
use Rattle.gsym_inline.specs.Block.{Block}
use Rattle.reader_c.specs.declared.NumberAnswer.{NumberAnswer}
use Rattle.reader_c.specs.declared.LineAnswer.{LineAnswer}
use Rattle.reader_c.specs.declared.BlockAnswer.{BlockAnswer}

-- a number as an address
abbrev pub address : ℕ → Address
address a = record { 0 = a }

-- an answer without a number: 1 where it ended short, 2 where it is too wide
abbrev pub numberless : Cause → NumberAnswer
numberless Short = record { value = 0; next = 0; tag = 1 }
numberless Wide = record { value = 0; next = 0; tag = 2 }

-- a number, and the place after it
abbrev pub laid_number : ℕ → ℕ → NumberAnswer
laid_number v n = record { value = v; next = n; tag = 0 }

-- the number, or why there is none; a signed one as its 64 bits
abbrev pub laid_unsigned : Result (ℕ × ℕ) Cause → NumberAnswer
laid_unsigned (Ok (v, n)) = laid_number v n
laid_unsigned (Err c) = numberless c

abbrev pub laid_signed : Result (ℤ × ℕ) Cause → NumberAnswer
laid_signed (Ok (v, n)) = laid_number (cast_unsigned w64 v) n
laid_signed (Err c) = numberless c

-- an answer without a row
abbrev pub rowless : ℕ → LineAnswer
rowless tag = record { addr = 0; file = 0; line = 0; tag = tag }

-- the row, or why there is none
abbrev pub laid_line : Result (Option LineTableRow) Cause → LineAnswer
laid_line (Ok (Some r)) = record { addr = r.addr.0; file = r.file_idx.0; line = r.file_line.0; tag = 0 }
laid_line (Ok None) = rowless 1
laid_line (Err Short) = rowless 2
laid_line (Err Wide) = rowless 3

-- how many frames a block has, or its refusal's number
abbrev pub laid_block : Block → BlockAnswer
laid_block (Ok fs) = record { count = length fs; number = 0 }
laid_block (Err r) = record { count = 0; number = number_of r }
