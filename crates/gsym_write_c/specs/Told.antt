-- What C hosts get of writing a file: a number, the file's length, and which entry or file is at fault, with zeros
-- where there is nothing (RULES, "Writing a file").
-- Assumes nothing.
use Rattle.std.specs.Prelude.{ℕ, ◌↔◌, List, ◌++◌, drop, Option, Some, None, Result, Ok, Err, IsOk}
use Rattle.gsym_verify.specs.Check.{check_of}
use Rattle.gsym_layout.specs.Given.{Given}
use Rattle.gsym_layout.specs.Layout.{layout_of}
use Rattle.gsym_layout.specs.ReadBack.{SaysGiven, AnswersGiven, FoundAtOwn, ItemsInFull}
use Rattle.gsym_writer.specs.Writing.{write_of}
use Rattle.gsym_writer.specs.declared.error.WriteError.{WriteError}
use Rattle.gsym_writer.specs.declared.error.WriteError.TheVariants.{
  NotRising,
  SumTooLarge,
  UnreadName,
  UnreadFile,
  EndItem,
  TooLarge,
  TooLittleRoom,
}
use Rattle.gsym_write_c.specs.declared.GsymWritten.{GsymWritten}

-- a number alone
abbrev pub number_alone : ℕ → GsymWritten
number_alone n = record { len = 0; index = 0; number = n; of_file = 0 }

-- which entry
abbrev pub of_entry : ℕ → ℕ → GsymWritten
of_entry n i = record { len = 0; index = i; number = n; of_file = 0 }

-- which file
abbrev pub of_file : ℕ → ℕ → GsymWritten
of_file n i = record { len = 0; index = i; number = n; of_file = 1 }

-- why a file is not written
abbrev pub refused_as : WriteError → GsymWritten
refused_as (NotRising i) = of_entry 21 i
refused_as (SumTooLarge i) = of_entry 22 i
refused_as (UnreadName i) = of_entry 29 i
refused_as (UnreadFile i) = of_file 29 i
refused_as (EndItem i) = of_entry 30 i
refused_as TooLarge = number_alone 31
refused_as (TooLittleRoom n) = record { len = n; index = 0; number = 32; of_file = 0 }

abbrev pub written_as : Result ℕ WriteError → GsymWritten
written_as (Ok n) = record { len = n; index = 0; number = 0; of_file = 0 }
written_as (Err e) = refused_as e

-- what is told of rows, where there is memory
abbrev pub told_of : Option Given → (room : ℕ) → GsymWritten
told_of (Some g) room = written_as (write_of g room)
told_of None room = number_alone 33

-- what stands in the lent bytes after the writer answered: the file and what stood behind it, or what stood there
abbrev pub left_by : Given → List ℕ → Result ℕ WriteError → List ℕ
left_by g out (Ok n) = layout_of g ++ drop n out
left_by g out (Err e) = out

-- what holds of a written file: it says what was given, every lookup in it answers what is given, at an entry's own
-- address that is this entry, and it passes a check exactly if each line table and each inline tree in it reads in full
pub record IsFileOf (g : Given) (file : List ℕ) : Type 0 where
  pub says : SaysGiven g file
  pub answers : AnswersGiven g file
  pub own : FoundAtOwn g file
  pub passes : IsOk (check_of file) ↔ ItemsInFull g
