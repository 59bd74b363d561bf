-- The number of why a file is not written (RULES, "Writing a file").
-- Assumes nothing.
use Rattle.std.specs.Prelude.{ℕ}
use Rattle.gsym_writer.specs.declared.error.WriteError.{WriteError}
use Rattle.gsym_writer.specs.declared.error.WriteError.TheVariants.{
  NotRising,
  SumTooLarge,
  UnreadName,
  UnreadFile,
  EndItem,
  TooLarge,
  TooLittleRoom,
}

abbrev pub error_number : WriteError → ℕ
error_number (NotRising i) = 21
error_number (SumTooLarge i) = 22
error_number (UnreadName i) = 29
error_number (UnreadFile i) = 29
error_number (EndItem i) = 30
error_number TooLarge = 31
error_number (TooLittleRoom n) = 32
