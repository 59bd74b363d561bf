-- When a header doesn't read, and when an opcode stops the program (RULES, "Line table").
-- Assumes nothing.
use Rattle.std.specs.Prelude.{◌≡◌, ℕ, ◌+◌, ◌≤◌, List, ℤ, pos, Some, Ok, Err}
use Rattle.std.specs.List.{slice_get}
use Rattle.gsym_leb128.specs.Answers.{unsigned_at, signed_at}
use Rattle.gsym_leb128.specs.declared.Cause.{Cause}
use Rattle.gsym_leb128.specs.declared.Cause.TheVariants.{Short, Wide}
use Rattle.gsym_types.specs.declared.Refusal.{Refusal}
use Rattle.gsym_types.specs.declared.Refusal.TheVariants.{UnreadLineHeader, TooWide}
use Rattle.gsym_linetab.specs.declared.LineTableHeader.{LineTableHeader}
use Rattle.gsym_linetab.specs.declared.LineState.{LineState}
use Rattle.gsym_linetab.specs.Machine.{range_of, op_file, op_address, op_line, first_special}

-- the header at a place doesn't read, for the cause of the first number that doesn't
pub data IsUnread (s : List ℕ) (at : ℕ) (cause : Cause) : Type 0 where
  no_min : signed_at s at ≡ Err cause → IsUnread s at cause
  no_max : (min : ℤ × ℕ) → signed_at s at ≡ Ok min → signed_at s min.1 ≡ Err cause → IsUnread s at cause
  no_line :
      (min max : ℤ × ℕ) → signed_at s at ≡ Ok min → signed_at s min.1 ≡ Ok max → unsigned_at s max.1 ≡ Err cause →
      IsUnread s at cause

-- the refusal of a header that doesn't read: 9 where a number is short, 15 where it is too wide
abbrev pub header_refusal : Cause → Refusal
header_refusal Short = UnreadLineHeader
header_refusal Wide = TooWide

-- the opcode at a state's place stops the program: its operand doesn't read, or it is a special one and the range is 0
pub data IsStop (h : LineTableHeader) (ops : List ℕ) (t : LineState) : Type 0 where
  at_file :
      (cause : Cause) → slice_get ops t.at ≡ Some op_file → unsigned_at ops (t.at + 1) ≡ Err cause → IsStop h ops t
  at_address :
      (cause : Cause) → slice_get ops t.at ≡ Some op_address → unsigned_at ops (t.at + 1) ≡ Err cause → IsStop h ops t
  at_line : (cause : Cause) → slice_get ops t.at ≡ Some op_line → signed_at ops (t.at + 1) ≡ Err cause → IsStop h ops t
  at_special : (op : ℕ) → slice_get ops t.at ≡ Some op → first_special ≤ op → range_of h ≡ pos 0 → IsStop h ops t
