-- What C hosts get: what is asked for as bits, and answers laid out as C has them, with a number in place of a refusal
-- and zeros where there is nothing (RULES, "Calls" and "Refusal numbers").
-- Assumes nothing.
use Rattle.std.specs.Prelude.{ℕ, ◌/◌, ◌%◌, ◌==◌, length, Option, Some, None, Result, Ok, Err}
use Rattle.gsym_types.specs.declared.Address.{Address}
use Rattle.gsym_types.specs.declared.Options.{Options}
use Rattle.gsym_types.specs.declared.Answer.{Answer}
use Rattle.gsym_types.specs.declared.Position.{Position}
use Rattle.gsym_types.specs.declared.Refusal.{Refusal}
use Rattle.gsym_types.specs.Refusal.{number_of}
use Rattle.gsym_inline.specs.Block.{Block}
use Rattle.gsym_resolver.specs.Lookup.{LookedUp}
use Rattle.gsym_c.specs.declared.GsymAnswer.{GsymAnswer}
use Rattle.gsym_c.specs.declared.GsymListed.{GsymListed}

-- a number as an address
abbrev pub address : ℕ → Address
address a = record { 0 = a }

-- bit 0 asks for code info, bit 1 for inlining; the others are ignored
abbrev pub options_of : ℕ → Options
options_of bits = record { code_info = bits % 2 == 1; inlining = bits / 2 % 2 == 1 }

-- an answer without a position: line, directory and file are 0
abbrev pub bare_answer : Answer → GsymAnswer
bare_answer a = record {
  number = 0;
  has_code = 0;
  addr = a.addr.0;
  size = a.size;
  line = 0;
  name_place = a.name.place;
  name_len = a.name.len;
  dir_place = 0;
  dir_len = 0;
  file_place = 0;
  file_len = 0;
  count = a.count;
}

-- and one with this position
abbrev pub placed_answer : Answer → Position → GsymAnswer
placed_answer a p = record {
  number = 0;
  has_code = 1;
  addr = a.addr.0;
  size = a.size;
  line = p.line.0;
  name_place = a.name.place;
  name_len = a.name.len;
  dir_place = p.dir.place;
  dir_len = p.dir.len;
  file_place = p.file.place;
  file_len = p.file.len;
  count = a.count;
}

abbrev pub with_position : Answer → Option Position → GsymAnswer
with_position a (Some p) = placed_answer a p
with_position a None = bare_answer a

-- a refusal has its number and zeros
abbrev pub refused_as : ℕ → GsymAnswer
refused_as n = record {
  number = n;
  has_code = 0;
  addr = 0;
  size = 0;
  line = 0;
  name_place = 0;
  name_len = 0;
  dir_place = 0;
  dir_len = 0;
  file_place = 0;
  file_len = 0;
  count = 0;
}

-- an answer, or a refusal
abbrev pub answered : Result Answer Refusal → GsymAnswer
answered (Ok a) = with_position a a.position
answered (Err r) = refused_as (number_of r)

-- the answer of a lookup without its records
abbrev pub answer_in : Result LookedUp Refusal → Result Answer Refusal
answer_in (Ok l) = Ok l.answer
answer_in (Err r) = Err r

-- how many frames and number 0, or the refusal's number and 0
abbrev pub listed : Result ℕ Refusal → GsymListed
listed (Ok count) = record { count = count; number = 0 }
listed (Err r) = record { count = 0; number = number_of r }

abbrev pub block_listed : Block → GsymListed
block_listed (Ok fs) = record { count = length fs; number = 0 }
block_listed (Err r) = record { count = 0; number = number_of r }
