-- What C hosts ask of printed texts, and what they get: a view as bits, and what became of a word as a number (RULES,
-- "What the tools print").
-- Assumes nothing.
use Rattle.std.specs.Prelude.{ℕ, ◌/◌, ◌%◌, ◌==◌, if◌then◌else◌, Option, Some, None}
use Rattle.gsym_types.specs.Refusal.{number_of}
use Rattle.gsym_printed.specs.declared.printing.Outcome.{Outcome}
use Rattle.gsym_printed.specs.declared.printing.Outcome.TheVariants.{Known, Refused, NoAddress}
use Rattle.gsym_printed.specs.declared.view.Form.{Form}
use Rattle.gsym_printed.specs.declared.view.Form.TheVariants.{Lines, Pretty, Json}
use Rattle.gsym_printed.specs.declared.view.View.{View}
use Rattle.gsym_text_c.specs.declared.GsymNumber.{GsymNumber}

-- bit 6 asks for JSON, else bit 3 for one line a frame
abbrev pub form_of : ℕ → Form
form_of bits = if bits / 64 % 2 == 1 then Json else if bits / 8 % 2 == 1 then Pretty else Lines

abbrev pub view_of : ℕ → ℕ → View
view_of bits base = record {
  form = form_of bits;
  addresses = bits % 2 == 1;
  functions = bits / 2 % 2 == 1;
  inlines = bits / 4 % 2 == 1;
  base_names = bits / 16 % 2 == 1;
  refusals = bits / 32 % 2 == 1;
  return_addresses = bits / 128 % 2 == 1;
  base = record { 0 = base };
}

-- no refusal has the number 255
abbrev pub outcome_number : Outcome → ℕ
outcome_number Known = 0
outcome_number (Refused r) = number_of r
outcome_number NoAddress = 255

abbrev pub numbered : Option ℕ → GsymNumber
numbered (Some n) = record { value = n; is_number = 1 }
numbered None = record { value = 0; is_number = 0 }
