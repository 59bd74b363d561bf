-- What `gsym report` prints (RULES, "A report").
-- Assumes nothing.
use Rattle.std.specs.Prelude.{◌-◌}
use Rattle.std.specs.Prelude.{ℕ, ◌^◌, Bool, false, not, List, ◌++◌, drop, ◌==◌, if◌then◌else◌, codes, decimal}
use Rattle.std.specs.Prelude.{◌≡◌, map, Option, Some, None}
use Rattle.std.specs.Fmt.{digits}
use Rattle.std.specs.List.{flat_map, enumerate_from, list_all, count_by}
use Rattle.gsym_types.specs.declared.Address.{Address}
use Rattle.gsym_printed.specs.declared.view.Form.TheVariants.{Json}
use Rattle.gsym_printed.specs.declared.view.View.{View}
use Rattle.gsym_printed.specs.Answers.{answer_text}
use Rattle.gsym_printed.specs.Words.{address_of}
use Rattle.gsym_report.specs.Report.{report_of, lookups_of, is_refused}
use Rattle.gsym_tool.specs.Known.{is_known_word}
use Rattle.gsym_report.specs.Input.{Question, question_of}

-- each word is an address, and these are the addresses, in their order
abbrev pub AreAddresses : (words : List (List ℕ)) → List Address → Type 0
AreAddresses words addresses = map address_of words ≡ map (λ a. Some a.0) addresses

-- JSON of the crash address, or of a return address
abbrev pub json_view : (index : ℕ) → View
json_view index = record {
  form = Json;
  addresses = false;
  functions = false;
  inlines = false;
  base_names = false;
  refusals = false;
  return_addresses = not (index == 0);
  base = record { 0 = 0 };
}

-- the object of an address: its number, and behind that what the object of `gsym addr2line --json` has, without the
-- brace that this begins with
abbrev pub json_line : List ℕ → (index : ℕ) → Address → List ℕ
json_line file index a =
    ((codes "{\"index\":" ++ decimal index) ++ codes ",")
    ++ drop 1 (answer_text (json_view index) file (digits 16 false a.0))

-- an object a line
abbrev pub json_report_of : List ℕ → List Address → List ℕ
json_report_of file addresses = flat_map (λ p. json_line file p.0 p.1) (enumerate_from 0 addresses)

abbrev pub report_text : (json : Bool) → List ℕ → List Address → List ℕ
report_text json file addresses = if json then json_report_of file addresses else report_of file addresses

abbrev pub output_by : (json : Bool) → Option Question → List ℕ
output_by json (Some q) = report_text json q.file q.addresses
output_by json None = codes "?\n"

-- of a whole input, whose file may have as many bytes as it can say
abbrev pub output_of : (json : Bool) → List ℕ → List ℕ
output_of json input = output_by json (question_of (2 ^ 64 - 1) input)

-- ---- exit statuses

-- whether the object of an address tells of a symbol
abbrev pub is_known_json : List ℕ → (index : ℕ) → Address → Bool
is_known_json file index a = is_known_word (json_view index) file (digits 16 false a.0)

abbrev pub all_known_json : List ℕ → List Address → Bool
all_known_json file addresses = list_all (λ p. is_known_json file p.0 p.1) (enumerate_from 0 addresses)

-- whether each address is found
abbrev pub all_known : (json : Bool) → List ℕ → List Address → Bool
all_known json file addresses =
    if json then all_known_json file addresses else (count_by is_refused (lookups_of file addresses) == 0)

-- 0 where each is, 1 where one is refused, 2 where the input is none
abbrev pub status_by : (json : Bool) → Option Question → ℕ
status_by json (Some q) = if all_known json q.file q.addresses then 0 else 1
status_by json None = 2

abbrev pub status_of_input : (json : Bool) → List ℕ → ℕ
status_of_input json input = status_by json (question_of (2 ^ 64 - 1) input)
