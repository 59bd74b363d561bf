-- What is printed of a word, down to bytes.
-- Assumes nothing.
use Rattle.std.specs.Prelude.{◌≡◌, ℕ, ◌-◌, ◌^◌, true, ◌||◌, List, length, take, drop, min, max, nat_lt, if◌then◌else◌}
use Rattle.std.specs.Prelude.{Option, Some, None, Result, Ok, Err, option_and_then}
use Rattle.std.specs.List.{flat_map}
use Rattle.gsym_types.specs.declared.Options.{Options}
use Rattle.gsym_types.specs.declared.Refusal.{Refusal}
use Rattle.gsym_types.specs.declared.Refusal.TheVariants.{UnknownAddress}
use Rattle.gsym_resolver.specs.Lookup.{LookedUp, lookup_of}
use Rattle.gsym.specs.CallOrder.{calls_in_order}
use Rattle.gsym_printed.specs.declared.printing.Outcome.{Outcome}
use Rattle.gsym_printed.specs.declared.printing.Outcome.TheVariants.{Known, Refused, NoAddress}
use Rattle.gsym_printed.specs.declared.view.View.{View}
use Rattle.gsym_printed.specs.Json.{json_found, json_refused, json_no_address}
use Rattle.gsym_printed.specs.Page.{◌&◌}
use Rattle.gsym_printed.specs.Printed.{is_json, calls_text, refused_text, address_text, no_address_text}
use Rattle.gsym_printed.specs.Words.{address_of, words}

-- ---- the lookup

-- the position alone is the same without the frames, where no inline tree is refused, and sooner found
abbrev pub options_of : View → Options
options_of view = record { code_info = true; inlining = view.functions || view.inlines || is_json view.form }

abbrev pub less : ℕ → ℕ → Option ℕ
less n m = if nat_lt n m then None else Some (n - m)

-- the address that is looked up for one that the user gave: the base less, and for a return address one less
abbrev pub asked_for : View → ℕ → Option ℕ
asked_for view n = option_and_then (λ a. less a (if view.return_addresses then 1 else 0)) (less n view.base.0)

abbrev pub lookup_for : View → List ℕ → Option ℕ → Result LookedUp Refusal
lookup_for view file (Some a) = lookup_of file (record { 0 = a }) (options_of view) 64
lookup_for view file None = Err UnknownAddress

-- ---- the text

abbrev pub lookup_text : View → List ℕ → ℕ → Result LookedUp Refusal → List ℕ
lookup_text view file n (Ok l) = address_text view n & calls_text view file (calls_in_order l.answer l.frames)
lookup_text view file n (Err r) = address_text view n & refused_text view r

abbrev pub json_text : List ℕ → ℕ → Result LookedUp Refusal → List ℕ
json_text file n (Ok l) = json_found file n l.answer (calls_in_order l.answer l.frames)
json_text file n (Err r) = json_refused n r

abbrev pub answer_by : View → List ℕ → ℕ → Result LookedUp Refusal → List ℕ
answer_by view file n found = if is_json view.form then json_text file n found else lookup_text view file n found

abbrev pub no_answer : View → List ℕ → List ℕ
no_answer view word = if is_json view.form then json_no_address word else no_address_text view word

abbrev pub answer_to : View → List ℕ → List ℕ → Option ℕ → List ℕ
answer_to view file word (Some n) = answer_by view file n (lookup_for view file (asked_for view n))
answer_to view file word None = no_answer view word

-- what is printed of a word
unfoldable pub answer_text : View → List ℕ → List ℕ → List ℕ
answer_text view file word = answer_to view file word (address_of word)

-- and of an input: the answers to its words, one after the other
abbrev pub answers_text : View → List ℕ → List ℕ → List ℕ
answers_text view file input = flat_map (answer_text view file) (words input)

-- ---- what became of it

abbrev pub outcome_by : Result LookedUp Refusal → Outcome
outcome_by (Ok l) = Known
outcome_by (Err r) = Refused r

abbrev pub outcome_to : View → List ℕ → Option ℕ → Outcome
outcome_to view file (Some n) = outcome_by (lookup_for view file (asked_for view n))
outcome_to view file None = NoAddress

unfoldable pub outcome_of : View → List ℕ → List ℕ → Outcome
outcome_of view file word = outcome_to view file (address_of word)

-- ---- lent bytes

-- the bytes of a text that fit were written to the front, the others are as they were, and its length is known, up to
-- 2^64-1, which is above every list in memory
pub record IsWritten (old new : List ℕ) (n : ℕ) (text : List ℕ) : Type 0 where
  pub counted : n ≡ min (length text) (max (length old) (2 ^ 64 - 1))
  pub written : take (length text) new ≡ take (length old) text
  pub stays : drop (length text) new ≡ drop (length text) old
