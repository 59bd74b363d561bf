-- Whether the addresses of words are known, which the exit status of `gsym addr2line` says.
-- Assumes nothing.
use Rattle.std.specs.Prelude.{ℕ, Bool, true, false, List}
use Rattle.std.specs.List.{list_all}
use Rattle.gsym_printed.specs.declared.printing.Outcome.{Outcome}
use Rattle.gsym_printed.specs.declared.printing.Outcome.TheVariants.{Known, Refused, NoAddress}
use Rattle.gsym_printed.specs.declared.view.View.{View}
use Rattle.gsym_printed.specs.Answers.{outcome_of}
use Rattle.gsym_printed.specs.Words.{words}

abbrev pub is_known : Outcome → Bool
is_known Known = true
is_known (Refused r) = false
is_known NoAddress = false

-- whether the address that a word is is known
abbrev pub is_known_word : View → List ℕ → List ℕ → Bool
is_known_word view file word = is_known (outcome_of view file word)

-- and of an input: whether that of each of its words is
abbrev pub all_known : View → List ℕ → List ℕ → Bool
all_known view file input = list_all (is_known_word view file) (words input)
