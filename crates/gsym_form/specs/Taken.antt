-- What the functions that read a line answer (RULES, "A file as text"): what the definition has, or there was no
-- memory.
-- Assumes nothing.
use Rattle.std.specs.Prelude.{◌≡◌, ℕ, List, Option, Some, None, Result, Ok, Err}
use Rattle.gsym_form.specs.declared.wrong.Problem.{Problem}
use Rattle.gsym_form.specs.declared.wrong.Problem.TheVariants as problem
use Rattle.gsym_form.specs.declared.wrong.Wrong.{Wrong}
use Rattle.gsym_form.specs.Words.{Read}

-- a word is taken, `rest` is left, and `value` is what the word is as the definition has it
abbrev pub Takes : {A B : Type 0} → (value : A → B) → Result A Problem → (rest : List ℕ) → Read B → Type 0
Takes value (Ok x) rest r = r ≡ Ok (value x, rest)
Takes value (Err problem.Memory) rest r = Unit {0}
Takes value (Err (problem.Wrong w)) rest r = r ≡ Err w

-- the value is what the definition has, or its refusal is told
abbrev pub TellsOf : {A B : Type 0} → (value : A → B) → Result A Problem → Result B Wrong → Type 0
TellsOf value (Ok x) r = r ≡ Ok (value x)
TellsOf value (Err problem.Memory) r = Unit {0}
TellsOf value (Err (problem.Wrong w)) r = r ≡ Err w

-- the next word, and what is left; where there is none all is
abbrev pub TakesWord : Option (List ℕ) → (old new : List ℕ) → Option (List ℕ × List ℕ) → Type 0
TakesWord (Some w) old new o = o ≡ Some (w, new)
TakesWord None old new o = (o ≡ None) × (new ≡ old)
