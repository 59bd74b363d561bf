-- The number of each refusal (RULES, "Refusal numbers").
-- Assumes nothing.
use Rattle.std.specs.Prelude.{◌≡◌, ◌≢◌, ℕ, Result, Ok, Err}
use Rattle.gsym_types.specs.declared.Refusal.{Refusal}
use Rattle.gsym_types.specs.declared.Refusal.TheVariants as refused
use Rattle.gsym_types.specs.declared.UnknownNumber.{UnknownNumber}

abbrev pub number_of : Refusal → ℕ
number_of refused.UnknownAddress = 1
number_of refused.TooFewBytes = 2
number_of refused.WrongMagic = 3
number_of refused.WrongVersion = 4
number_of refused.UnreadInfo = 5
number_of refused.UnreadName = 6
number_of refused.UnknownFile = 7
number_of refused.UnreadPath = 8
number_of refused.UnreadLineHeader = 9
number_of refused.UnreadInline = 10
number_of refused.InlineSumTooLarge = 11
number_of refused.CallFileTooLarge = 12
number_of refused.TooDeep = 13
number_of refused.TooManyFrames = 14
number_of refused.TooWide = 15

-- the refusal of a number, or that number itself, which no refusal has
abbrev pub IsNumbered : ℕ → Result Refusal UnknownNumber → Type 0
IsNumbered n (Ok r) = n ≡ number_of r
IsNumbered n (Err e) = (e.0 ≡ n) × ((r : Refusal) → n ≢ number_of r)
