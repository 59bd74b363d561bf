-- No two refusals have the same number, and none has 0 or one above 15.
-- Assumes nothing.
use Rattle.std.proofs.Common.{◌≡◌, ◌∙◌, sym, ap, refl, ℕ, ◌≤◌, ◌==◌, arith, if◌then◌else◌}
use Rattle.gsym_types.specs.declared.Refusal.{Refusal}
use Rattle.gsym_types.specs.declared.Refusal.TheVariants as refused
use Rattle.gsym_types.specs.Refusal.{number_of}

pub number_range : (r : Refusal) → (1 ≤ number_of r) × (number_of r ≤ 15)
number_range refused.UnknownAddress = (omega arith, omega arith)
number_range refused.TooFewBytes = (omega arith, omega arith)
number_range refused.WrongMagic = (omega arith, omega arith)
number_range refused.WrongVersion = (omega arith, omega arith)
number_range refused.UnreadInfo = (omega arith, omega arith)
number_range refused.UnreadName = (omega arith, omega arith)
number_range refused.UnknownFile = (omega arith, omega arith)
number_range refused.UnreadPath = (omega arith, omega arith)
number_range refused.UnreadLineHeader = (omega arith, omega arith)
number_range refused.UnreadInline = (omega arith, omega arith)
number_range refused.InlineSumTooLarge = (omega arith, omega arith)
number_range refused.CallFileTooLarge = (omega arith, omega arith)
number_range refused.TooDeep = (omega arith, omega arith)
number_range refused.TooManyFrames = (omega arith, omega arith)
number_range refused.TooWide = (omega arith, omega arith)

-- the refusal of a number
abbrev numbered : ℕ → Refusal
numbered n =
    if n == 1 then refused.UnknownAddress
    else if n == 2 then refused.TooFewBytes
    else if n == 3 then refused.WrongMagic
    else if n == 4 then refused.WrongVersion
    else if n == 5 then refused.UnreadInfo
    else if n == 6 then refused.UnreadName
    else if n == 7 then refused.UnknownFile
    else if n == 8 then refused.UnreadPath
    else if n == 9 then refused.UnreadLineHeader
    else if n == 10 then refused.UnreadInline
    else if n == 11 then refused.InlineSumTooLarge
    else if n == 12 then refused.CallFileTooLarge
    else if n == 13 then refused.TooDeep
    else if n == 14 then refused.TooManyFrames
    else refused.TooWide

numbered-back : (r : Refusal) → numbered (number_of r) ≡ r
numbered-back refused.UnknownAddress = refl
numbered-back refused.TooFewBytes = refl
numbered-back refused.WrongMagic = refl
numbered-back refused.WrongVersion = refl
numbered-back refused.UnreadInfo = refl
numbered-back refused.UnreadName = refl
numbered-back refused.UnknownFile = refl
numbered-back refused.UnreadPath = refl
numbered-back refused.UnreadLineHeader = refl
numbered-back refused.UnreadInline = refl
numbered-back refused.InlineSumTooLarge = refl
numbered-back refused.CallFileTooLarge = refl
numbered-back refused.TooDeep = refl
numbered-back refused.TooManyFrames = refl
numbered-back refused.TooWide = refl

pub number_same : (r s : Refusal) → number_of r ≡ number_of s → r ≡ s
number_same r s e = sym (numbered-back r) ∙ ap numbered e ∙ numbered-back s
