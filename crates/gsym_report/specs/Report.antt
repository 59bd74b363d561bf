-- The report of a crash (RULES, "A report").
-- Assumes nothing.
use Rattle.std.specs.Prelude.{ℕ, ◌-◌, Bool, true, false, ◌||◌, not, List, [], ◌∷◌, ◌++◌, map, nat_lt, ◌==◌}
use Rattle.std.specs.Prelude.{if◌then◌else◌}
use Rattle.std.specs.Prelude.{codes, decimal, Option, Some, None, Result, Ok, Err}
use Rattle.std.specs.List.{flat_map, enumerate_from, prefix_len}
use Rattle.gsym_types.specs.declared.Address.{Address}
use Rattle.gsym_types.specs.declared.Refusal.{Refusal}
use Rattle.gsym_types.specs.declared.Refusal.TheVariants.{UnknownAddress}
use Rattle.gsym_types.specs.Refusal.{number_of}
use Rattle.gsym_strtab.specs.Strings.{part_of}
use Rattle.gsym_resolver.specs.Lookup.{LookedUp, lookup_of, all_options}
use Rattle.gsym.specs.declared.chain.Call.{Call}
use Rattle.gsym.specs.CallOrder.{calls_in_order}
use Rattle.gsym_output.specs.Lines.{text_of}

-- ---- what is looked up

-- the address that is looked up for the one with this number: the first as it stands, each other one lower; there is
-- none below 0
abbrev pub asked_for : (index : ℕ) → Address → Option Address
asked_for index a =
    if index == 0 then Some a
    else if a.0 == 0 then None
    else Some (record { 0 = a.0 - 1 })

-- with code info and inlining, and room for 64 frames; what is none is known to no symbol
abbrev pub lookup_at : List ℕ → Option Address → Result LookedUp Refusal
lookup_at file (Some a) = lookup_of file a all_options 64
lookup_at file None = Err UnknownAddress

abbrev pub lookup_for : List ℕ → (index : ℕ) → Address → Result LookedUp Refusal
lookup_for file index a = lookup_at file (asked_for index a)

-- ---- what is said of an address

abbrev pub is_control : ℕ → Bool
is_control b = nat_lt b 32 || (b == 127)

abbrev pub shown_byte : ℕ → ℕ
shown_byte b = if is_control b then 63 else b

-- a question mark stands for each control byte
abbrev pub shown_name : List ℕ → List ℕ
shown_name name = map shown_byte name

abbrev pub name_in : List ℕ → Call → List ℕ
name_in file call = part_of file call.name.place call.name.len

abbrev pub refusal_said : Refusal → List ℕ
refusal_said r = codes "?" ++ decimal (number_of r)

-- the names of its frames, the last frame first, and of the symbol; or its refusal
abbrev pub said_of : List ℕ → Result LookedUp Refusal → List (List ℕ)
said_of file (Ok l) = map (λ call. shown_name (name_in file call)) (calls_in_order l.answer l.frames)
said_of file (Err r) = refusal_said r ∷ []

-- ---- lines, without the newline at their end

abbrev pub line_of : (index : ℕ) → List ℕ → List ℕ
line_of index said = (decimal index ++ codes " ") ++ said

abbrev pub lines_of : List ℕ → (index : ℕ) → Address → List (List ℕ)
lines_of file index a = map (line_of index) (said_of file (lookup_for file index a))

-- those of each address, which count from 0
abbrev pub report_lines : List ℕ → List Address → List (List ℕ)
report_lines file addresses = flat_map (λ p. lines_of file p.0 p.1) (enumerate_from 0 addresses)

-- ---- the text

abbrev pub report_of : List ℕ → List Address → List ℕ
report_of file addresses = text_of (report_lines file addresses)

-- ---- what the functions are held to

-- how many bytes stand before the first control byte
abbrev pub plain_len : List ℕ → ℕ
plain_len name = prefix_len (λ b. not (is_control b)) name

-- ---- what became of each address

abbrev pub lookups_of : List ℕ → List Address → List (Result LookedUp Refusal)
lookups_of file addresses = map (λ p. lookup_for file p.0 p.1) (enumerate_from 0 addresses)

abbrev pub is_refused : Result LookedUp Refusal → Bool
is_refused (Ok l) = false
is_refused (Err r) = true
