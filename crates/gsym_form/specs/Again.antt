-- What is printed of a file, and read again, says the same, and the file that is written from it answers the same
-- (RULES, "A file as text").
-- Assumes nothing.
use Rattle.std.specs.Prelude.{◌≡◌, ℕ, ◌+◌, ◌<◌, List, [], ◌∷◌, All, Some, Ok}
use Rattle.gsym_types.specs.declared.Address.{Address}
use Rattle.gsym_types.specs.declared.Options.{Options}
use Rattle.gsym_parser.specs.View.{View}
use Rattle.gsym_parser.specs.Items.{items_of}
use Rattle.gsym_parser.specs.Entries.{info_at}
use Rattle.gsym_parser.specs.Search.{entries_of}
use Rattle.gsym_resolver.specs.SharedTables.{shared_tables}
use Rattle.gsym_layout.specs.Given.{GivenEntry}
use Rattle.gsym_layout.specs.Layout.{layout_of}
use Rattle.gsym_layout.specs.ReadBack.{texts_answered}
use Rattle.gsym_writer.specs.Writing.{write_of}
use Rattle.gsym_form.specs.Printed.{dump_of}
use Rattle.gsym_form.specs.Said.{Said, text_said}
use Rattle.gsym_form.specs.Parsed.{given_said}

-- what the file says of the entry of an index, which is e in the address table: its address is the base plus e, and
-- exact; its size, its name and its items are those of its information
pub record SaysEntry (v : View) (i e : ℕ) (said : GivenEntry) : Type 0 where
  pub addr : said.addr.0 ≡ v.tables.base.0 + e
  pub bytes : List ℕ
  pub info : info_at v i ≡ Some (record { size = said.size; name = said.name.0; bytes = bytes })
  pub items : said.items ≡ items_of bytes

-- one for each entry from an index on, in their order
abbrev pub SaysEntries : View → ℕ → List ℕ → List GivenEntry → Type 0
SaysEntries v i [] [] = Unit {0}
SaysEntries v i [] (said ∷ more) = ⊥
SaysEntries v i (e ∷ es) [] = ⊥
SaysEntries v i (e ∷ es) (said ∷ more) = SaysEntry v i e said × SaysEntries v (i + 1) es more

-- the text that is printed reads, and what it says is the file's string table, its files and its entries
pub record SaysAgain (v : View) : Type 0 where
  pub said : Said
  pub reads : text_said (dump_of v) ≡ Ok said
  pub tables : (given_said said).tables ≡ shared_tables v
  pub entries : SaysEntries v 0 (entries_of v) (given_said said).entries

-- each is a byte
abbrev pub AreBytes : List ℕ → Type 0
AreBytes bytes = All (λ b. b < 256) bytes

-- ---- the file that is written

-- every lookup answers in both files alike: at any address, with any options and any room
abbrev pub AnswerAlike : List ℕ → List ℕ → Type 0
AnswerAlike made file =
    (addr : Address) (o : Options) (room : ℕ) → texts_answered made addr o room ≡ texts_answered file addr o room

-- what a text says, where it is written, is a file that answers as this one does
abbrev pub MadeAgain : List ℕ → Said → Type 0
MadeAgain file said =
    (room n : ℕ) → write_of (given_said said) room ≡ Ok n → AnswerAlike (layout_of (given_said said)) file
