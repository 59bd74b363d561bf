-- What is written: the file of what the rows give.
-- Assumes nothing.
use Rattle.std.proofs.Common.{◌≡◌, ◌↔◌, ℕ, List, map, take, Result, Ok, Err, IsOk, IfOk, refl, subst}
use Rattle.gsym_parser.specs.declared.entries.FileInfo.{FileInfo}
use Rattle.gsym_parser.specs.declared.items.Item.{Item}
use Rattle.gsym_parser.specs.Items.{item_view}
use Rattle.gsym_verify.specs.Check.{check_of}
use Rattle.gsym_layout.specs.Given.{GivenEntry, Given}
use Rattle.gsym_layout.specs.ReadBack.{SaysGiven, AnswersGiven, FoundAtOwn, ItemsInFull}
use Rattle.gsym_writer.specs.declared.Entry.{Entry}
use Rattle.gsym_writer.specs.declared.error.WriteError.{WriteError}
use Rattle.gsym_writer.specs.View.{entry_view}
use Rattle.gsym_write_c.specs.Rows.{Rows, items_given, entries_given, file_given, given_of}
use Rattle.gsym_write_c.specs.Told.{IsFileOf}

abbrev pub given : List GivenEntry → List FileInfo → List ℕ → Given
given entries files strings = record { entries = entries; tables = record { strings = strings; files = files } }

pub content-viewed : (rows : Rows) (items lent : List Item) (entries lent-entries : List Entry)
    (files lent-files : List FileInfo) → map item_view items ≡ items_given rows.items rows.bytes → lent ≡ items
    → map entry_view entries ≡ entries_given rows.entries (map item_view lent) → lent-entries ≡ entries
    → files ≡ map file_given rows.files → lent-files ≡ files
    → given (map entry_view lent-entries) lent-files rows.strings ≡ given_of rows
content-viewed rows items lent entries lent-entries files lent-files i l e m f n =
    rw (n, f, m, e, l, i) refl

pub is-file : (g rows : Given) (answer : Result ℕ WriteError) (out : List ℕ) → g ≡ rows
    → IfOk answer (λ n. SaysGiven g (take n out)) → IfOk answer (λ n. AnswersGiven g (take n out))
    → IfOk answer (λ n. FoundAtOwn g (take n out))
    → IfOk answer (λ n. IsOk (check_of (take n out)) ↔ ItemsInFull g)
    → IfOk answer (λ n. IsFileOf rows (take n out))
is-file g rows (Ok n) out e s a o p =
    subst (λ h. IsFileOf h (take n out)) e (record { says = s; answers = a; own = o; passes = p })
is-file g rows (Err error) out e s a o p = tt
