-- What is printed of a file, and read again, says the same; and it reads only where each entry's information does and
-- no address is above 2^64-1.
-- Assumes nothing.
use Rattle.std.proofs.Common.{◌≡◌, ◌↔◌, ℕ, ◌+◌, ◌^◌, ◌<◌, ◌≤◌, true, false, List, [], ◌∷◌, ◌++◌, map}
use Rattle.std.proofs.Common.{Result, Ok, Err, refl, sym, ap, ◌∙◌}
use Rattle.std.proofs.Common.{append_assoc, arith}
use Rattle.std.specs.Prelude.{All, IsOk, codes, None}
use Rattle.std.specs.List.{slice_split, AllByRecursion}
use Rattle.std.proofs.lemmas.List.Elements.{recursion_from_All, All-from_recursion}
use Rattle.gsym_reads.proofs.Steps.{bind_ok}
use Rattle.gsym_parser.specs.declared.entries.FileInfo.{FileInfo}
use Rattle.gsym_parser.specs.View.{View}
use Rattle.gsym_parser.specs.Search.{entries_of, addresses_of}
use Rattle.gsym_parser.specs.Header.{opened_of}
use Rattle.gsym_resolver.specs.SharedTables.{shared_tables}
use Rattle.gsym_form.specs.Words.{most_long}
use Rattle.gsym_form.specs.Printed.{table_lines, file_line, entry_lines, dump_lines, dump_of, all_read}
use Rattle.gsym_form.specs.Said.{Said, Reading, before, within, behind, with_table, is_newline, lines_said, text_said}
use Rattle.gsym_form.specs.Again.{AreBytes, SaysAgain}
use Rattle.gsym_form.proofs.PrintedLines.{reading, start_said, end_said, nothing_more}
use Rattle.gsym_form.proofs.PrintedParts.{step_said, TableRead, table_read, FilesRead, files_read}
use Rattle.gsym_form.proofs.PrintedParts.{EntriesRead, entries_read, entries_fit}
use Rattle.gsym_form.proofs.FileFacts.{view_bytes, strings_small, strings_bytes, files_fit, info_fits}
use Rattle.gsym_form.proofs.FileFacts.{addresses_fit}
use Rattle.gsym_form.proofs.PlainLines.{AllClean, all_clean, clean_table, clean_files, clean_entries, split_lines}

of_64 : (base : ℕ) (table : List ℕ) → AllByRecursion (λ a. a < 2 ^ 64) (map (λ e. base + e) table) →
    AllByRecursion (λ e. base + e ≤ most_long) table
of_64 base [] a = tt
of_64 base (e ∷ table) a =
    let l : base + e < 2 ^ 64 = a.0 in (omega arith, of_64 base table a.1)

to_64 : (base : ℕ) (table : List ℕ) → AllByRecursion (λ e. base + e ≤ most_long) table →
    AllByRecursion (λ a. a < 2 ^ 64) (map (λ e. base + e) table)
to_64 base [] a = tt
to_64 base (e ∷ table) a =
    let l : base + e ≤ most_long = a.0 in (omega arith, to_64 base table a.1)

module _ (file : List ℕ) (v : View) (a : AreBytes file) (e : opened_of file ≡ Ok v) where
  bytes : AreBytes v.file
  bytes = view_bytes file v a e

  abbrev strings : List ℕ
  strings = (shared_tables v).strings

  abbrev last : List (List ℕ)
  last = codes "end" ∷ [] ∷ []

  abbrev entry_part : List (List ℕ)
  entry_part = entry_lines v

  abbrev file_part : List (List ℕ)
  file_part = map (file_line v) (shared_tables v).files

  abbrev table_part : List (List ℕ)
  table_part = table_lines strings

  parts_split : dump_lines v ++ [] ∷ [] ≡ codes "gsym 1" ∷ (table_part ++ (file_part ++ (entry_part ++ last)))
  parts_split =
      ap (λ (x : List (List ℕ)). codes "gsym 1" ∷ x)
      (append_assoc ((table_part ++ file_part) ++ entry_part) (codes "end" ∷ []) ([] ∷ [])
      ∙ append_assoc (table_part ++ file_part) entry_part last
      ∙ append_assoc table_part file_part (entry_part ++ last))

  all_plain : AllClean (dump_lines v)
  unfolding entry_lines
  all_plain = (
    refl,
    all_clean ((table_part ++ file_part) ++ entry_part) (codes "end" ∷ [])
        (all_clean (table_part ++ file_part) entry_part
        (all_clean table_part file_part (clean_table strings (strings_bytes v bytes))
        (clean_files strings v (shared_tables v).files (files_fit v bytes)))
        (clean_entries strings v (info_fits v bytes) 0 (entries_of v) (addresses_fit file v a e)))
        (refl, tt),
  )

  ended_said : (n : ℕ) (r : Reading) → lines_said n r ([] ∷ []) ≡ Ok r
  unfolding lines_said
  ended_said n r = step_said n r r [] [] (nothing_more n r)

  abbrev rows : List FileInfo
  rows = (shared_tables v).files

  -- the lines of all parts, one part after another
  abbrev first_said : Reading
  first_said = reading [] [] [] [] (λ t. None) before false false

  abbrev tables_part : TableRead (file_part ++ (entry_part ++ last)) 2 strings
  tables_part =
      table_read (file_part ++ (entry_part ++ last)) 2 strings (strings_bytes v bytes) (strings_small file v a e)

  tables_said : (t : TableRead (file_part ++ (entry_part ++ last)) 2 strings)
      (f : FilesRead (entry_part ++ last) strings v t.line [] [] t.texts false rows) →
      lines_said 1 first_said (slice_split is_newline (dump_of v))
      ≡ lines_said f.line (reading strings rows f.lines [] t.texts within true f.has_more) (entry_part ++ last)
  tables_said t f =
      ap (lines_said 1 first_said) (split_lines (dump_lines v) all_plain ∙ parts_split)
      ∙ step_said 1 _ _ (codes "gsym 1") (table_part ++ (file_part ++ (entry_part ++ last))) (start_said 1)
      ∙ t.is
      ∙ f.is

  said_in_parts : (t : TableRead (file_part ++ (entry_part ++ last)) 2 strings)
      (f : FilesRead (entry_part ++ last) strings v t.line [] [] t.texts false rows)
      (m : EntriesRead strings v rows f.lines t.texts last f.line [] f.has_more 0 (entries_of v)) →
      lines_said 1 first_said (slice_split is_newline (dump_of v))
      ≡ Ok (reading strings rows f.lines m.added t.texts behind true m.has_more)
  unfolding entry_lines
  said_in_parts t f m =
      tables_said t f
      ∙ m.is
      ∙ step_said m.line _ _ (codes "end") ([] ∷ [])
      (end_said m.line strings rows f.lines m.added t.texts true m.has_more)
      ∙ ended_said (m.line + 1) (reading strings rows f.lines m.added t.texts behind true m.has_more)

  all_said : (t : TableRead (file_part ++ (entry_part ++ last)) 2 strings)
      (f : FilesRead (entry_part ++ last) strings v t.line [] [] t.texts false rows)
      (m : EntriesRead strings v rows f.lines t.texts last f.line [] f.has_more 0 (entries_of v)) → SaysAgain v
  unfolding text_said with_table
  all_said t f m =
      record {
        said = record { strings = strings; files = rows; file_lines = f.lines; entries = m.added };
        reads = rw (said_in_parts t f m) refl;
        tables = refl;
        entries = m.says;
      }

  says_printed : all_read v ≡ true → AllByRecursion (λ e. v.tables.base.0 + e ≤ most_long) (entries_of v) → SaysAgain v
  unfolding all_read
  says_printed r h =
      let t = tables_part in
      let f = files_read (entry_part ++ last) strings v t.line [] [] t.texts false rows (files_fit v bytes) in
      all_said t f
      (entries_read strings v rows f.lines t.texts last (info_fits v bytes) f.line [] f.has_more 0 (entries_of v) h r)

  -- where the lines of all entries are read, they are as they are to be
  only_fits : (said : Said) → text_said (dump_of v) ≡ Ok said →
      AllByRecursion (λ e. v.tables.base.0 + e ≤ most_long) (entries_of v) × (all_read v ≡ true)
  unfolding text_said all_read entry_lines
  only_fits said q =
      let t = tables_part in
      let f = files_read (entry_part ++ last) strings v t.line [] [] t.texts false rows (files_fit v bytes) in
      let all = bind_ok (lines_said 1 first_said (slice_split is_newline (dump_of v))) _ said q in
      entries_fit strings v rows f.lines t.texts last (info_fits v bytes) f.line [] f.has_more 0 (entries_of v) all.0
      (addresses_fit file v a e) (sym (tables_said t f) ∙ all.1)

pub only_read : (file : List ℕ) (v : View) → AreBytes file → opened_of file ≡ Ok v → (said : Said) →
    text_said (dump_of v) ≡ Ok said → (all_read v ≡ true) × All (λ a. a < 2 ^ 64) (addresses_of v)
unfolding addresses_of
only_read file v a e said q =
    let f = only_fits file v a e said q in
    (f.1, All-from_recursion (λ a. a < 2 ^ 64) _ (to_64 v.tables.base.0 (entries_of v) f.0))

pub says_again : (file : List ℕ) (v : View) → AreBytes file → opened_of file ≡ Ok v → all_read v ≡ true →
    All (λ a. a < 2 ^ 64) (addresses_of v) → SaysAgain v
unfolding addresses_of
says_again file v a e r h =
    says_printed file v a e r
    (of_64 v.tables.base.0 (entries_of v) (recursion_from_All (λ a. a < 2 ^ 64) (addresses_of v) h))

value_there : {A E : Type 0} (r : Result A E) → IsOk r → (x : A) × (r ≡ Ok x)
value_there (Ok x) h = (x, refl)
value_there (Err e) h = absurd cc

pub reads_exactly : (file : List ℕ) (v : View) → AreBytes file → opened_of file ≡ Ok v →
    IsOk (text_said (dump_of v)) ↔ ((all_read v ≡ true) × All (λ a. a < 2 ^ 64) (addresses_of v))
reads_exactly file v a e = (
  λ h. let x = value_there (text_said (dump_of v)) h in only_read file v a e x.0 x.1,
  λ p. let s = says_again file v a e p.0 p.1 in rw s.reads refl,
)
