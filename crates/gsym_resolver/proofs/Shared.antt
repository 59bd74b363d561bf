-- The shared tables of an opened file: their rows are those of the file table in place, and a string or a name reads in
-- the file exactly where it reads in them.
-- Assumes nothing.
use Rattle.std.proofs.Common.{◌≡◌, ℕ, zero, suc, ◌+◌, ◌*◌, ◌<◌, ◌≤◌, Some, None, Option, List, drop, refl, sym, ap, ◌∙◌}
use Rattle.std.proofs.Common.{⊎_elim, is_some, slice_get, drop-drop, length-drop, arith, lt-ltb, le-ltb, if◌then◌else◌}
use Rattle.std.proofs.lemmas.Bool.{cases_lt}
use Rattle.gsym_types.specs.declared.FileIndex.{FileIndex}
use Rattle.gsym_types.specs.declared.StrOffset.{StrOffset}
use Rattle.gsym_strtab.specs.Strings.{text_in, name_in, placed}
use Rattle.gsym_strtab.proofs.Texts.{text_in-table, name-in-table, name-in-is}
use Rattle.gsym_parser.specs.View.{View}
use Rattle.gsym_parser.specs.Header.{Within}
use Rattle.gsym_parser.specs.Entries.{file_at}
use Rattle.gsym_parser.specs.Texts.{text_at, name_at}
use Rattle.gsym_parser.proofs.Inside.{u32_there}
use Rattle.gsym_resolver.specs.SharedTables.{SharedTables, file_row, files_in, shared_tables, reads_text, reads_name}
use Rattle.gsym_resolver.specs.WithPlaces.{text, text_with_place}

module _ (t : SharedTables) (place : ℕ) (offset : StrOffset) where
  placed_text :
      placed (place + offset.0) (text_in t.strings offset.0)
      ≡ (if reads_text t offset then Some (text_with_place t place offset) else None)
  unfolding reads_text text_with_place
  placed_text = go (text_in t.strings offset.0)
    where
      go : (l : Option ℕ) → placed (place + offset.0) l ≡ (if is_some l then Some (text (place + offset.0) l) else None)
      go (Some n) = refl
      go None = refl

  -- a name is the string of its length
  placed_name :
      placed (place + offset.0) (name_in t.strings offset.0)
      ≡ (if reads_name t offset then Some (text_with_place t place offset) else None)
  unfolding reads_name text_with_place
  placed_name = go (name_in t.strings offset.0) refl
    where
      go : (l : Option ℕ) → name_in t.strings offset.0 ≡ l →
          placed (place + offset.0) l
          ≡ (if is_some l then Some (text (place + offset.0) (text_in t.strings offset.0)) else None)
      go (Some n) e = rw (name-in-is t.strings offset.0 n e).0
      go None e = refl

-- ---- rows of the file table

nth_there : (n i : ℕ) (bytes : List ℕ) → i < n → slice_get (files_in n bytes) i ≡ Some (file_row (drop (i * 8) bytes))
unfolding files_in
nth_there zero i bytes h = absurd (omega arith)
nth_there (suc n) zero bytes h = refl
nth_there (suc n) (suc i) bytes h =
    let e : 8 + i * 8 ≡ suc i * 8 = omega arith in
    nth_there n i (drop 8 bytes) (omega arith)
    ∙ ap (λ l. Some (file_row l)) (drop-drop (i * 8) 8 bytes ∙ ap (λ k. drop k bytes) e)

nth_none : (n i : ℕ) (bytes : List ℕ) → n ≤ i → slice_get (files_in n bytes) i ≡ None
unfolding files_in
nth_none zero i bytes h = refl
nth_none (suc n) zero bytes h = absurd (omega arith)
nth_none (suc n) (suc i) bytes h = nth_none n i (drop 8 bytes) (omega arith)

-- ---- an opened file

module _ (v : View) (w : Within v.file v.tables) where
  pub file_in_tables : (index : FileIndex) → file_at v index ≡ slice_get (shared_tables v).files index.0
  unfolding file_at shared_tables
  file_in_tables index =
      ⊎_elim
      (λ (l : index.0 < v.tables.file_count).
      let row = drop (v.tables.files + index.0 * 8) v.file in
      let first = u32_there row (rw length-drop (omega (arith, w.files_end))) in
      let second = u32_there (drop 4 row) (rw (length-drop, length-drop) (omega (arith, w.files_end))) in
      rw (
        lt-ltb _ _ l,
        first,
        second,
        nth_there v.tables.file_count index.0 (drop v.tables.files v.file) l,
        drop-drop (index.0 * 8) v.tables.files v.file,
      ))
      (λ (l : v.tables.file_count ≤ index.0).
      rw (le-ltb _ _ l) (sym (nth_none v.tables.file_count index.0 (drop v.tables.files v.file) l)))
      (cases_lt index.0 v.tables.file_count)

  pub text_in_tables :
      (offset : StrOffset) → text_at v offset
      ≡ (if reads_text (shared_tables v) offset
      then Some (text_with_place (shared_tables v) v.tables.strings.place offset)
      else None)
  unfolding shared_tables
  text_in_tables offset =
      text_in-table v.file v.tables.strings offset w.strings_end
      ∙ placed_text (shared_tables v) v.tables.strings.place offset

  pub name_in_tables :
      (offset : StrOffset) → name_at v offset
      ≡ (if reads_name (shared_tables v) offset
      then Some (text_with_place (shared_tables v) v.tables.strings.place offset)
      else None)
  unfolding shared_tables
  name_in_tables offset =
      name-in-table v.file v.tables.strings offset w.strings_end
      ∙ placed_name (shared_tables v) v.tables.strings.place offset
