-- From what is read in the table's bytes to the answer in the file, and what an answer is held to.
-- Assumes nothing.
use Rattle.std.proofs.Common.{ℕ, ◌+◌, ◌≤◌, ◌<◌, true, false, List, ◌≡◌, ◌≢◌, ◌↔◌, All, refl, ap, sym, ◌∙◌, ⊎_elim}
use Rattle.std.proofs.Common.{length, take, drop, length-drop, arith, le-leb, true≢false, Option, Some, None, IfSome}
use Rattle.std.proofs.Common.{IsSome, IsNone, IsSomeAnd}
use borrow.Author.Tests.{lt-leb}
use Rattle.std.proofs.lemmas.Bool.{cases_lt}
use Rattle.std.proofs.lemmas.List.{length-take}
use Rattle.std.specs.Str.{IsUtf8}
use Rattle.gsym_types.specs.declared.StrOffset.{StrOffset}
use Rattle.gsym_types.specs.declared.Text.{Text}
use Rattle.gsym_strtab.specs.Strings.{part_of, placed, in_table, text_at, name_at, bytes_from, EndsBeforeZero}
use Rattle.gsym_strtab.specs.declared.StrTable.{StrTable}
use Rattle.gsym_strtab.proofs.Texts.{Inside, text_at-found, text_at-none, some-zero, text-within, name-is-text}
use Rattle.gsym_strtab.proofs.Texts.{name-is-utf8, name-of-text}
use Rattle.gsym_strtab.proofs.Scalars.{utf8-IsUtf8}

module _ (read : List ℕ → ℕ → Option ℕ) (file : List ℕ) (table : StrTable) (offset : StrOffset) where
  -- the table is no part of the file
  pub outside : (table.place + table.size ≤ length file → false ≡ true) → None ≡ in_table read file table offset
  outside h =
      ⊎_elim
      (λ (l : length file < table.place + table.size). rw (lt-leb _ _ l))
      (λ (l : table.place + table.size ≤ length file). absurd (true≢false (sym (h l))))
      (cases_lt (length file) (table.place + table.size))

  -- it is, s has its bytes, and l is what is read there
  module _ (s : List ℕ) (l : Option ℕ) (fits : table.place + table.size ≤ length file)
      (bytes : s ≡ take table.size (drop table.place file)) (found : l ≡ read s offset.0) where
    pub told : placed (table.place + offset.0) l ≡ in_table read file table offset
    told = rw (le-leb _ _ fits) (ap (placed (table.place + offset.0)) (found ∙ ap (λ x. read x offset.0) bytes))

    pub fits-place : Inside read → (n : ℕ) → l ≡ Some n → table.place + offset.0 < length file
    fits-place inside n e =
        omega (
          arith,
          inside s offset.0 n (sym found ∙ e),
          ap length bytes,
          length-take table.size (drop table.place file),
          length-drop table.place file,
        )

-- ------------------------------------------------------------------------------------------------
-- what an answer is held to

module _ (file : List ℕ) (table : StrTable) (offset : StrOffset) where
  pub text-place-is :
      {r : Option Text} → r ≡ text_at file table offset → IfSome r (λ t. t.place ≡ table.place + offset.0)
  text-place-is {r = Some t} e = (text_at-found file table offset t (sym e)).0
  text-place-is {r = None} e = tt

  pub text-string-is : {r : Option Text} → r ≡ text_at file table offset →
      IfSome r (λ t. EndsBeforeZero (bytes_from file table offset) t.len)
  text-string-is {r = Some t} e = (text_at-found file table offset t (sym e)).1
  text-string-is {r = None} e = tt

  pub text-within-is : {r : Option Text} → r ≡ text_at file table offset → IfSome r (λ t. t.place + t.len < length file)
  text-within-is {r = Some t} e = text-within file table offset t (sym e)
  text-within-is {r = None} e = tt

  pub text-none-is : {r : Option Text} → r ≡ text_at file table offset →
      IsNone r ↔ All (λ b. b ≢ 0) (bytes_from file table offset)
  text-none-is {r = Some t} e = (λ n. absurd (true≢false n), λ a. absurd (some-zero file table offset t (sym e) a))
  text-none-is {r = None} e = (λ n. text_at-none file table offset (sym e), λ a. refl)

  pub name-text-is :
      {r : Option Text} → r ≡ name_at file table offset → IfSome r (λ t. text_at file table offset ≡ Some t)
  name-text-is {r = Some t} e = name-is-text file table offset t (sym e)
  name-text-is {r = None} e = tt

  some-text :
      (P : Text → Type 0) (t : Text) → text_at file table offset ≡ Some t → P t →
      IsSomeAnd (text_at file table offset) P
  some-text P t e p = rw e p

  pub name-some-is : {r : Option Text} → r ≡ name_at file table offset →
      IsSome r ↔ IsSomeAnd (text_at file table offset) (λ t. IsUtf8 (part_of file t.place t.len))
  name-some-is {r = Some t} e =
      let u = (utf8-IsUtf8 (part_of file t.place t.len)).0 (name-is-utf8 file table offset t (sym e)) in (
        λ y. some-text (λ t. IsUtf8 (part_of file t.place t.len)) t (name-is-text file table offset t (sym e)) u,
        λ a. refl,
      )
  name-some-is {r = None} e =
      (λ y. absurd (true≢false (sym y)), λ a. absurd (no-name (text_at file table offset) refl a))
    where
      no-name :
          (o : Option Text) → text_at file table offset ≡ o → IsSomeAnd o (λ t. IsUtf8 (part_of file t.place t.len)) → ⊥
      no-name (Some t) q u =
          let n = name-of-text file table offset t q ((utf8-IsUtf8 (part_of file t.place t.len)).1 u) in absurd (cc)
      no-name None q u = u
