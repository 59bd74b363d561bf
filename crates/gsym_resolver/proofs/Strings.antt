-- A string reads exactly where one stands, and a name where one does.
-- Assumes nothing.
use Rattle.std.proofs.Common.{ℕ, Bool, true, false, Option, Some, None, ◌≡◌, ◌↔◌, refl, ap, is_some}
use Rattle.gsym_types.specs.declared.StrOffset.{StrOffset}
use Rattle.gsym_strtab.specs.Strings.{text_in, name_in}
use Rattle.gsym_strtab.proofs.Scalars.{utf8-IsUtf8}
use Rattle.gsym_strtab.proofs.Texts.{text_in-is, text_in-ends, name-in-is, name_in-utf8}
use Rattle.gsym_resolver.specs.SharedTables.{SharedTables, reads_text, reads_name, HasText, HasName}

-- a test that holds exactly where a fact does fails exactly where it doesn't
fails : {A : Type 0} (b : Bool) → (b ≡ true) ↔ A → (b ≡ false) ↔ (A → ⊥)
fails true h = (λ e a. absurd cc, λ n. absurd (n (h.0 refl)))
fails false h = (λ e a. let z = h.1 a in absurd cc, λ n. refl)

is_there : (x : Option ℕ) → is_some x ≡ true → (n : ℕ) × (x ≡ Some n)
is_there (Some n) e = (n, refl)
is_there None e = absurd cc

module _ (t : SharedTables) (offset : StrOffset) where
  pub text_read : (reads_text t offset ≡ true) ↔ HasText t offset
  unfolding reads_text
  text_read = (
    λ e. let n = is_there (text_in t.strings offset.0) e in
        record { len = n.0; string = (text_in-is t.strings offset.0 n.0 n.1).1 },
    λ T. ap is_some (text_in-ends t.strings offset.0 T.len T.string),
  )

  pub name_read : (reads_name t offset ≡ true) ↔ HasName t offset
  unfolding reads_name
  name_read = (
    λ e. let n = is_there (name_in t.strings offset.0) e in
        let p = name-in-is t.strings offset.0 n.0 n.1 in
        record {
          len = n.0;
          string = (text_in-is t.strings offset.0 n.0 p.0).1;
          is_utf8 = (utf8-IsUtf8 _).0 p.1;
        },
    λ N. let e = text_in-ends t.strings offset.0 N.len N.string in
        ap is_some (name_in-utf8 t.strings offset.0 N.len e ((utf8-IsUtf8 _).1 N.is_utf8)),
  )

  pub text_unread : (reads_text t offset ≡ false) ↔ (HasText t offset → ⊥)
  text_unread = fails (reads_text t offset) text_read

  pub name_unread : (reads_name t offset ≡ false) ↔ (HasName t offset → ⊥)
  name_unread = fails (reads_name t offset) name_read
