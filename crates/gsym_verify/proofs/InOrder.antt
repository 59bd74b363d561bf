-- The entries from an index on, one entry on.
-- Assumes nothing.
use Rattle.std.proofs.Common.{◌≡◌, ℕ, suc, ◌+◌, ◌<◌, ◌≤◌, List, [], ◌∷◌, length, drop, drop-cons, drop_of_length-le, refl}
use Rattle.std.proofs.Common.{ap, ◌∙◌, arith, add-one, Option, Some, None, Ok, Err, ◌⊎◌, inl, inr, get_or, sym}
use Rattle.std.specs.List.{slice_get}
use Rattle.std.proofs.lemmas.Option.{slice_get_within, slice_get_cases, get_or_from_slice_get}
use Rattle.gsym_parser.specs.View.{View}
use Rattle.gsym_parser.specs.Search.{entries_of}
use Rattle.gsym_parser.proofs.Table.{length-table, len-le}
use Rattle.gsym_verify.specs.Content.{entry_content, contents_from, content_of}
use Rattle.gsym_verify.specs.Check.{entry_checked, entries_checked, content_checked}
use Rattle.gsym_verify.specs.declared.finding.Fault.{Fault}
use Rattle.gsym_verify.specs.declared.finding.Finding.TheVariants.{Entry}

pub entries_start :
    (v : View) →
    content_checked (content_of v)
    ≡ entries_checked (content_of v).strings None 0 (contents_from v 0 (drop 0 (entries_of v)))
unfolding content_checked
entries_start v = refl

module _ (v : View) (i : ℕ) where
  split :
      (e : ℕ) → slice_get (entries_of v) i ≡ Some e → drop i (entries_of v) ≡ e ∷ drop (i + 1) (entries_of v)
  split e p =
      rw (add-one i)
      (drop-cons (entries_of v) i e (slice_get_within (entries_of v) i e p)
      ∙ ap (λ x. x ∷ drop (suc i) (entries_of v)) (get_or_from_slice_get (entries_of v) i e e p))

  past : (xs : List ℕ) (k : ℕ) → slice_get xs k ≡ None → drop k xs ≡ []
  past xs k p = by (slice_get_cases xs k).1
    where
      by :
          ((x : ℕ) × (k < length xs) × (slice_get xs k ≡ Some x) × (get_or xs k x ≡ x))
          ⊎ ((length xs ≤ k) × (slice_get xs k ≡ None)) →
          drop k xs ≡ []
      by (inl a) = let z : ◌≡◌ {A = Option ℕ} None (Some a.0) = sym p ∙ a.2 in absurd cc
      by (inr b) = drop_of_length-le xs b.0

  pub index_within : (e : ℕ) → slice_get (entries_of v) i ≡ Some e → i < v.tables.count
  index_within e p =
      omega (
        arith,
        slice_get_within (entries_of v) i e p,
        length-table v,
        len-le v.tables.offset_size v.tables.count,
      )

  module _ (strings : List ℕ) (before : Option ℕ) where
    pub entry_bad :
        (e : ℕ) (f : Fault) → slice_get (entries_of v) i ≡ Some e →
        entry_checked strings before (entry_content v i e) ≡ Err f →
        entries_checked strings before i (contents_from v i (drop i (entries_of v))) ≡ Err (Entry i f)
    unfolding entries_checked contents_from
    entry_bad e f p q = rw (split e p, q) refl

    pub entry_good :
        (e : ℕ) (u : Unit {0}) → slice_get (entries_of v) i ≡ Some e →
        entry_checked strings before (entry_content v i e) ≡ Ok u →
        entries_checked strings before i (contents_from v i (drop i (entries_of v)))
        ≡ entries_checked strings (Some (v.tables.base.0 + e)) (i + 1)
        (contents_from v (i + 1) (drop (i + 1) (entries_of v)))
    unfolding entries_checked contents_from
    entry_good e u p q = rw (split e p, q) refl

    pub entries_end :
        slice_get (entries_of v) i ≡ None →
        entries_checked strings before i (contents_from v i (drop i (entries_of v))) ≡ Ok tt
    unfolding entries_checked contents_from
    entries_end p = rw (past (entries_of v) i p) refl

pub ruleset entries = (entries_start, index_within, entry_bad, entry_good, entries_end)
