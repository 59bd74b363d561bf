-- Whether the information of each entry reads, one entry on.
-- Assumes nothing.
use Rattle.std.proofs.Common.{◌≡◌, ℕ, ◌+◌, ◌≤◌, ◌&&◌, Bool, true, false, length, drop, refl, arith}
use Rattle.std.proofs.Common.{drop_of_length-le, Option, Some, None, ◌⊎◌, inl, inr, get_or, sym, ap, ◌∙◌, ◌<◌}
use Rattle.std.specs.Prelude.{is_some}
use Rattle.std.specs.List.{slice_get}
use Rattle.std.proofs.lemmas.Option.{slice_get_cases}
use Rattle.gsym_parser.specs.View.{View}
use Rattle.gsym_parser.specs.Search.{entries_of}
use Rattle.gsym_parser.specs.Entries.{info_at}
use Rattle.gsym_parser.proofs.Table.{length-table, len-le}
use Rattle.gsym_form.specs.Printed.{all_read_from, all_read}
use Rattle.gsym_form.proofs.DumpLines.{drop_there}

and_true : (a : Bool) → (a && true) ≡ a
and_true true = refl
and_true false = refl

and_assoc : (a b c : Bool) → ((a && b) && c) ≡ (a && (b && c))
and_assoc true b c = refl
and_assoc false b c = refl

module _ (v : View) (all : Bool) (i : ℕ) where
  -- past the last entry
  pub read_past : length (entries_of v) ≤ i →
      (all && all_read_from v i (drop i (entries_of v))) ≡ all_read v → all ≡ all_read v
  unfolding all_read_from
  read_past l h =
      sym (and_true all) ∙ ap (λ x. all && x) (sym (ap (all_read_from v i) (drop_of_length-le (entries_of v) l))) ∙ h

  past_none :
      ((x : ℕ) × (i < length (entries_of v)) × (slice_get (entries_of v) i ≡ Some x) × (get_or (entries_of v) i x ≡ x))
      ⊎ ((length (entries_of v) ≤ i) × (slice_get (entries_of v) i ≡ None)) →
      slice_get (entries_of v) i ≡ None → length (entries_of v) ≤ i
  past_none (inl a) p = let z : ◌≡◌ {A = Option ℕ} None (Some a.0) = sym p ∙ a.2 in absurd cc
  past_none (inr b) p = b.0

  pub none_past : slice_get (entries_of v) i ≡ None → length (entries_of v) ≤ i
  none_past p = past_none (slice_get_cases (entries_of v) i).1 p

  -- where there is none
  pub read_none : slice_get (entries_of v) i ≡ None →
      (all && all_read_from v i (drop i (entries_of v))) ≡ all_read v → all ≡ all_read v
  read_none p h = read_past (none_past p) h

  -- behind the count
  pub read_ended : v.tables.count ≤ i →
      (all && all_read_from v i (drop i (entries_of v))) ≡ all_read v → all ≡ all_read v
  read_ended l h = read_past (omega (arith, length-table v, len-le v.tables.offset_size v.tables.count)) h

  -- one entry on
  pub read_next : (e : ℕ) (more : Bool) → slice_get (entries_of v) i ≡ Some e →
      more ≡ (all && is_some (info_at v i)) →
      (all && all_read_from v i (drop i (entries_of v))) ≡ all_read v →
      (more && all_read_from v (i + 1) (drop (i + 1) (entries_of v))) ≡ all_read v
  unfolding all_read_from
  read_next e more p m h =
      let s = drop_there (entries_of v) i e p in
      rw m
      (and_assoc all (is_some (info_at v i)) (all_read_from v (i + 1) (drop (i + 1) (entries_of v)))
      ∙ ap (λ x. all && x) (sym (ap (all_read_from v i) s)) ∙ h)
