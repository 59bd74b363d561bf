-- A lookup is refused exactly where the condition of its refusal is met, the first in the order of RULES; else it
-- answers what the entry's data say that the address lands on.
-- Assumes nothing.
use Rattle.std.proofs.Common.{◌≡◌, ◌↔◌, Ok, Err, Result, IsOk, ℕ, List, refl, sym, subst, ◌∙◌}
use Rattle.gsym_reads.specs.Steps.{◌>>=◌}
use Rattle.gsym_reads.proofs.Steps.{through}
use Rattle.gsym_types.specs.declared.Address.{Address}
use Rattle.gsym_types.specs.declared.Options.{Options}
use Rattle.gsym_types.specs.declared.Refusal.{Refusal}
use Rattle.gsym_parser.specs.Header.{opened_of}
use Rattle.gsym_parser.specs.Search.{find_of}
use Rattle.gsym_parser.specs.Entries.{symbol_at}
use Rattle.gsym_parser.proofs.Unopened.{opened_refused}
use Rattle.gsym_parser.proofs.Symbols.{find-unknown, unknown-find}
use Rattle.gsym_resolver.specs.EntryData.{data_at, Entered}
use Rattle.gsym_resolver.specs.SharedTables.{shared_tables}
use Rattle.gsym_resolver.specs.EntryAnswer.{entry_answer}
use Rattle.gsym_resolver.specs.Lookup.{LookedUp, lookup_of}
use Rattle.gsym_resolver.specs.WithPlaces.{with_places, lookup_in_values}
use Rattle.gsym_resolver.specs.Met.{Met, not_opened, not_found, no_info, by_entry}
use Rattle.gsym_resolver.specs.Answered.{Answered}
use Rattle.gsym_reads.proofs.Steps.{by_given, by_outcome}
use Rattle.gsym_resolver.proofs.Joined.{lookup_with_places}
use Rattle.gsym_resolver.proofs.Answers.{IsOutcome, entry_outcome, unanswered_answer, says_answer}

module _ (file : List ℕ) (addr : Address) (o : Options) (room : ℕ) where
  abbrev LookupOutcome : Result LookedUp Refusal → Type 0
  LookupOutcome (Ok l) = Answered file addr o room l
  LookupOutcome (Err r) = Met file addr o room r

  values_outcome : LookupOutcome (lookup_in_values file addr o room)
  unfolding lookup_in_values
  values_outcome =
      through LookupOutcome (opened_of file) _ (λ r e. not_opened ((opened_refused file r).0 e)) (λ v e.
      by_given LookupOutcome _ (find_of v addr) _ (λ n. not_found v e (find-unknown v addr n)) (λ i f.
      by_given LookupOutcome _ (data_at v i) _ (λ n. no_info v i e f n) (λ d k.
      let E : Entered file addr = record { view = v; index = i; entry = d; opens = e; finds = f; reads = k } in
      by_outcome LookupOutcome (IsOutcome (shared_tables v) (symbol_at v i) d addr o room)
      (entry_answer (shared_tables v) (symbol_at v i) d addr o room) _
      (entry_outcome (shared_tables v) (symbol_at v i) d addr o room)
      (λ r u. by_entry E u)
      (λ a x h. record { entered = E; values = a; said = h; places = refl }))))

  lookup_outcome : LookupOutcome (lookup_of file addr o room)
  lookup_outcome = subst LookupOutcome (sym (lookup_with_places file addr o room)) values_outcome

  met_values : (r : Refusal) → Met file addr o room r → lookup_in_values file addr o room ≡ Err r
  unfolding lookup_in_values
  met_values r (not_opened u) = let e = (opened_refused file r).1 u in rw e
  met_values r (not_found v e w) = let u = unknown-find v addr w in rw (e, u)
  met_values r (no_info v i e f k) = rw (e, f, k)
  met_values r (by_entry E u) =
      let s = unanswered_answer (shared_tables E.view) (symbol_at E.view E.index) E.entry addr o room r u in
      rw (E.opens, E.finds, E.reads, s)

  -- on an entry, a lookup is what the entry says
  pub lookup_entered : (E : Entered file addr) →
      lookup_of file addr o room
      ≡ (entry_answer (shared_tables E.view) (symbol_at E.view E.index) E.entry addr o room >>= λ a.
      Ok (with_places (shared_tables E.view) E.view.tables.strings.place a))
  unfolding lookup_in_values
  lookup_entered E = lookup_with_places file addr o room ∙ rw (E.opens, E.finds, E.reads)

  pub met_lookup : (r : Refusal) → Met file addr o room r → lookup_of file addr o room ≡ Err r
  met_lookup r m = lookup_with_places file addr o room ∙ met_values r m

  pub lookup_met : (r : Refusal) → lookup_of file addr o room ≡ Err r → Met file addr o room r
  lookup_met r e = subst LookupOutcome e lookup_outcome

  -- refused with r exactly where r's condition is the first met
  pub lookup_refused : (r : Refusal) → (lookup_of file addr o room ≡ Err r) ↔ Met file addr o room r
  lookup_refused r = (lookup_met r, met_lookup r)

  -- and answered exactly with what the data of the entry say
  pub lookup_answered : (l : LookedUp) → (lookup_of file addr o room ≡ Ok l) ↔ Answered file addr o room l
  lookup_answered l = (
    λ e. subst LookupOutcome e lookup_outcome,
    λ A. let E = A.entered in
        let s = says_answer (shared_tables E.view) (symbol_at E.view E.index) E.entry addr o room A.values A.said in
        lookup_entered E ∙ rw (s, A.places),
  )

  -- there is an answer exactly if no condition is met
  pub lookup_unmet : IsOk (lookup_of file addr o room) ↔ ((r : Refusal) → Met file addr o room r → ⊥)
  lookup_unmet = go (lookup_of file addr o room) lookup_outcome lookup_refused
    where
      go : (x : Result LookedUp Refusal) → LookupOutcome x → ((r : Refusal) → (x ≡ Err r) ↔ Met file addr o room r) →
          IsOk x ↔ ((r : Refusal) → Met file addr o room r → ⊥)
      go (Ok l) h f = (λ e r m. let z = (f r).1 m in cc, λ g. refl)
      go (Err r) h f = (λ e. absurd cc, λ g. absurd (g r h))
