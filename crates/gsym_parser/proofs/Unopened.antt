-- A file is refused exactly where the condition of its refusal is met, the first in the order of RULES.
-- Assumes nothing.
use Rattle.std.proofs.Common.{◌≡◌, ◌↔◌, ℕ, ◌+◌, ◌*◌, ◌<◌, ◌≤◌, List, Some, None, Result, Ok, Err, length, drop}
use Rattle.std.proofs.Common.{leb, eqb, length-drop, ap, subst, ⊎_elim, arith, le-ltb, lt-ltb, le-leb, eqb-true, ne_eqb}
use Rattle.std.proofs.Common.{◌∙◌}
use Rattle.std.proofs.lemmas.Bool.{cases_lt, leb-true, leb-false, lt-leb, eqb-false}
use Rattle.gsym_reads.proofs.Steps.{by_given, by_test, by_outcome}
use Rattle.gsym_reads.specs.Fronts.{u16_front, u32_front}
use Rattle.gsym_reads.specs.Answers.{u16_at, u32_at}
use Rattle.gsym_types.specs.declared.Refusal.{Refusal}
use Rattle.gsym_parser.specs.declared.opening.Header.{Header}
use Rattle.std.specs.Result.{result_map_both, IsErrOf}
use Rattle.gsym_parser.specs.declared.GsymContext.{GsymContext}
use Rattle.gsym_parser.specs.View.{view}
use Rattle.gsym_parser.specs.Format.{magic_number, version_number, header_len}
use Rattle.gsym_parser.specs.Numbers.{file_header}
use Rattle.gsym_parser.specs.Header.{file_count_place, files_place, tables_of, opened_of}
use Rattle.gsym_parser.specs.Unopened.{HasHeader, Unopened, no_magic, other_magic, no_version, other_version, no_header}
use Rattle.gsym_parser.specs.Unopened.{no_offsets, no_files, no_strings}

-- ---- a number that doesn't read runs past the end

u32_past : (s : List ℕ) (at : ℕ) → length s < at + 4 → u32_at s at ≡ None
unfolding u32_at u32_front
u32_past s at h = let l : length (drop at s) < 4 = rw length-drop (omega arith) in rw (lt-ltb _ _ l)

past_u32 : (s : List ℕ) (at : ℕ) → u32_at s at ≡ None → length s < at + 4
unfolding u32_at u32_front
past_u32 s at e =
    ⊎_elim
    (λ (l : length (drop at s) < 4). omega (arith, length-drop at s))
    (λ (l : 4 ≤ length (drop at s)). absurd (let f = rw (le-ltb _ _ l) at e in cc))
    (cases_lt (length (drop at s)) 4)

u16_past : (s : List ℕ) (at : ℕ) → length s < at + 2 → u16_at s at ≡ None
unfolding u16_at u16_front
u16_past s at h = let l : length (drop at s) < 2 = rw length-drop (omega arith) in rw (lt-ltb _ _ l)

past_u16 : (s : List ℕ) (at : ℕ) → u16_at s at ≡ None → length s < at + 2
unfolding u16_at u16_front
past_u16 s at e =
    ⊎_elim
    (λ (l : length (drop at s) < 2). omega (arith, length-drop at s))
    (λ (l : 2 ≤ length (drop at s)). absurd (let f = rw (le-ltb _ _ l) at e in cc))
    (cases_lt (length (drop at s)) 2)

module _ (file : List ℕ) where
  abbrev IsOutcome : {A : Type 0} → Result A Refusal → Type 0
  IsOutcome (Ok v) = Unit {0}
  IsOutcome (Err r) = Unopened file r

  abbrev h : Header
  h = file_header file

  tables_outcome : HasHeader file → IsOutcome (tables_of file h)
  unfolding tables_of
  tables_outcome H =
      by_given IsOutcome _ (u32_at file (file_count_place h)) _
      (λ e. no_offsets H (past_u32 file (file_count_place h) e)) (λ n e.
      by_test IsOutcome (leb (files_place h + n * 8) (length file)) _ _ (λ p. no_files n H e (leb-false _ _ p)) (λ p.
      by_test IsOutcome (leb (h.strings_offset + h.strings_size) (length file)) _ _
      (λ q. no_strings n H e (leb-true _ _ p) (leb-false _ _ q)) (λ q. tt)))

  opened_outcome : IsOutcome (opened_of file)
  unfolding opened_of
  opened_outcome =
      by_given IsOutcome _ (u32_at file 0) _ (λ e. no_magic (past_u32 file 0 e)) (λ x e.
      by_test IsOutcome (eqb x magic_number) _ _ (λ p. other_magic x e (eqb-false x magic_number p)) (λ p.
      let m = e ∙ ap Some (eqb-true x magic_number p) in
      by_given IsOutcome _ (u16_at file 4) _ (λ f. no_version m (past_u16 file 4 f)) (λ n f.
      by_test IsOutcome (eqb n version_number) _ _ (λ q. other_version n m f (eqb-false n version_number q)) (λ q.
      let v = f ∙ ap Some (eqb-true n version_number q) in
      by_test IsOutcome (leb header_len (length file)) _ _ (λ l. no_header m v (leb-false _ _ l)) (λ l.
      by_outcome IsOutcome IsOutcome (tables_of file h) _
      (tables_outcome (record { magic = m; version = v; whole = leb-true _ _ l })) (λ r u. u) (λ t k u. tt))))))

  refused_opened : (r : Refusal) → Unopened file r → opened_of file ≡ Err r
  unfolding opened_of tables_of
  refused_opened r (no_magic l) = let e = u32_past file 0 l in rw e
  refused_opened r (other_magic m e n) = rw (e, ne_eqb m magic_number n)
  refused_opened r (no_version m l) = let e = u16_past file 4 l in rw (m, e)
  refused_opened r (other_version n m e d) = rw (m, e, ne_eqb n version_number d)
  refused_opened r (no_header m v l) = rw (m, v, lt-leb _ _ l)
  refused_opened r (no_offsets H l) =
      let e = u32_past file (file_count_place h) l in rw (H.magic, H.version, le-leb _ _ H.whole, e)
  refused_opened r (no_files n H e l) = rw (H.magic, H.version, le-leb _ _ H.whole, e, lt-leb _ _ l)
  refused_opened r (no_strings n H e k l) =
      rw (H.magic, H.version, le-leb _ _ H.whole, e, le-leb _ _ k, lt-leb _ _ l)

  pub opened_refused : (r : Refusal) → (opened_of file ≡ Err r) ↔ Unopened file r
  opened_refused r = (λ e. subst IsOutcome e opened_outcome, refused_opened r)

-- the same of a call, whatever it returned
pub call_refused :
    (file : List ℕ) (result : Result GsymContext Refusal) → result_map_both view (λ r. r) result ≡ opened_of file →
    (r : Refusal) → IsErrOf result r ↔ Unopened file r
call_refused file (Ok c) e r = (λ z. absurd cc, λ u. let z = (opened_refused file r).1 u in absurd cc)
call_refused file (Err s) e r = (
  λ z. (opened_refused file r).0 (let q : s ≡ r = cc in cc),
  λ u. let z = (opened_refused file r).1 u in cc,
)
