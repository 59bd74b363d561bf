-- What a check makes of an item and of a list: no fault exactly where they read in full, and else the first fault.
-- Assumes nothing.
use Rattle.std.proofs.Common.{◌≡◌, ⊎_elim, ℕ, Bool, true, false, Ok, Err, Result, List, [], ◌∷◌, refl}
use Rattle.std.proofs.Common.{eqb, eqb-true, eq-eqb, ne_eqb, arith}
use borrow.Author.Tests.{eqb-false}
use Rattle.std.specs.Prelude.{IsOk}
use Rattle.std.specs.List.{All}
use Rattle.std.proofs.lemmas.List.Elements.{All-nil, All-cons, All-head, All-tail}
use Rattle.gsym_reads.specs.Steps.{◌>>=◌, ◌>>◌, need, told}
use Rattle.gsym_reads.proofs.Steps.{by_choice}
use Rattle.gsym_types.specs.declared.Address.{Address}
use Rattle.gsym_types.specs.declared.Refusal.{Refusal}
use Rattle.gsym_leb128.specs.declared.Cause.{Cause}
use Rattle.gsym_linetab.specs.declared.Ending.{Ending}
use Rattle.gsym_linetab.specs.declared.Ending.TheVariants.{EndSequence, Stopped, UsedUp}
use Rattle.gsym_linetab.specs.Endings.{ending_of, EndsInFull, LineInFull}
use Rattle.gsym_linetab.specs.Unread.{header_refusal}
use Rattle.gsym_linetab.proofs.Endings.{end_full, end_stops, end_unread}
use Rattle.gsym_inline.specs.Checked.{checked_tree}
use Rattle.gsym_inline.proofs.CheckedTrees.{check_full}
use Rattle.gsym_inline.proofs.CheckedSteps.{check_fault}
use Rattle.gsym_parser.specs.Items.{ItemData}
use Rattle.gsym_resolver.specs.Known.{line_table, inline_info}
use Rattle.gsym_resolver.proofs.Firsts.{first_here, first_later, first_cases, first_none}
use Rattle.gsym_verify.specs.Check.{ended_well, line_checked, item_checked, list_checked}
use Rattle.gsym_verify.specs.Good.{GoodItem}
use Rattle.gsym_verify.specs.Faults.{LineFault, no_header, stopped, ItemFault, in_line, in_tree, ListFault, in_item}
use Rattle.gsym_verify.specs.Faults.{open_list}
use Rattle.gsym_verify.specs.declared.finding.Fault.{Fault}
use Rattle.gsym_verify.specs.declared.finding.Fault.TheVariants.{OpenList, Refused}

-- ---- a line table

module _ (symbol : Address) (bytes : List ℕ) where
  abbrev LineSettled : Result (Unit {0}) Fault → Type 0
  LineSettled (Ok u) = LineInFull symbol bytes
  LineSettled (Err f) = LineFault symbol bytes f

  line_settles : LineSettled (line_checked symbol bytes)
  line_settles = go (ending_of bytes symbol) refl
    where
      go :
          (x : Result Ending Cause) → ending_of bytes symbol ≡ x →
          LineSettled (told (λ c. Refused (header_refusal c)) x >>= ended_well)
      go (Ok (EndSequence n)) e = (end_full bytes symbol _ refl).0 (rw e tt)
      go (Ok Stopped) e = stopped ((end_stops bytes symbol _ refl).0 e)
      go (Ok UsedUp) e = (end_full bytes symbol _ refl).0 (rw e tt)
      go (Err c) e = no_header c ((end_unread bytes symbol _ refl c).0 e)

  line-good : LineInFull symbol bytes → line_checked symbol bytes ≡ Ok tt
  line-good L = go (ending_of bytes symbol) ((end_full bytes symbol _ refl).1 L)
    where
      go : (x : Result Ending Cause) → EndsInFull x →
          (told (λ c. Refused (header_refusal c)) x >>= ended_well) ≡ Ok tt
      go (Ok (EndSequence n)) w = refl
      go (Ok Stopped) w = absurd w
      go (Ok UsedUp) w = refl
      go (Err c) w = absurd w

  line-faulty : (f : Fault) → LineFault symbol bytes f → line_checked symbol bytes ≡ Err f
  line-faulty f (no_header c u) = rw ((end_unread bytes symbol _ refl c).1 u) refl
  line-faulty f (stopped s) = rw ((end_stops bytes symbol _ refl).1 s) refl

-- ---- an item

-- the two types differ
differ : {A : Type 0} (kind : ℕ) → kind ≡ line_table → kind ≡ inline_info → A
differ kind e q = absurd (omega (arith, e, q))

module _ (symbol : Address) (item : ItemData) where
  abbrev pub ItemSettled : Result (Unit {0}) Fault → Type 0
  ItemSettled (Ok u) = GoodItem symbol item
  ItemSettled (Err f) = ItemFault symbol item f

  pub item_settles : ItemSettled (item_checked symbol item)
  unfolding item_checked
  item_settles =
      by_choice ItemSettled (eqb item.kind line_table) _ _
      (λ k. line (eqb-true item.kind line_table k) (line_checked symbol item.bytes) (line_settles symbol item.bytes))
      (λ k. by_choice ItemSettled (eqb item.kind inline_info) _ _
      (λ q. inlined (eqb-false item.kind line_table k) (eqb-true item.kind inline_info q)
      (checked_tree symbol.0 item.bytes) refl)
      (λ q. record {
        line = λ z. absurd (eqb-false item.kind line_table k z);
        inlined = λ z. absurd (eqb-false item.kind inline_info q z);
      }))
    where
      line :
          item.kind ≡ line_table → (x : Result (Unit {0}) Fault) → LineSettled symbol item.bytes x → ItemSettled x
      line k (Ok u) s = record { line = λ _. s; inlined = λ q. differ item.kind k q }
      line k (Err f) s = in_line k s

      inlined :
          (item.kind ≡ line_table → ⊥) → item.kind ≡ inline_info → (x : Result (Unit {0}) Refusal) →
          checked_tree symbol.0 item.bytes ≡ x → ItemSettled (told Refused x)
      inlined n k (Ok u) e = record {
        line = λ z. absurd (n z);
        inlined = λ _. (check_full symbol.0 item.bytes _ refl).0 (rw e refl);
      }
      inlined n k (Err r) e = in_tree k ((check_fault symbol.0 item.bytes r).0 e)

  pub item_good : GoodItem symbol item → item_checked symbol item ≡ Ok tt
  unfolding item_checked
  item_good G =
      by_choice (λ r. r ≡ Ok tt) (eqb item.kind line_table) _ _
      (λ k. line-good symbol item.bytes (G.line (eqb-true item.kind line_table k)))
      (λ _. by_choice (λ r. r ≡ Ok tt) (eqb item.kind inline_info) _ _
      (λ q. go (checked_tree symbol.0 item.bytes)
      ((check_full symbol.0 item.bytes _ refl).1 (G.inlined (eqb-true item.kind inline_info q))))
      (λ _. refl))
    where
      go : (x : Result (Unit {0}) Refusal) → IsOk x → told Refused x ≡ Ok tt
      go (Ok u) h = refl
      go (Err r) h = absurd cc

  pub item_faulty : (f : Fault) → ItemFault symbol item f → item_checked symbol item ≡ Err f
  unfolding item_checked
  item_faulty f (in_line k s) = rw (eq-eqb item.kind line_table k) (line-faulty symbol item.bytes f s)
  item_faulty f (in_tree {r} k s) =
      rw (
        ne_eqb item.kind line_table (λ z. differ item.kind z k),
        eq-eqb item.kind inline_info k,
        (check_fault symbol.0 item.bytes r).1 s,
      ) refl

-- ---- a list

module _ (symbol : Address) (closed : Bool) where
  abbrev pub ListSettled : List ItemData → Result (Unit {0}) Fault → Type 0
  ListSettled items (Ok u) = All (GoodItem symbol) items × (closed ≡ true)
  ListSettled items (Err f) = ListFault symbol items closed f

  pub list_settles : (items : List ItemData) → ListSettled items (list_checked symbol items closed)
  unfolding list_checked
  list_settles [] = go closed refl
    where
      go : (b : Bool) → closed ≡ b → ListSettled [] (need b OpenList)
      go true e = (All-nil (GoodItem symbol), e)
      go false e = open_list (All-nil (GoodItem symbol)) e
  list_settles (item ∷ items) =
      go (item_checked symbol item) (item_settles symbol item) (list_checked symbol items closed) (list_settles items)
    where
      later : GoodItem symbol item → (y : Result (Unit {0}) Fault) → ListSettled items y → ListSettled (item ∷ items) y
      later g (Ok u) s = (All-cons (GoodItem symbol) item items g s.0, s.1)
      later g (Err f) (in_item F) = in_item (first_later (GoodItem symbol) (λ i. ItemFault symbol i f) item items g F)
      later g (Err f) (open_list a e) = open_list (All-cons (GoodItem symbol) item items g a) e

      go :
          (x : Result (Unit {0}) Fault) → ItemSettled symbol item x → (y : Result (Unit {0}) Fault) →
          ListSettled items y → ListSettled (item ∷ items) (x >> y)
      go (Ok u) s y t = later s y t
      go (Err f) s y t = in_item (first_here (GoodItem symbol) (λ i. ItemFault symbol i f) item items s)

  pub list_good :
      (items : List ItemData) → All (GoodItem symbol) items → closed ≡ true → list_checked symbol items closed ≡ Ok tt
  unfolding list_checked
  list_good [] a e = rw e refl
  list_good (item ∷ items) a e =
      rw (item_good symbol item (All-head (GoodItem symbol) item items a))
      (list_good items (All-tail (GoodItem symbol) item items a) e)

  pub list_faulty :
      (items : List ItemData) (f : Fault) → ListFault symbol items closed f → list_checked symbol items closed ≡ Err f
  unfolding list_checked
  list_faulty [] f (in_item F) = absurd (first_none (GoodItem symbol) (λ i. ItemFault symbol i f) F)
  list_faulty [] f (open_list a e) = rw e refl
  list_faulty (item ∷ items) f (in_item F) =
      ⊎_elim
      (λ (p : ItemFault symbol item f). rw (item_faulty symbol item f p) refl)
      (λ p. rw (item_good symbol item p.0) (list_faulty items f (in_item p.1)))
      (first_cases (GoodItem symbol) (λ i. ItemFault symbol i f) item items F)
  list_faulty (item ∷ items) f (open_list a e) =
      rw (item_good symbol item (All-head (GoodItem symbol) item items a))
      (list_faulty items f (open_list (All-tail (GoodItem symbol) item items a) e))
