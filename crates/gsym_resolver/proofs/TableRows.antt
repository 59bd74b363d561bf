-- The row of a line table, by the function that finds it and in RULES' words, is the same.
-- Assumes nothing.
use Rattle.std.proofs.Common.{◌≡◌, ◌↔◌, ◌<◌, ◌≤◌, ◌⊎◌, inl, inr, ⊎_elim, List, [], ◌∷◌, ◌++◌, refl, sym, ap, ◌∙◌, Ok}
use Rattle.std.proofs.Common.{Err, Option, Result, ℕ}
use Rattle.std.proofs.lemmas.Bool.Decides.{leb_tells}
use Rattle.std.proofs.lemmas.List.Elements.{All-nil, All-cons}
use Rattle.gsym_reads.specs.Steps.{◌>>=◌}
use Rattle.gsym_types.specs.declared.Address.{Address}
use Rattle.gsym_leb128.specs.declared.Cause.{Cause}
use Rattle.gsym_linetab.specs.declared.LineTableRow.{LineTableRow}
use Rattle.gsym_linetab.specs.Rows.{Run, row_in, table_of, line_row}
use Rattle.gsym_linetab.specs.RowFor.{NoneAbove, IsRowFor}
use Rattle.gsym_linetab.proofs.Choice.{row_chosen, chosen_from}
use Rattle.gsym_resolver.specs.Met.{TableGives}

-- the first row of a list that is above the address
record Passed (addr : Address) (rows : List LineTableRow) : Type 0 where
  front : List LineTableRow
  next : LineTableRow
  rest : List LineTableRow
  split : rows ≡ front ++ next ∷ rest
  below : NoneAbove addr front
  above : addr.0 < next.addr.0

passed_or_none : (addr : Address) (rows : List LineTableRow) → NoneAbove addr rows ⊎ Passed addr rows
passed_or_none addr [] = inl (All-nil (λ row. row.addr.0 ≤ addr.0))
passed_or_none addr (r ∷ rows) =
    ⊎_elim (λ b. later b.1 (passed_or_none addr rows)) (λ a. inr (here a.1)) (leb_tells r.addr.0 addr.0)
  where
    here : addr.0 < r.addr.0 → Passed addr (r ∷ rows)
    here a = record {
      front = [];
      next = r;
      rest = rows;
      split = refl;
      below = All-nil (λ row. row.addr.0 ≤ addr.0);
      above = a;
    }

    later :
        r.addr.0 ≤ addr.0 → NoneAbove addr rows ⊎ Passed addr rows → NoneAbove addr (r ∷ rows) ⊎ Passed addr (r ∷ rows)
    later b (inl n) = inl (All-cons (λ row. row.addr.0 ≤ addr.0) r rows b n)
    later b (inr p) = inr (record {
      front = r ∷ p.front;
      next = p.next;
      rest = p.rest;
      split = ap (λ l. r ∷ l) p.split;
      below = All-cons (λ row. row.addr.0 ≤ addr.0) r p.front b p.below;
      above = p.above;
    })

-- one row at most, or none, is that of an address
module _ (ran : Run) (addr : Address) where
  row_only : (r s : Option LineTableRow) → IsRowFor ran addr r → IsRowFor ran addr s → r ≡ s
  row_only r s h k = ⊎_elim (λ n. ended ran.rows refl n) passed (passed_or_none addr ran.rows)
    where
      ended : (rows : List LineTableRow) → ran.rows ≡ rows → NoneAbove addr ran.rows → r ≡ s
      ended [] e n = h.none e ∙ sym (k.none e)
      ended (first ∷ rest) e n = h.ended first rest e n ∙ sym (k.ended first rest e n)

      passed : Passed addr ran.rows → r ≡ s
      passed p =
          h.before p.front p.rest p.next p.split p.below p.above
          ∙ sym (k.before p.front p.rest p.next p.split p.below p.above)

-- a table gives a row, or none, exactly if the function finds it so
pub table_row :
    (symbol addr : Address) (bytes : List ℕ) (row : Option LineTableRow) →
    (line_row bytes symbol addr ≡ Ok row) ↔ TableGives symbol addr bytes row
unfolding line_row
table_row symbol addr bytes row = (
  λ e. go (table_of bytes symbol) refl e,
  λ t. rw t.reads (ap Ok (row_only t.table addr (row_in t.table addr) row (row_chosen t.table addr) t.row_is)),
)
  where
    go : (x : Result Run Cause) → table_of bytes symbol ≡ x → (x >>= λ ran. Ok (row_in ran addr)) ≡ Ok row →
        TableGives symbol addr bytes row
    go (Ok ran) t e =
        let r : row ≡ row_in ran addr = cc in
        record { table = ran; reads = t; row_is = chosen_from ran addr row r }
    go (Err c) t e = absurd cc
