-- The row that `row_among` gives is the one that RULES names.
-- Assumes nothing.
use Rattle.std.proofs.Common.{◌≡◌, ◌<◌, ◌≤◌, suc, List, [], ◌∷◌, ◌++◌, refl, sym, ap, subst, ◌∙◌, arith, le-ltb, lt-ltb}
use Rattle.std.proofs.Common.{Some, None, Option, if◌then◌else◌}
use Rattle.std.specs.List.{last_or}
use Rattle.gsym_types.specs.declared.Address.{Address}
use Rattle.gsym_linetab.specs.declared.LineTableRow.{LineTableRow}
use Rattle.gsym_linetab.specs.Rows.{Run, row_among, row_in}
use Rattle.gsym_linetab.specs.RowFor.{NoneAbove, IsRowFor}

module _ (addr : Address) (final : LineTableRow) where
  -- the first row is not above, and none of the others is
  first_below : (r : LineTableRow) (rows : List LineTableRow) → NoneAbove addr (r ∷ rows) → r.addr.0 ≤ addr.0
  first_below r rows n = n 0 r (omega arith)

  rest_below : (r : LineTableRow) (rows : List LineTableRow) → NoneAbove addr (r ∷ rows) → NoneAbove addr rows
  rest_below r rows n k d l = n (suc k) d (omega arith)

  module _ (b : Option LineTableRow) (r : LineTableRow) (rest : List LineTableRow) where
    passed : r.addr.0 ≤ addr.0 → row_among addr final b (r ∷ rest) ≡ row_among addr final (Some r) rest
    unfolding row_among
    passed l = ap (λ x. if x then b else row_among addr final (Some r) rest) (le-ltb addr.0 r.addr.0 l)

    above : addr.0 < r.addr.0 → row_among addr final b (r ∷ rest) ≡ b
    unfolding row_among
    above l = ap (λ x. if x then b else row_among addr final (Some r) rest) (lt-ltb addr.0 r.addr.0 l)

  last_before :
      (b : Option LineTableRow) (front rest : List LineTableRow) (next : LineTableRow) → NoneAbove addr front →
      addr.0 < next.addr.0 → row_among addr final b (front ++ next ∷ rest) ≡ last_or b front
  last_before b [] rest next n l = above b next rest l
  last_before b (r ∷ front) rest next n l =
      passed b r (front ++ next ∷ rest) (first_below r front n)
      ∙ last_before (Some r) front rest next (rest_below r front n) l

  at_the_end :
      (before : LineTableRow) (rows : List LineTableRow) → NoneAbove addr rows →
      row_among addr final (Some before) rows ≡ Some final
  unfolding row_among
  at_the_end before [] n = refl
  at_the_end before (r ∷ rows) n =
      passed (Some before) r rows (first_below r rows n) ∙ at_the_end r rows (rest_below r rows n)

module _ (ran : Run) (addr : Address) where
  none_made : ran.rows ≡ [] → row_in ran addr ≡ None
  unfolding row_among
  none_made e = ap (row_among addr ran.final None) e

  made :
      (first : LineTableRow) (rest : List LineTableRow) → ran.rows ≡ first ∷ rest → NoneAbove addr ran.rows →
      row_in ran addr ≡ Some ran.final
  made first rest e n =
      let m : NoneAbove addr (first ∷ rest) = rw e at n in
      ap (row_among addr ran.final None) e
      ∙ passed addr ran.final None first rest (first_below addr ran.final first rest m)
      ∙ at_the_end addr ran.final first rest (rest_below addr ran.final first rest m)

  pub row_chosen : IsRowFor ran addr (row_in ran addr)
  row_chosen = record {
    before = λ front rest next e n l.
        ap (row_among addr ran.final None) e ∙ last_before addr ran.final None front rest next n l;
    none = none_made;
    ended = made;
  }

pub chosen_from :
    (ran : Run) (addr : Address) (row : Option LineTableRow) → row ≡ row_in ran addr → IsRowFor ran addr row
chosen_from ran addr row e = subst (IsRowFor ran addr) (sym e) (row_chosen ran addr)

pub none_is : (ran : Run) (addr : Address) → ran.rows ≡ [] → None ≡ row_in ran addr
none_is ran addr e = sym (none_made ran addr e)
