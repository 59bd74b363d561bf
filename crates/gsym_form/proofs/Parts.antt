-- A part of a list, where each element is told otherwise; the entries with theirs, one more; and what stands at the
-- front of a list.
-- Assumes nothing.
use Rattle.std.proofs.Common.{◌≡◌, ℕ, ◌-◌, ◌&&◌, Bool, true, false, List, [], ◌++◌, map, length, take, drop, refl, ap}
use Rattle.std.proofs.Common.{sym, ◌∙◌, ◌∷◌, ◌+◌, ◌<◌, append_assoc}
use Rattle.std.specs.Borrow.{Bor}
use Rattle.std.specs.List.{slice_index_or}
use Rattle.std.specs.Prelude.{nat_le, if◌then◌else◌}
use Rattle.std.proofs.lemmas.List.{drop-map, take-map, length-map, take_at, drop_more, map-append}
use Rattle.gsym_parser.specs.declared.items.Item.{Item}
use Rattle.gsym_parser.specs.Items.{item_view}
use Rattle.gsym_writer.specs.declared.Entry.{Entry}
use Rattle.gsym_writer.specs.View.{entry_view}
use Rattle.gsym_form.specs.Form.{part_of, entry_given}
use Rattle.gsym_form.specs.declared.form.FormEntry.{FormEntry}

module _ {A B : Type 0} (f : A → B) (first end : ℕ) (xs : List A) where
  by_test : (b : Bool) → map f (if b then take (end - first) (drop first xs) else [])
      ≡ (if b then take (end - first) (drop first (map f xs)) else [])
  by_test true = rw (drop-map f first xs, take-map f (end - first) (drop first xs)) refl
  by_test false = refl

  pub part_map : map f (part_of first end xs) ≡ part_of first end (map f xs)
  unfolding part_of
  part_map = rw (length-map xs f) (by_test (nat_le first end && nat_le end (length xs)))

module _ (items : List Item) (es : List FormEntry) (i : ℕ) (d : FormEntry) (list more : List Entry)
    (own : Bor (List Item)) where
  abbrev this : FormEntry
  this = slice_index_or es i d

  -- one entry more
  pub entries_next :
      i < length es → own.now ≡ part_of this.first this.end items →
      more ≡ list ++ record { addr = this.addr; size = this.size; name = this.name; items = own } ∷ [] →
      map entry_view list ++ map (entry_given (map item_view items)) (drop i es)
      ≡ map (entry_given (map item_view items)) es →
      map entry_view more ++ map (entry_given (map item_view items)) (drop (i + 1) es)
      ≡ map (entry_given (map item_view items)) es
  entries_next l o m h =
      rw (
        m,
        map-append entry_view list
            (record { addr = this.addr; size = this.size; name = this.name; items = own } ∷ []),
      )
      (append_assoc (map entry_view list) _ _
      ∙ rw (o, part_map item_view this.first this.end items)
      (ap (λ r. map entry_view list ++ map (entry_given (map item_view items)) r) (sym (drop_more es i d l)) ∙ h))

pub front_of : (a b c : List ℕ) (n : ℕ) → n ≡ length a → c ≡ a ++ b → take n c ≡ a
front_of a b c n e h = ap (take n) h ∙ take_at a b n (sym e)
