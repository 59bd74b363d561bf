-- Lists that are made of rows: one row more, and all of them.
-- Assumes nothing.
use Rattle.std.proofs.Common.{◌≡◌, ℕ, suc, ◌+◌, ◌-◌, ◌<◌, ◌≤◌, true, List, [], ◌∷◌, ◌++◌, map, length, get_or, take}
use Rattle.std.proofs.Common.{drop, refl, sym, ap, ◌∙◌, append_assoc, append-nil, sum_by, arith}
use Rattle.std.proofs.lemmas.Bool.Decides.{nat_tests}
use Rattle.std.proofs.lemmas.List.{drop_more, drop_all, drop-map, take-map, drop-drop, map-append, length-map}
use Rattle.gsym_parser.specs.declared.items.Item.{Item}
use Rattle.gsym_parser.specs.Items.{ItemData, item_view}
use Rattle.gsym_writer.specs.declared.Entry.{Entry}
use Rattle.gsym_writer.specs.View.{entry_view}
use Rattle.gsym_write_c.specs.Rows.{items_given, entries_given, entry_given, rows_of, come_out}
use Rattle.gsym_write_c.specs.declared.GsymEntry.{GsymEntry}
use Rattle.gsym_write_c.specs.declared.GsymFile.{GsymFile}
use Rattle.gsym_write_c.specs.declared.GsymItem.{GsymItem}

push-more : {A B : Type 0} (f : A → B) (list more : List A) (x : A) (rest all : List B) → more ≡ list ++ x ∷ []
    → map f list ++ f x ∷ rest ≡ all → map f more ++ rest ≡ all
push-more f list more x rest all m h =
    rw (m, map-append f list (x ∷ [])) (append_assoc (map f list) (f x ∷ []) rest ∙ h)

all-there : {A B : Type 0} (f : A → B) (list : List A) (rest all : List B) → rest ≡ [] → map f list ++ rest ≡ all
    → map f list ≡ all
all-there f list rest all e h = sym (append-nil (map f list)) ∙ sym (ap (λ r. map f list ++ r) e) ∙ h

-- ---- items

items-step : (rows : List GsymItem) (i : ℕ) (d : GsymItem) (rest : List ℕ) → i < length rows
    → items_given (drop i rows) rest
    ≡ record { kind = (get_or rows i d).kind; bytes = take (get_or rows i d).len rest }
    ∷ items_given (drop (i + 1) rows) (drop (get_or rows i d).len rest)
unfolding items_given
items-step rows i d rest l = rw (drop_more rows i d l) refl

items-end : (rest : List ℕ) → items_given [] rest ≡ []
unfolding items_given
items-end rest = refl

pub items-kept : (rows : List GsymItem) (i : ℕ) (d : GsymItem) (bytes rest behind : List ℕ) (list more : List Item)
    (item : Item) → i < length rows → more ≡ list ++ item ∷ [] → item.kind ≡ (get_or rows i d).kind
    → item.bytes.now ≡ take (get_or rows i d).len rest → behind ≡ drop (get_or rows i d).len rest
    → map item_view list ++ items_given (drop i rows) rest ≡ items_given rows bytes
    → map item_view more ++ items_given (drop (i + 1) rows) behind ≡ items_given rows bytes
items-kept rows i d bytes rest behind list more item l m k b e h =
    push-more item_view list more item (items_given (drop (i + 1) rows) behind) (items_given rows bytes) m
    (rw (k, b, e) (ap (λ r. map item_view list ++ r) (sym (items-step rows i d rest l)) ∙ h))

pub items-all : (rows : List GsymItem) (i : ℕ) (bytes rest : List ℕ) (list : List Item) → length rows ≤ i
    → map item_view list ++ items_given (drop i rows) rest ≡ items_given rows bytes
    → map item_view list ≡ items_given rows bytes
items-all rows i bytes rest list l h =
    all-there item_view list (items_given (drop i rows) rest) (items_given rows bytes)
    (ap (λ r. items_given r rest) (drop_all i rows l) ∙ items-end rest) h

pub length-items_given : (rows : List GsymItem) (bytes : List ℕ) → length (items_given rows bytes) ≡ length rows
unfolding items_given
length-items_given [] bytes = refl
length-items_given (row ∷ rows) bytes = ap suc (length-items_given rows (drop row.len bytes))

-- ---- entries

entries-step : (rows : List GsymEntry) (i : ℕ) (d : GsymEntry) (rest : List ItemData) → i < length rows
    → entries_given (drop i rows) rest
    ≡ entry_given (get_or rows i d) (take (get_or rows i d).items rest)
    ∷ entries_given (drop (i + 1) rows) (drop (get_or rows i d).items rest)
unfolding entries_given
entries-step rows i d rest l = rw (drop_more rows i d l) refl

entries-end : (rest : List ItemData) → entries_given [] rest ≡ []
unfolding entries_given
entries-end rest = refl

part-viewed : (n start : ℕ) (items part : List Item) → part ≡ take n (drop start items)
    → map item_view part ≡ take n (drop start (map item_view items))
part-viewed n start items part p =
    rw (p, drop-map item_view start items, take-map item_view n (drop start items)) refl

pub part_is : (n start : ℕ) (items : List Item)
    → take (start + n - start) (drop start items) ≡ take n (drop start items)
part_is n start items =
    let e : start + n - start ≡ n = omega arith in
    ap (λ k. take k (drop start items)) e

pub entries-kept : (rows : List GsymEntry) (i : ℕ) (d : GsymEntry) (items : List Item) (start : ℕ)
    (list more : List Entry) (entry : Entry) → i < length rows → more ≡ list ++ entry ∷ []
    → entry.addr ≡ record { 0 = (get_or rows i d).addr } → entry.size ≡ (get_or rows i d).size
    → entry.name ≡ record { 0 = (get_or rows i d).name }
    → entry.items.now ≡ take (get_or rows i d).items (drop start items)
    → map entry_view list ++ entries_given (drop i rows) (drop start (map item_view items))
    ≡ entries_given rows (map item_view items)
    → map entry_view more
    ++ entries_given (drop (i + 1) rows) (drop (start + (get_or rows i d).items) (map item_view items))
    ≡ entries_given rows (map item_view items)
entries-kept rows i d items start list more entry l m a s n p h =
    push-more entry_view list more entry
    (entries_given (drop (i + 1) rows) (drop (start + (get_or rows i d).items) (map item_view items)))
    (entries_given rows (map item_view items)) m
    (rw (
      a,
      s,
      n,
      part-viewed (get_or rows i d).items start items entry.items.now p,
      sym (drop-drop (get_or rows i d).items start (map item_view items)),
    )
    (ap (λ r. map entry_view list ++ r) (sym (entries-step rows i d (drop start (map item_view items)) l)) ∙ h))

pub entries-all : (rows : List GsymEntry) (i : ℕ) (items : List Item) (rest : List ItemData) (list : List Entry)
    → length rows ≤ i
    → map entry_view list ++ entries_given (drop i rows) rest ≡ entries_given rows (map item_view items)
    → map entry_view list ≡ entries_given rows (map item_view items)
entries-all rows i items rest list l h =
    all-there entry_view list (entries_given (drop i rows) rest) (entries_given rows (map item_view items))
    (ap (λ r. entries_given r rest) (drop_all i rows l) ∙ entries-end rest) h

-- ---- the writer's view of a list of items

pub length-viewed : (list : List Item) (rows : List GsymItem) (bytes : List ℕ)
    → map item_view list ≡ items_given rows bytes → length list ≡ length rows
length-viewed list rows bytes h =
    grind (arith, length-map, length-items_given rows bytes, ap length h)

pub items-enough : (entries : List GsymEntry) (items : List GsymItem) (bytes : List ℕ) (files : List GsymFile)
    (strings : List ℕ) → come_out (rows_of entries items bytes files strings) ≡ true
    → sum_by (λ (e : GsymEntry). e.items) entries ≤ length items
items-enough entries items bytes files strings h = grind (arith, nat_tests)
