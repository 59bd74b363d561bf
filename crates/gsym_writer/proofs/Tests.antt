-- Each test of what is given holds exactly where what it tests does.
-- Assumes nothing.
use Rattle.std.proofs.Common.{◌≡◌, ◌↔◌, ℕ, ◌+◌, ◌^◌, true, false, Bool, length, not, refl}
use Rattle.std.specs.Prelude.{◌==◌}
use Rattle.std.specs.List.{All, list_all}
use Rattle.std.proofs.lemmas.Bool.{leb-true, le-leb, ltb-true, lt-ltb, ne_eqb, eqb-false, and_parts, and_from}
use Rattle.gsym_inline.specs.Limits.{most_address}
use Rattle.gsym_parser.specs.declared.entries.FileInfo.{FileInfo}
use Rattle.gsym_parser.specs.Items.{ItemData}
use Rattle.gsym_resolver.specs.SharedTables.{SharedTables, reads_text}
use Rattle.gsym_resolver.proofs.Strings.{name_read, text_read}
use Rattle.gsym_layout.specs.Given.{GivenEntry, Given}
use Rattle.gsym_layout.specs.Layout.{places_of, strings_start}
use Rattle.gsym_layout.specs.Writable.{SumFits, NameReads, FileReads, IsNoEnd, IsOf32, Of32}
use Rattle.gsym_writer.specs.Writing.{sum_fits, name_reads, file_reads, no_end, has_no_end, is_of_32, lengths_fit}
use Rattle.gsym_writer.specs.Writing.{counts_of_32, all_of_32}
use Rattle.gsym_writer.proofs.Passing.{all_test}

pub sum_test : (e : GivenEntry) → (sum_fits e ≡ true) ↔ SumFits e
sum_test e = (leb-true (e.addr.0 + e.size) most_address, le-leb (e.addr.0 + e.size) most_address)

pub name_test : (t : SharedTables) (e : GivenEntry) → (name_reads t e ≡ true) ↔ NameReads t e
name_test t e = name_read t e.name

pub file_test : (t : SharedTables) (f : FileInfo) → (file_reads t f ≡ true) ↔ FileReads t f
file_test t f = (
  λ e. let p = and_parts (reads_text t f.directory) (reads_text t f.filename) e in
      ((text_read t f.directory).0 p.0, (text_read t f.filename).0 p.1),
  λ r. and_from (reads_text t f.directory) (reads_text t f.filename) ((text_read t f.directory).1 r.0)
      ((text_read t f.filename).1 r.1),
)

item_test : (item : ItemData) → (no_end item ≡ true) ↔ IsNoEnd item
item_test item = (λ e. eqb-false item.kind 0 (unnot (item.kind == 0) e), λ n. rw (ne_eqb item.kind 0 n) refl)
  where
    unnot : (b : Bool) → not b ≡ true → b ≡ false
    unnot true e = absurd cc
    unnot false e = refl

pub end_test : (e : GivenEntry) → (has_no_end e ≡ true) ↔ All IsNoEnd e.items
end_test e = all_test no_end IsNoEnd item_test e.items

number_test : (n : ℕ) → (is_of_32 n ≡ true) ↔ IsOf32 n
number_test n = (ltb-true n (2 ^ 32), lt-ltb n (2 ^ 32))

length_test : (item : ItemData) → (is_of_32 (length item.bytes) ≡ true) ↔ IsOf32 (length item.bytes)
length_test item = number_test (length item.bytes)

lengths_test : (e : GivenEntry) → (lengths_fit e ≡ true) ↔ All (λ item. IsOf32 (length item.bytes)) e.items
lengths_test e =
    all_test (λ item. is_of_32 (length item.bytes)) (λ item. IsOf32 (length item.bytes)) length_test e.items

pub of_32_test : (g : Given) → (all_of_32 g ≡ true) ↔ Of32 g
unfolding all_of_32 counts_of_32
of_32_test g = (
  λ e. let p = and_parts _ (list_all lengths_fit g.entries) e in
      let q = and_parts (counts_of_32 g) (list_all is_of_32 (places_of g)) p.0 in
      let r = and_parts _ (is_of_32 (length g.tables.strings)) q.0 in
      let s = and_parts _ (is_of_32 (strings_start g)) r.0 in
      let t = and_parts (is_of_32 (length g.entries)) (is_of_32 (length g.tables.files)) s.0 in
      record {
        count = (number_test (length g.entries)).0 t.0;
        files = (number_test (length g.tables.files)).0 t.1;
        strings_place = (number_test (strings_start g)).0 s.1;
        strings_size = (number_test (length g.tables.strings)).0 r.1;
        places = (all_test is_of_32 IsOf32 number_test (places_of g)).0 q.1;
        lengths =
            (all_test lengths_fit (λ e. All (λ item. IsOf32 (length item.bytes)) e.items) lengths_test g.entries).0
            p.1;
      },
  λ F. and_from _ (list_all lengths_fit g.entries)
      (and_from (counts_of_32 g) (list_all is_of_32 (places_of g))
      (and_from _ (is_of_32 (length g.tables.strings))
      (and_from _ (is_of_32 (strings_start g))
      (and_from (is_of_32 (length g.entries)) (is_of_32 (length g.tables.files))
      ((number_test (length g.entries)).1 F.count) ((number_test (length g.tables.files)).1 F.files))
      ((number_test (strings_start g)).1 F.strings_place)) ((number_test (length g.tables.strings)).1 F.strings_size))
      ((all_test is_of_32 IsOf32 number_test (places_of g)).1 F.places))
      ((all_test lengths_fit (λ e. All (λ item. IsOf32 (length item.bytes)) e.items) lengths_test g.entries).1
      F.lengths),
)
