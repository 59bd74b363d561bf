-- Each part of a written file stands where the layout has it, and the file opens, with its tables there.
-- Assumes nothing.
use Rattle.std.proofs.Common.{◌≡◌, ℕ, ◌+◌, ◌-◌, ◌*◌, ◌^◌, ◌<◌, ◌≤◌, true, List, ◌++◌, Some, Ok, length, drop}
use Rattle.std.proofs.Common.{refl, ap, ◌∙◌, arith, append_assoc, le-leb, le-ltb, w32, take_at}
use Rattle.std.specs.List.{flat_map}
use Rattle.std.specs.Int.{to_le_bytes}
use Rattle.std.proofs.lemmas.List.{length-map}
use Rattle.std.proofs.lemmas.Nat.{from_le_bytes-to_le_bytes_4, from_le_bytes-to_le_bytes_8}
use Rattle.gsym_reads.specs.Fronts.{u16_front, u32_front}
use Rattle.gsym_reads.specs.Answers.{u16_at, u32_at}
use Rattle.gsym_parser.specs.Format.{magic_number, version_number}
use Rattle.gsym_parser.specs.Numbers.{numbers_of, file_header}
use Rattle.gsym_parser.specs.Header.{tables_of, opened_of}
use Rattle.gsym_parser.specs.Search.{is_width, width_of}
use Rattle.gsym_layout.specs.Given.{GivenEntry, Given}
use Rattle.gsym_layout.specs.Layout.{zeros, numbers, data_from, base_of, offsets_of, size_of, table_end, offsets_start}
use Rattle.gsym_layout.specs.Layout.{file_count_start, files_start, strings_start, strings_end, places_of, Head}
use Rattle.gsym_layout.specs.Layout.{head_of, header_bytes, row_bytes, layout_of, opened_layout}
use Rattle.gsym_layout.specs.Writable.{IsOf32, Writable}
use Rattle.gsym_layout.proofs.Widths.{least_known}
use Rattle.gsym_layout.proofs.Fits.{base_small}
use Rattle.gsym_layout.proofs.Places.{From, from_start, from_at, from_next}
use Rattle.gsym_layout.proofs.Lists.{length_zeros, u32_written, length_numbers, length_rows}
use Rattle.gsym_layout.proofs.Items.{length_places}

-- ---- the header

module _ (h : Head) where
  length_header : length (header_bytes h) ≡ 48
  unfolding header_bytes
  length_header = refl

  module _ (rest : List ℕ) where
    magic_written : u32_at (header_bytes h ++ rest) 0 ≡ Some magic_number
    unfolding u32_at u32_front header_bytes
    magic_written =
        let l : 4 ≤ length (header_bytes h ++ rest) = omega arith in rw (le-ltb _ _ l)

    version_written : u16_at (header_bytes h ++ rest) 4 ≡ Some version_number
    unfolding u16_at u16_front header_bytes
    version_written =
        let l : 2 ≤ length (drop 4 (header_bytes h ++ rest)) = omega arith in rw (le-ltb _ _ l)

  -- its numbers are of their widths
  record HeadFits : Type 0 where
    base : h.base.0 < 2 ^ 64
    count : IsOf32 h.count
    strings_place : IsOf32 h.strings_place
    strings_size : IsOf32 h.strings_size

  numbers_written : HeadFits → numbers_of (header_bytes h)
      ≡ record {
        offset_size = h.offset_size;
        base = h.base;
        count = h.count;
        strings_offset = h.strings_place;
        strings_size = h.strings_size;
      }
  unfolding numbers_of header_bytes
  numbers_written f =
      let b = from_le_bytes-to_le_bytes_8 h.base.0 f.base in
      let c = from_le_bytes-to_le_bytes_4 h.count f.count in
      let p = from_le_bytes-to_le_bytes_4 h.strings_place f.strings_place in
      let s = from_le_bytes-to_le_bytes_4 h.strings_size f.strings_size in
      rw (b, c, p, s)

-- ---- the parts

module _ (g : Given) where
  abbrev pub strings_on : List ℕ
  strings_on = g.tables.strings ++ data_from (strings_end g) g.entries

  abbrev pub files_on : List ℕ
  files_on = flat_map row_bytes g.tables.files ++ strings_on

  abbrev pub count_on : List ℕ
  count_on = to_le_bytes w32 (length g.tables.files) ++ files_on

  abbrev pub offsets_on : List ℕ
  offsets_on = numbers w32 (places_of g) ++ count_on

  abbrev pub padding_on : List ℕ
  padding_on = zeros (offsets_start g - table_end g) ++ offsets_on

  abbrev pub table_on : List ℕ
  table_on = numbers (width_of (size_of g)) (offsets_of g.entries) ++ padding_on

  layout_split : layout_of g ≡ header_bytes (head_of g) ++ table_on
  unfolding layout_of
  layout_split = simp append_assoc

  pub size_known : is_width (size_of g) ≡ true
  unfolding size_of
  size_known = least_known (offsets_of g.entries)

  pub length_offsets : length (offsets_of g.entries) ≡ length g.entries
  unfolding offsets_of
  length_offsets = length-map g.entries (λ (e : GivenEntry). e.addr.0 - base_of g.entries)

  length_places_of : length (places_of g) ≡ length g.entries
  unfolding places_of
  length_places_of = length_places (strings_end g) g.entries

  pub at_table : From (layout_of g) 48 table_on
  at_table =
      from_next (layout_of g) 0 (header_bytes (head_of g)) table_on (from_start (layout_of g) _ layout_split) 48
      (length_header (head_of g))

  pub at_offsets : From (layout_of g) (offsets_start g) offsets_on
  at_offsets =
      let n = offsets_start g - table_end g in
      from_at (layout_of g) (table_end g + n) (offsets_start g) _ (omega arith)
      (from_next (layout_of g) (table_end g) (zeros n) offsets_on
      (from_next (layout_of g) 48 (numbers (width_of (size_of g)) (offsets_of g.entries)) padding_on at_table
      (length g.entries * size_of g)
      (length_numbers (size_of g) size_known (offsets_of g.entries) ∙ ap (λ k. k * size_of g) length_offsets))
      n (length_zeros n))

  at_count : From (layout_of g) (file_count_start g) count_on
  at_count =
      from_next (layout_of g) (offsets_start g) (numbers w32 (places_of g)) count_on at_offsets (length g.entries * 4)
      (length_numbers 4 refl (places_of g) ∙ ap (λ k. k * 4) length_places_of)

  pub at_files : From (layout_of g) (files_start g) files_on
  at_files =
      from_next (layout_of g) (file_count_start g) (to_le_bytes w32 (length g.tables.files)) files_on at_count 4 refl

  pub at_strings : From (layout_of g) (strings_start g) strings_on
  at_strings =
      from_next (layout_of g) (files_start g) (flat_map row_bytes g.tables.files) strings_on at_files
      (length g.tables.files * 8) (length_rows g.tables.files)

  pub at_data : From (layout_of g) (strings_end g) (data_from (strings_end g) g.entries)
  at_data =
      from_next (layout_of g) (strings_start g) g.tables.strings _ at_strings (length g.tables.strings) refl

  -- ---- the file opens

  module _ (w : Writable g) where
    head_fits : HeadFits (head_of g)
    unfolding head_of
    head_fits = record {
      base = base_small g.entries w.sums;
      count = w.of_32.count;
      strings_place = w.of_32.strings_place;
      strings_size = w.of_32.strings_size;
    }

    header_read : file_header (layout_of g)
        ≡ record {
          offset_size = size_of g;
          base = record { 0 = base_of g.entries };
          count = length g.entries;
          strings_offset = strings_start g;
          strings_size = length g.tables.strings;
        }
    unfolding head_of
    header_read =
        rw (layout_split, take_at (header_bytes (head_of g)) table_on 48 (length_header (head_of g)))
        (numbers_written (head_of g) head_fits)

    count_read : u32_at (layout_of g) (file_count_start g) ≡ Some (length g.tables.files)
    unfolding u32_at
    count_read = rw (at_count.is, u32_written (length g.tables.files) files_on w.of_32.files)

    pub layout_opens : opened_of (layout_of g) ≡ Ok (opened_layout g)
    unfolding opened_of tables_of opened_layout head_of
    layout_opens =
        let m : u32_at (layout_of g) 0 ≡ Some magic_number = rw layout_split (magic_written (head_of g) table_on) in
        let v : u16_at (layout_of g) 4 ≡ Some version_number = rw layout_split (version_written (head_of g) table_on) in
        rw (
          m,
          v,
          le-leb _ _ at_table.inside,
          header_read,
          count_read,
          le-leb _ _ at_strings.inside,
          le-leb _ _ at_data.inside,
        )
