-- `gsym_writer::write_outcomes`: by computation.
-- Assumes nothing.
use Rattle.std.proofs.Common.{refl}
use Rattle.gsym_strtab.specs.Utf8.{followers, octets, utf8}
use Rattle.gsym_strtab.specs.Strings.{before_zero, text_in, name_in}
use Rattle.gsym_resolver.specs.SharedTables.{reads_text, reads_name}
use Rattle.gsym_layout.specs.Layout.{item_bytes, data_bytes, data_from, places_from, base_of, offsets_of, least_size}
use Rattle.gsym_layout.specs.Layout.{size_of, places_of, head_of, header_bytes, layout_of}
use Rattle.gsym_writer.specs.Writing.{rising, all_pass, counts_of_32, all_of_32, said_judged, judged, write_of}
use Rattle.gsym_writer.proofs.write_outcomes.Goals as goal

pub returns : goal.returns
unfolding write_of judged said_judged rising all_pass all_of_32 counts_of_32 reads_name reads_text name_in text_in
    before_zero utf8 followers octets layout_of header_bytes head_of size_of least_size offsets_of base_of places_of
    places_from data_from data_bytes item_bytes
returns c = record {
  written = refl;
  no_room = refl;
  equal = refl;
  falls = refl;
  too_large = refl;
  too_large_alone = refl;
  just_fits = refl;
  unnamed_at_the_top = refl;
  unnamed = refl;
  no_name = refl;
  directory = refl;
  no_directory = refl;
  no_file = refl;
  ends = refl;
  rise_before_sum = refl;
  sum_before_name = refl;
  name_before_file = refl;
  file_before_end = refl;
  most = refl;
  above = refl;
  last_place = refl;
  no_place = refl;
  end_before_room = refl;
  number_21 = refl;
  number_22 = refl;
  number_29 = refl;
  number_29_of_file = refl;
  number_30 = refl;
  number_31 = refl;
  number_32 = refl;
}
