-- `gsym_layout::written_files`: by computation.
-- Assumes nothing.
use Rattle.std.proofs.Common.{refl}
use Rattle.gsym_layout.specs.Layout.{item_bytes, data_bytes, data_from, places_from, base_of, offsets_of, least_size}
use Rattle.gsym_layout.specs.Layout.{size_of, places_of, head_of, header_bytes, layout_of}
use Rattle.gsym_layout.proofs.written_files.Goals as goal

pub returns : goal.returns
unfolding layout_of header_bytes head_of size_of least_size offsets_of base_of places_of places_from data_from
    data_bytes item_bytes
returns c = record { no_entry = refl; no_byte = refl; three_entries = refl }
