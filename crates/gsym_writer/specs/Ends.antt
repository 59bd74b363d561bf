-- How long what is written is (RULES, "Writing a file"), counted without the bytes.
-- Assumes nothing.
use Rattle.std.specs.Prelude.{ℕ, ◌+◌, List, [], ◌∷◌, length, min}
use Rattle.gsym_inline.specs.Limits.{most_address}
use Rattle.gsym_parser.specs.Items.{ItemData}
use Rattle.gsym_layout.specs.Given.{GivenEntry}
use Rattle.gsym_layout.specs.Layout.{data_start}

unfoldable pub items_len : List ItemData → ℕ
items_len [] = 0
items_len (item ∷ items) = 8 + length item.bytes + items_len items

unfoldable pub data_len : GivenEntry → ℕ
data_len e = 16 + items_len e.items

-- where the data of entries end, where the file is so long up to them
unfoldable pub end_from : ℕ → List GivenEntry → ℕ
end_from at [] = at
end_from at (e ∷ es) = end_from (data_start at + data_len e) es

-- how many bytes are told to be needed: none above 2^64-1
abbrev pub told_len : ℕ → ℕ
told_len n = min n most_address
