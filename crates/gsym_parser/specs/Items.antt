-- The address data list (RULES, "Address data list"): items, one after another.
--
--   type      4 bytes    0 ends the list, whatever follows
--   length    4
--   bytes     that many
--
-- The list also ends at an item that doesn't fit.
-- Assumes nothing.
use Rattle.std.specs.Prelude.{ℕ, zero, suc, Bool, false, List, [], ◌∷◌, Option, Some, None, length, take, drop, ◌==◌}
use Rattle.std.specs.Prelude.{nat_le, if◌then◌else◌}
use Rattle.gsym_reads.specs.Maybe.{◌>>=◌, ◌>>◌, need}
use Rattle.gsym_reads.specs.Fronts.{u32_front}
use Rattle.gsym_parser.specs.declared.items.Item.{Item}
use Rattle.gsym_parser.specs.declared.items.Items.{Items}

-- an item without where its bytes lie in memory
pub record ItemData : Type 0 where
  pub kind : ℕ
  pub bytes : List ℕ

abbrev pub item_view : Item → ItemData
item_view item = record { kind = item.kind; bytes = item.bytes.now }

-- the item of a type whose length stands at the front, and the bytes after it
unfoldable pub sized_item : ℕ → List ℕ → Option (ItemData × List ℕ)
sized_item kind bytes = do
  (len, rest) ← u32_front bytes
  need (nat_le len (length rest))
  Some (record { kind = kind; bytes = take len rest }, drop len rest)

-- the item at the front, and the bytes after it: none at type 0, and none that doesn't fit
unfoldable pub item_front : List ℕ → Option (ItemData × List ℕ)
item_front bytes = do
  (kind, rest) ← u32_front bytes
  if kind == 0 then None else sized_item kind rest

-- the first item, and then what `go` says of the bytes after it
abbrev pub onward : (List ℕ → List ItemData) → Option (ItemData × List ℕ) → List ItemData
onward go (Some (item, rest)) = item ∷ go rest
onward go None = []

-- at most k items
unfoldable pub items_within : ℕ → List ℕ → List ItemData
items_within zero bytes = []
items_within (suc k) bytes = onward (λ rest. items_within k rest) (item_front bytes)

-- each item takes bytes, so that as many turns as bytes, and one to see the end, are enough
unfoldable pub items_of : List ℕ → List ItemData
items_of bytes = items_within (suc (length bytes)) bytes

-- type 0 stands at the front
abbrev pub is_zero : Option (ℕ × List ℕ) → Bool
is_zero (Some (kind, rest)) = kind == 0
is_zero None = false

unfoldable pub ends_at : List ℕ → Bool
ends_at bytes = is_zero (u32_front bytes)

-- whether the list ends at type 0: what `go` says of the bytes after the first item, or what stands where there is none
abbrev pub end_onward : (List ℕ → Bool) → Bool → Option (ItemData × List ℕ) → Bool
end_onward go end (Some (item, rest)) = go rest
end_onward go end None = end

unfoldable pub closed_within : ℕ → List ℕ → Bool
closed_within zero bytes = false
closed_within (suc k) bytes = end_onward (λ rest. closed_within k rest) (ends_at bytes) (item_front bytes)

unfoldable pub closed_of : List ℕ → Bool
closed_of bytes = closed_within (suc (length bytes)) bytes

-- the items that are still to come
abbrev pub items_left : Items → List ItemData
items_left items = items_of items.rest.now
