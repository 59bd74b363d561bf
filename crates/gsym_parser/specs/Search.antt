-- Finding the entry of an address (RULES, "Finding the entry").
--
--   address table    count numbers of offset size bytes, one after another; the offset size is 1, 2, 4 or 8
--
-- The search is on a list of numbers; the file is in `entries_of` and `find_of` alone. `find_in` is a search by
-- halving and then to the front over equal entries, so that the answer is settled in every table, also in one that
-- falls, where several entries may be allowed. What it is held to, below, says the rule without the search: `Allowed`
-- in every table, `FirstOfGreatest` and `land_of` in one that never falls.
-- Assumes nothing.
use Rattle.std.specs.Prelude.{◌≡◌, ◌≢◌, ℕ, zero, suc, ◌+◌, ◌-◌, ◌/◌, ◌<◌, ◌≤◌, Bool, true, false, List, [], ◌∷◌, Option}
use Rattle.std.specs.Prelude.{Some, None, map, length, drop, ◌==◌, nat_le, nat_lt, slice_index, option_map}
use Rattle.std.specs.Prelude.{if◌then◌else◌}
use Rattle.std.specs.Int.{Width, w8, w16, w32, w64, from_le_bytes}
use Rattle.gsym_types.specs.declared.Address.{Address}
use Rattle.gsym_parser.specs.View.{View}

-- halving: of the len entries from lo on, the one in the middle, unless it is above, is the new lo; at most k turns
unfoldable pub halving : ℕ → List ℕ → ℕ → ℕ → ℕ → ℕ
halving zero table wanted lo len = lo
halving (suc k) table wanted lo len =
    if nat_le len 1 then lo
    else halving k table wanted (if nat_le (slice_index table (lo + len / 2)) wanted then lo + len / 2 else lo)
    (len - len / 2)

-- the index that halving comes to among the len entries from lo on: each turn takes at least one of them away, so len
-- turns are enough
unfoldable pub halved_from : List ℕ → ℕ → ℕ → ℕ → ℕ
halved_from table wanted lo len = halving len table wanted lo len

-- where the run of equal entries that ends with entry k starts
unfoldable pub run_start : List ℕ → ℕ → ℕ
run_start table zero = zero
run_start table (suc k) = if slice_index table k == slice_index table (suc k) then run_start table k else suc k

-- no entries, or the first entry above: unknown; else the start of the run that halving comes to
unfoldable pub find_in : List ℕ → ℕ → Option ℕ
find_in table wanted =
    if length table == 0 then None
    else if nat_lt wanted (slice_index table 0) then None
    else Some (run_start table (halved_from table wanted 0 (length table)))

-- the offset sizes
abbrev pub is_width : ℕ → Bool
is_width size = if size == 1 then true else if size == 2 then true else if size == 4 then true else size == 8

-- the width of an entry, by the offset size
abbrev pub width_of : ℕ → Width
width_of size = if size == 1 then w8 else if size == 2 then w16 else if size == 4 then w32 else w64

-- the entry that bytes begin with
abbrev pub entry_number : ℕ → List ℕ → ℕ
entry_number size bytes = from_le_bytes (width_of size) bytes

-- n entries of a size, one after another
unfoldable pub entries : ℕ → ℕ → List ℕ → List ℕ
entries size zero bytes = []
entries size (suc n) bytes = entry_number size bytes ∷ entries size n (drop size bytes)

-- how many entries: none at another offset size
abbrev pub len_of : ℕ → ℕ → ℕ
len_of size count = if is_width size then count else 0

-- the address table
unfoldable pub entries_of : View → List ℕ
entries_of v =
    entries v.tables.offset_size (len_of v.tables.offset_size v.tables.count) (drop v.tables.addrs v.file)

-- the entry of an address: unknown below the base
unfoldable pub find_of : View → Address → Option ℕ
find_of v addr = if nat_lt addr.0 v.tables.base.0 then None else find_in (entries_of v) (addr.0 - v.tables.base.0)

-- an index, and the entry at it
abbrev pub with_entry : List ℕ → Option ℕ → Option (ℕ × ℕ)
with_entry table index = option_map (λ i. (i, slice_index table i)) index

-- ---- what the search is held to

-- the four cases of an unknown address
pub data Nowhere (v : View) (addr : Address) : Type 0 where
  below_base : addr.0 < v.tables.base.0 → Nowhere v addr
  other_size : is_width v.tables.offset_size ≡ false → Nowhere v addr
  no_entries : v.tables.count ≡ 0 → Nowhere v addr
  first_above : addr.0 - v.tables.base.0 < slice_index (entries_of v) 0 → Nowhere v addr

-- the entries from i on, up to j but not j itself, are equal
abbrev pub Run : List ℕ → ℕ → ℕ → Type 0
Run table i j = (k : ℕ) → i ≤ k → k < j → slice_index table k ≡ slice_index table i

-- in every table: entry i isn't above, the entry before it, if there is one, differs from it, and the next entry that
-- differs from it, if there is one, is above
pub record Allowed (table : List ℕ) (wanted i : ℕ) : Type 0 where
  pub inside : i < length table
  pub not_above : slice_index table i ≤ wanted
  pub starts_run : (j : ℕ) → i ≡ suc j → slice_index table j ≢ slice_index table i
  pub next_above : (j : ℕ) → i < j → j < length table → Run table i j → slice_index table j ≢ slice_index table i →
      wanted < slice_index table j

-- in a table that never falls: of the entries that aren't above none is greater, and all before it are less
pub record FirstOfGreatest (table : List ℕ) (wanted i : ℕ) : Type 0 where
  pub inside : i < length table
  pub not_above : slice_index table i ≤ wanted
  pub greatest : (j : ℕ) → j < length table → slice_index table j ≤ wanted → slice_index table j ≤ slice_index table i
  pub less_before : (j : ℕ) → j < i → slice_index table j < slice_index table i

-- the same counted along the table, one entry after another: an entry that isn't above takes the place of the best so
-- far where there is none yet, or where it is greater
abbrev pub is_better : Option (ℕ × ℕ) → ℕ → Bool
is_better None e = true
is_better (Some (i, best)) e = nat_lt best e

unfoldable pub land_from : ℕ → List ℕ → ℕ → Option (ℕ × ℕ) → Option (ℕ × ℕ)
land_from i [] wanted best = best
land_from i (e ∷ es) wanted best =
    land_from (i + 1) es wanted (if nat_le e wanted then if is_better best e then Some (i, e) else best else best)

unfoldable pub land_of : List ℕ → ℕ → Option ℕ
land_of table wanted = option_map (λ best. best.0) (land_from 0 table wanted None)

-- the addresses of the entries: the base plus each
unfoldable pub addresses_of : View → List ℕ
addresses_of v = map (λ e. v.tables.base.0 + e) (entries_of v)
