-- The address table as a list: its length and its entries.
-- Assumes nothing.
use Rattle.std.proofs.Common.{◌≡◌, ℕ, zero, suc, ◌+◌, ◌*◌, ◌<◌, ◌≤◌, Bool, true, false, ◌⊎◌, List, length, get_or, drop}
use Rattle.std.proofs.Common.{refl, ap, ◌∙◌, inl, inr, mul-le-mul_right, add-mul, arith, drop-drop, ne_eqb, Some, None}
use Rattle.std.proofs.Common.{sym, if◌then◌else◌}
use Rattle.std.specs.List.{slice_get}
use Rattle.std.proofs.lemmas.Option.{slice_get_past, slice_get-get_or}
use Rattle.gsym_parser.specs.View.{View}
use Rattle.gsym_parser.specs.Search.{is_width, entry_number, len_of, entries, entries_of}

-- which sizes give entries
module _ (size : ℕ) where
  pub is-width : (size ≡ 1) ⊎ ((size ≡ 2) ⊎ ((size ≡ 4) ⊎ (size ≡ 8))) → is_width size ≡ true
  is-width (inl h) = rw h
  is-width (inr (inl h)) = rw h
  is-width (inr (inr (inl h))) = rw h
  is-width (inr (inr (inr h))) = rw h

  pub no-width : (size ≡ 1 → ⊥) → (size ≡ 2 → ⊥) → (size ≡ 4 → ⊥) → (size ≡ 8 → ⊥) → is_width size ≡ false
  no-width a b c d = rw (ne_eqb _ _ a, ne_eqb _ _ b, ne_eqb _ _ c, ne_eqb _ _ d)

  -- entries there are only at those sizes, and no more than the count
  width-if : (b : Bool) (n : ℕ) → is_width size ≡ b → 0 < (if b then n else 0) → is_width size ≡ true
  width-if true n e h = e
  width-if false n e h = absurd (omega arith)

  pub len-width : (count : ℕ) → 0 < len_of size count → is_width size ≡ true
  len-width count h = width-if (is_width size) count refl h

  le-if : (b : Bool) (n : ℕ) → (if b then n else 0) ≤ n
  le-if true n = omega arith
  le-if false n = omega arith

  pub len-le : (count : ℕ) → len_of size count ≤ count
  len-le count = le-if (is_width size) count

  pub len-full : (count : ℕ) → is_width size ≡ true → len_of size count ≡ count
  len-full count w = rw w

-- the bytes of an entry below a length that fits
pub entry_room : (size n i room : ℕ) → n * size ≤ room → i < n → i * size + size ≤ room
entry_room size n i room h l =
    let m : suc i * size ≤ n * size = mul-le-mul_right size l in omega (arith, add-mul i 1 size)

-- and of an entry that is not behind one whose bytes are there
pub room_before : (size last i room : ℕ) → last * size + size ≤ room → i ≤ last → i * size + size ≤ room
room_before size last i room h l =
    entry_room size (last + 1) i room (omega (arith, add-mul last 1 size)) (omega arith)

-- its length and its entries
pub length-entries : (size n : ℕ) (bytes : List ℕ) → length (entries size n bytes) ≡ n
unfolding entries
length-entries size zero bytes = refl
length-entries size (suc n) bytes = ap suc (length-entries size n (drop size bytes))

pub entry-is :
    (size n i : ℕ) (bytes : List ℕ) → i < n →
    get_or (entries size n bytes) i 0 ≡ entry_number size (drop (i * size) bytes)
unfolding entries
entry-is size zero i bytes h = absurd (omega arith)
entry-is size (suc n) zero bytes h =
    let q : 0 ≡ 0 * size = omega arith in ap (λ at. entry_number size (drop at bytes)) q
entry-is size (suc n) (suc i) bytes h =
    let q : size + i * size ≡ suc i * size = omega arith in
    entry-is size n i (drop size bytes) (omega arith)
    ∙ ap (entry_number size) (drop-drop (i * size) size bytes) ∙ ap (λ at. entry_number size (drop at bytes)) q

module _ (v : View) where
  -- how many entries the table of a file has
  abbrev pub table_len : ℕ
  table_len = len_of v.tables.offset_size v.tables.count

  pub length-table : length (entries_of v) ≡ table_len
  unfolding entries_of
  length-table = length-entries v.tables.offset_size table_len (drop v.tables.addrs v.file)

  pub table_none : is_width v.tables.offset_size ≡ false → length (entries_of v) ≡ 0
  table_none h = length-table ∙ rw h

  pub table-full : is_width v.tables.offset_size ≡ true → length (entries_of v) ≡ v.tables.count
  table-full h = length-table ∙ rw h

  -- an entry, counted from the table's place and from the file's start
  pub table-entry :
      (i : ℕ) → i < table_len →
      get_or (entries_of v) i 0
      ≡ entry_number v.tables.offset_size (drop (i * v.tables.offset_size) (drop v.tables.addrs v.file))
  unfolding entries_of
  table-entry i h = entry-is v.tables.offset_size table_len i (drop v.tables.addrs v.file) h

  pub table-entry-at :
      (i : ℕ) → i < table_len →
      get_or (entries_of v) i 0
      ≡ entry_number v.tables.offset_size (drop (v.tables.addrs + i * v.tables.offset_size) v.file)
  table-entry-at i h = table-entry i h
      ∙ ap (entry_number v.tables.offset_size) (drop-drop (i * v.tables.offset_size) v.tables.addrs v.file)

  -- the entry at an index, if there is one
  pub entry_past : (i : ℕ) → table_len ≤ i → None ≡ slice_get (entries_of v) i
  entry_past i h = sym (slice_get_past (entries_of v) i (omega (arith, length-table)))

  pub entry_there :
      (i e : ℕ) → i < table_len →
      e ≡ entry_number v.tables.offset_size (drop (i * v.tables.offset_size) (drop v.tables.addrs v.file)) →
      Some e ≡ slice_get (entries_of v) i
  entry_there i e h r =
      ap Some (r ∙ sym (table-entry i h)) ∙ sym (slice_get-get_or (entries_of v) i 0 (omega (arith, length-table)))
