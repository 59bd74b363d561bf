-- A number of an offset size is the front of a number of eight bytes.
-- Assumes nothing.
use Rattle.std.proofs.Common.{◌≡◌, ℕ, Bool, true, false, take, length, refl}
use Rattle.std.proofs.lemmas.Bool.{eqb-true}
use Rattle.std.specs.Prelude.{◌==◌, if◌then◌else◌}
use Rattle.std.specs.Int.{w8, w16, w32, w64, to_le_bytes}
use Rattle.gsym_parser.specs.Search.{is_width, width_of}

pub take_to_le_bytes :
    (size n : ℕ) → is_width size ≡ true → take size (to_le_bytes w64 n) ≡ to_le_bytes (width_of size) n
take_to_le_bytes size n = by (size == 1) (size == 2) (size == 4) (size == 8) (eqb-true size 1) (eqb-true size 2)
    (eqb-true size 4) (eqb-true size 8)
  where
    by :
        (a b c d : Bool) → (a ≡ true → size ≡ 1) → (b ≡ true → size ≡ 2) → (c ≡ true → size ≡ 4) →
        (d ≡ true → size ≡ 8) →
        (if a then true else if b then true else if c then true else d) ≡ true →
        take size (to_le_bytes w64 n)
        ≡ to_le_bytes (if a then w8 else if b then w16 else if c then w32 else w64) n
    by true b c d p q r s e = rw (p refl) refl
    by false true c d p q r s e = rw (q refl) refl
    by false false true d p q r s e = rw (r refl) refl
    by false false false d p q r s e = rw (s e) refl

pub length_to_le_bytes : (size n : ℕ) → is_width size ≡ true → length (to_le_bytes (width_of size) n) ≡ size
length_to_le_bytes size n = by (size == 1) (size == 2) (size == 4) (size == 8) (eqb-true size 1) (eqb-true size 2)
    (eqb-true size 4) (eqb-true size 8)
  where
    by :
        (a b c d : Bool) → (a ≡ true → size ≡ 1) → (b ≡ true → size ≡ 2) → (c ≡ true → size ≡ 4) →
        (d ≡ true → size ≡ 8) →
        (if a then true else if b then true else if c then true else d) ≡ true →
        length (to_le_bytes (if a then w8 else if b then w16 else if c then w32 else w64) n) ≡ size
    by true b c d p q r s e = rw (p refl) refl
    by false true c d p q r s e = rw (q refl) refl
    by false false true d p q r s e = rw (r refl) refl
    by false false false d p q r s e = rw (s e) refl
