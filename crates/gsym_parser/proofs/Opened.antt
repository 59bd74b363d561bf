-- What opening gives is the file itself, with tables that lie within it.
-- Assumes nothing.
use Rattle.std.proofs.Common.{Ok, ◌≡◌, ℕ, ◌+◌, ◌*◌, ◌≤◌, leb, eqb, List, length, refl, arith}
use Rattle.std.proofs.lemmas.Bool.{leb-true}
use Rattle.gsym_types.specs.declared.Refusal.TheVariants.{TooFewBytes}
use Rattle.gsym_reads.specs.Steps.{given}
use Rattle.gsym_reads.proofs.Steps.{bind_ok, need_ok, given_ok, ok_is}
use Rattle.gsym_reads.specs.Answers.{u16_at, u32_at}
use Rattle.gsym_parser.specs.declared.Tables.{Tables}
use Rattle.gsym_parser.specs.declared.opening.Header.{Header}
use Rattle.gsym_parser.specs.View.{View}
use Rattle.gsym_parser.specs.Within.{Within}
use Rattle.gsym_parser.specs.Format.{magic_number, version_number, header_len}
use Rattle.gsym_parser.specs.Numbers.{file_header}
use Rattle.gsym_parser.specs.Header.{file_count_place, files_place, tables_with, tables_of, opened_of}
use Rattle.gsym_parser.proofs.Inside.{read_within}

pub placed_within : (file : List ℕ) (h : Header) (t : Tables) → tables_of file h ≡ Ok t → Within file t
unfolding tables_of
placed_within file h t e =
    let n = bind_ok (given TooFewBytes (u32_at file (file_count_place h))) _ t e in
    let r = read_within file (file_count_place h) n.0 (given_ok TooFewBytes _ _ n.1) in
    let files = need_ok (leb (files_place h + n.0 * 8) (length file)) _ _ t n.2 in
    let strings = need_ok (leb (h.strings_offset + h.strings_size) (length file)) _ _ t files.1 in
    let l : files_place h + n.0 * 8 ≤ length file = leb-true _ _ files.0 in
    let k : h.strings_offset + h.strings_size ≤ length file = leb-true _ _ strings.0 in
    let w : Within file (tables_with h n.0) = record {
      addrs = refl;
      offsets = refl;
      files = refl;
      addrs_end = omega arith;
      offsets_end = omega arith;
      files_end = l;
      strings_end = k;
    } in
    rw (← ok_is _ _ strings.1) w

-- the view's file is the file that was opened, and all its tables lie within it
pub opened_whole :
    (file : List ℕ) (v : View) → opened_of file ≡ Ok v → (v.file ≡ file) × Within v.file v.tables
unfolding opened_of
opened_whole file v e =
    let magic = bind_ok (given TooFewBytes (u32_at file 0)) _ v e in
    let m = need_ok (eqb magic.0 magic_number) _ _ v magic.2 in
    let version = bind_ok (given TooFewBytes (u16_at file 4)) _ v m.1 in
    let one = need_ok (eqb version.0 version_number) _ _ v version.2 in
    let there = need_ok (leb header_len (length file)) _ _ v one.1 in
    let tables = bind_ok (tables_of file (file_header file)) _ v there.1 in
    let w : Within file tables.0 = placed_within file (file_header file) tables.0 tables.1 in
    rw (← ok_is _ _ tables.2) (refl, w)

pub opened_file : (file : List ℕ) (v : View) → opened_of file ≡ Ok v → v.file ≡ file
opened_file file v e = (opened_whole file v e).0

pub tables_within : (file : List ℕ) (v : View) → opened_of file ≡ Ok v → Within v.file v.tables
tables_within file v e = (opened_whole file v e).1
