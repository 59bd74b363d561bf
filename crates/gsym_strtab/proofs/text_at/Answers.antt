-- `gsym_strtab::text_at` meets its contract: the answer is what is read in the table's bytes, its place counted from
-- the file's start.
-- Assumes nothing.
use Rattle.std.proofs.Common.{◌∙◌, ap, sym, refl, arith}
use Rattle.gsym_strtab.specs.Strings.{placed, text_in, text_at}
use Rattle.gsym_strtab.proofs.Texts.{text_in-inside}
use Rattle.gsym_strtab.proofs.Told.{outside, told, fits-place, text-place-is, text-string-is, text-within-is}
use Rattle.gsym_strtab.proofs.Told.{text-none-is}
use Rattle.gsym_strtab.proofs.text_at.Goals as goal

pub returns-in_err-strings : goal.returns-in_err-strings
unfolding text_at
returns-in_err-strings c =
    let e =
    c.from_residual.ensures
    ∙ outside text_in c.args.file.now c.args.table c.args.offset c.in_err-strings.ensures.fits.1 in
    record {
      exact = e;
      place = text-place-is c.args.file.now c.args.table c.args.offset e;
      string = text-string-is c.args.file.now c.args.table c.args.offset e;
      within = text-within-is c.args.file.now c.args.table c.args.offset e;
      none = text-none-is c.args.file.now c.args.table c.args.offset e;
    }

pub returns-in_err-len : goal.returns-in_err-len
unfolding text_at
returns-in_err-len c =
    let s = c.in_ok-strings.ensures in
    let e =
    c.from_residual-in_err-len.ensures ∙ ap (placed _) (sym c.in_err-len.was)
    ∙ told text_in c.args.file.now c.args.table c.args.offset _ _ (s.fits.0 refl) s.bytes c.text_in.ensures in
    record {
      exact = e;
      place = text-place-is c.args.file.now c.args.table c.args.offset e;
      string = text-string-is c.args.file.now c.args.table c.args.offset e;
      within = text-within-is c.args.file.now c.args.table c.args.offset e;
      none = text-none-is c.args.file.now c.args.table c.args.offset e;
    }

pub overflow_add-start : goal.overflow_add-start
overflow_add-start c =
    let s = c.in_ok-strings.ensures in
    omega (
      arith,
      fits-place text_in c.args.file.now c.args.table c.args.offset _ _ (s.fits.0 refl)
          s.bytes c.text_in.ensures text_in-inside _ c.in_ok-len.was,
    )

pub returns : goal.returns
unfolding text_at
returns c =
    let s = c.in_ok-strings.ensures in
    let e =
    ap (placed _) (sym c.in_ok-len.was)
    ∙ told text_in c.args.file.now c.args.table c.args.offset _ _ (s.fits.0 refl) s.bytes c.text_in.ensures in
    record {
      exact = e;
      place = text-place-is c.args.file.now c.args.table c.args.offset e;
      string = text-string-is c.args.file.now c.args.table c.args.offset e;
      within = text-within-is c.args.file.now c.args.table c.args.offset e;
      none = text-none-is c.args.file.now c.args.table c.args.offset e;
    }
