-- `gsym_strtab::name_at` meets its contract: the answer is what is read in the table's bytes, its place counted from
-- the file's start.
-- Assumes nothing.
use Rattle.std.proofs.Common.{◌∙◌, ap, sym, refl, arith}
use Rattle.gsym_strtab.specs.Strings.{placed, name_in, name_at}
use Rattle.gsym_strtab.proofs.Texts.{name-in-inside}
use Rattle.gsym_strtab.proofs.Told.{outside, told, fits-place, name-text-is, name-some-is}
use Rattle.gsym_strtab.proofs.name_at.Goals as goal

pub returns-in_err-names : goal.returns-in_err-names
unfolding name_at
returns-in_err-names c =
    let e =
    c.from_residual.ensures
    ∙ outside name_in c.args.file.now c.args.table c.args.offset c.in_err-names.ensures.fits.1 in
    record {
      exact = e;
      string = name-text-is c.args.file.now c.args.table c.args.offset e;
      some = name-some-is c.args.file.now c.args.table c.args.offset e;
    }

pub returns-in_err-len : goal.returns-in_err-len
unfolding name_at
returns-in_err-len c =
    let s = c.in_ok-names.ensures in
    let e =
    c.from_residual-in_err-len.ensures ∙ ap (placed _) (sym c.in_err-len.was)
    ∙ told name_in c.args.file.now c.args.table c.args.offset _ _ (s.fits.0 refl) s.bytes c.name_in.ensures in
    record {
      exact = e;
      string = name-text-is c.args.file.now c.args.table c.args.offset e;
      some = name-some-is c.args.file.now c.args.table c.args.offset e;
    }

pub overflow_add-begin : goal.overflow_add-begin
overflow_add-begin c =
    let s = c.in_ok-names.ensures in
    omega (
      arith,
      fits-place name_in c.args.file.now c.args.table c.args.offset _ _ (s.fits.0 refl)
          s.bytes c.name_in.ensures name-in-inside _ c.in_ok-len.was,
    )

pub returns : goal.returns
unfolding name_at
returns c =
    let s = c.in_ok-names.ensures in
    let e =
    ap (placed _) (sym c.in_ok-len.was)
    ∙ told name_in c.args.file.now c.args.table c.args.offset _ _ (s.fits.0 refl) s.bytes c.name_in.ensures in
    record {
      exact = e;
      string = name-text-is c.args.file.now c.args.table c.args.offset e;
      some = name-some-is c.args.file.now c.args.table c.args.offset e;
    }
