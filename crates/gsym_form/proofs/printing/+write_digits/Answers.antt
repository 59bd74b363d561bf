-- `gsym_form::printing::write_digits`: all digits but the last, and the last.
-- Assumes nothing.
use Rattle.std.proofs.Common.{◌∷◌, [], ◌%◌, ◌/◌, false, slice_index, arith, subst, sym, ap, ◌∙◌}
use Rattle.std.specs.Fmt.{digits}
use Rattle.hex.specs.Hex.{lower_digits}
use Rattle.gsym_output.specs.Writing.{AppendsFront, Writes}
use Rattle.gsym_output.proofs.Fronts.{front_of, writes_then, writes_err}
use Rattle.gsym_form.proofs.HexDigits.{digits_step, last_twice}
use Rattle.gsym_form.proofs.printing.+write_digits.Goals as goal

pub returns-in_err-write_digits : goal.returns-in_err-write_digits
returns-in_err-write_digits g t c =
    let a = g.W.Write.contents c.args.out.now in
    let b = g.W.Write.contents c.write_digits.new.out in
    let front = digits 16 false (c.args.number / 16) in
    let last = slice_index lower_digits (c.args.number % 16) ∷ [] in
    writes_err a b c.from_residual.result (digits 16 false c.args.number) c.from_residual.ensures.0
    (subst (AppendsFront a b) (sym (digits_step c.args.number (omega arith) (omega arith)))
    (front_of a b front last c.in_err-write_digits.ensures))

pub returns : goal.returns
returns g t c =
    let a = g.W.Write.contents c.args.out.now in
    let b = g.W.Write.contents c.write_digits.new.out in
    let d = g.W.Write.contents c.write_text-2.new.out in
    let front = digits 16 false (c.args.number / 16) in
    let last = slice_index lower_digits (c.args.number % 16) ∷ [] in
    subst (Writes a d c.write_text-2.result) (sym (digits_step c.args.number (omega arith) (omega arith)))
    (writes_then a b d c.write_text-2.result front last c.in_ok-write_digits.ensures
    (subst (λ s. Writes b d c.write_text-2.result (s ∷ []))
    (c.digit-2.ensures ∙ ap (slice_index lower_digits) (last_twice c.args.number)) c.write_text-2.ensures))
