-- `gsym_form::line::Line::short_number`: a number that is not above its limit fits.
-- Assumes nothing.
use Rattle.std.proofs.Common.{arith}
use Rattle.gsym_form.proofs.Digits.{number_within}
use Rattle.gsym_form.proofs.line.Line.short_number.Goals as goal

pub overflow_cast-result : goal.overflow_cast-result
overflow_cast-result c =
    omega (
      arith,
      number_within c.from.result c.args.self.now.rest.now c.in_ok-number.field-0 c.number.new.self.rest.now
          c.in_ok-number.ensures,
    )
