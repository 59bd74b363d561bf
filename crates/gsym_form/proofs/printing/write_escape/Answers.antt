-- `gsym_form::printing::write_escape`: its two digits.
-- Assumes nothing.
use Rattle.std.proofs.Common.{subst, arith}
use Rattle.gsym_output.specs.Writing.{Writes}
use Rattle.gsym_form.proofs.TextParts.{numbered}
use Rattle.gsym_form.proofs.printing.write_escape.Goals as goal

pub returns : goal.returns
returns g c =
    subst (Writes (g.W.Write.contents c.args.out.now) (g.W.Write.contents c.write_text.new.out) c.write_text.result)
    (numbered c.args.byte c.digit.result c.digit-2.result (omega arith) c.digit.ensures c.digit-2.ensures)
    c.write_text.ensures
