-- `gsym_linetab::quick::first_maker` meets its contract: an operand that doesn't read ends the program without a row.
-- Assumes nothing.
use Rattle.std.proofs.Common.{sym, ◌∙◌}
use Rattle.gsym_linetab.proofs.Quickly.{file_stops, line_stops}
use Rattle.gsym_linetab.proofs.quick.first_maker.Goals as goal

pub returns-in-Err : goal.returns-in-Err
returns-in-Err c =
    file_stops _ _ c.settings.state c.settings.invariant c.settings-test.true _ c.in-1.is
    (sym c.set_file.ensures ∙ c.in-Err.is)

pub returns-in-Err-advance_line : goal.returns-in-Err-advance_line
returns-in-Err-advance_line c =
    line_stops _ _ c.settings.state c.settings.invariant c.settings-test.true _ c.in-3.is
    (sym c.advance_line.ensures ∙ c.in-Err-advance_line.is)
