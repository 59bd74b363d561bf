-- `report_c::gsym_report`: how many bytes the page holds in the end.
-- Assumes nothing.
use Rattle.std.proofs.Common.{ap, sym, ◌∙◌, length, length-take-le}
use Rattle.report_c.proofs.gsym_report.Goals as goal

pub returns-in-Ok : goal.returns-in-Ok
returns-in-Ok c = λ n.
    sym (length-take-le c.write_report.new.out.len c.write_report.new.out.room.now c.write_report.new.out.within)
    ∙ ap length c.in-Ok.ensures.written
