-- `gsym_form::reading::Reading::offset_of`: a text that is known.
-- Assumes nothing.
use Rattle.std.proofs.Common.{sym}
use Rattle.gsym_form.specs.Kept.{reading_said}
use Rattle.gsym_form.proofs.Strings.{known}
use Rattle.gsym_form.proofs.reading.Reading.offset_of.Goals as goal

pub returns-in-Some-clause-says : goal.returns-in-Some-clause-says
returns-in-Some-clause-says c =
    known (reading_said c.args.self.now) c.args.text.now c.in-Some.offset.now (sym c.in-Some.ensures.value)
