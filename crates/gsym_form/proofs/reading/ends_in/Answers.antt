-- `gsym_form::reading::ends_in`: by the last byte.
-- Assumes nothing.
use Rattle.gsym_form.proofs.Strings.{ends_some, ends_none}
use Rattle.gsym_form.proofs.reading.ends_in.Goals as goal

pub returns-in-Some : goal.returns-in-Some
returns-in-Some c = ends_some c.args.byte c.args.bytes.now c.in-Some.last.now c.in-Some.ensures.value

pub returns-in-None : goal.returns-in-None
returns-in-None c = ends_none c.args.byte c.args.bytes.now c.in-None.ensures.value
