-- `gsym_report::running::read_input`: as much as shows that an input is none.
-- Assumes nothing.
use Rattle.gsym_report.proofs.Addresses.{read-enough}
use Rattle.gsym_report.proofs.running.read_input.Goals as goal

pub returns : goal.returns
returns g c =
    read-enough (g.R.Read.remaining c.args.input.now) c.read_to_end.new.buf.items
    (rw (c.take.ensures.limit, c.take.ensures.inner, c.new-bytes.ensures.items) at c.in_ok-read_to_end.ensures.bytes)
