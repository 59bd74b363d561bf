-- `gsym_report::input::whole_addresses`: an address more.
-- Assumes nothing.
use Rattle.std.proofs.Common.{ap, ◌∙◌, arith}
use Rattle.std.specs.Int.{w64, from_le_bytes}
use Rattle.gsym_report.proofs.Addresses.{addresses-more}
use Rattle.gsym_report.proofs.input.whole_addresses.Goals as goal

pub loop-front-preserved : goal.loop-front-preserved
loop-front-preserved c =
    addresses-more c.args.bytes.now c.loop-front.rest.now c.in-Some.after.now c.loop-front.list.items
    c.push.new.self.items c.from_le_bytes.result c.loop-front.invariant (omega (arith, c.in-Some.ensures.cases.2))
    (c.from_le_bytes.ensures ∙ ap (from_le_bytes w64) c.in-Some.ensures.cases.0) c.in-Some.ensures.cases.1
    c.in_ok-push.ensures.items
