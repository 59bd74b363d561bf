-- `gsym_parser::search::run_start` meets its contract: each turn of the loop is a step to the front on the list of
-- entries.
-- Assumes nothing.
use Rattle.gsym_parser.proofs.Turns.{scan-on, scan-stops, scan-ends}
use Rattle.gsym_parser.proofs.search.run_start.Goals as goal

pub loop-start-preserved : goal.loop-start-preserved
loop-start-preserved c =
    scan-on _ _ _ _ _ _ c.loop-start-test.true c.entry_at.ensures c.loop-start.invariant c.if-entry_at-entry.true

pub returns-else-entry_at-entry : goal.returns-else-entry_at-entry
returns-else-entry_at-entry c =
    scan-stops _ _ _ _ _ _ c.loop-start-test.true c.entry_at.ensures c.loop-start.invariant c.if-entry_at-entry.false

pub returns-after-loop-start : goal.returns-after-loop-start
returns-after-loop-start c = scan-ends _ _ _ _ _ c.loop-start-test.false c.loop-start.invariant
