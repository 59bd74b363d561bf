-- `gsym_parser::search::find_in` meets its contract: nothing to choose from, or the start of the run that halving comes
-- to.
-- Assumes nothing.
use Rattle.std.proofs.Common.{arith, ℕ, ◌≡◌, ◌+◌}
use Rattle.gsym_parser.specs.Search.{entries, run_start}
use Rattle.gsym_parser.proofs.Turns.{none, starts-above, ended, Scanned, scan_begins, scan-stops, scan-ends}
use Rattle.gsym_parser.proofs.search.find_in.Goals as goal
use Rattle.gsym_parser.proofs.search.find_in.Goals.{then-last-eq0-via-then-last-eq0}
use Rattle.gsym_parser.proofs.search.find_in.Goals.{then-last-eq0-via-else-last-eq0+then-entry_at-entry}

pub returns-then-n-eq0 : goal.returns-then-n-eq0
returns-then-n-eq0 c = none _ _ _ _ c.if-n-eq0.true

pub returns-then-wanted-first : goal.returns-then-wanted-first
returns-then-wanted-first c = starts-above _ _ _ _ _ c.if-n-eq0.false c.entry_at-first.ensures c.if-wanted-first.true

-- no entry before it, or another one: the run starts here
pub returns-then-last-eq0 : goal.returns-then-last-eq0
returns-then-last-eq0 c =
    let h = c.halve-last.ensures in
    let here : Scanned c.args.size c.args.table.now c.halve-last.result.0 c.halve-last.result.1 c.halve-last.result.0 =
    scan_begins _ _ _ _ h.entry in
    let last : ℕ = c.halve-last.result.0 in
    let start : last ≡ run_start (entries c.args.size (last + 1) c.args.table.now) last =
    elim c.then-last-eq0.branch [
      | then-last-eq0-via-then-last-eq0 w ↦ scan-ends _ _ _ _ _ (omega (arith, w.if-last-eq0.true)) here
      | then-last-eq0-via-else-last-eq0+then-entry_at-entry w ↦
          scan-stops _ _ _ _ _ _ (omega (arith, w.if-last-eq0.false)) w.entry_at.ensures here w.if-entry_at-entry.true
    ] in
    ended _ _ _ _ _ _ _ _ c.if-n-eq0.false c.entry_at-first.ensures c.if-wanted-first.false h.index h.within h.entry
    start

pub returns : goal.returns
returns c =
    let h = c.halve-last.ensures in
    ended _ _ _ _ _ _ _ _ c.if-n-eq0.false c.entry_at-first.ensures c.if-wanted-first.false h.index h.within h.entry
    c.run_start-start.ensures
