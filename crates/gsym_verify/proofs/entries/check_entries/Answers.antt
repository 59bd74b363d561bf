-- `gsym_verify::entries::check_entries` meets its contract: one entry on, or its fault.
-- Assumes nothing.
use Rattle.std.proofs.Common.{sym, ◌∙◌}
use Rattle.gsym_verify.proofs.InOrder.{entry_bad, entry_good}
use Rattle.gsym_verify.proofs.entries.check_entries.Goals as goal

pub returns-in-Err : goal.returns-in-Err
returns-in-Err g c =
    sym (c.loop-index.invariant
    ∙ entry_bad _ _ _ _ _ _ (sym c.entry.ensures.exact ∙ c.in-Some.is) (sym c.check_entry.ensures ∙ c.in-Err.is))

pub loop-index-preserved : goal.loop-index-preserved
loop-index-preserved g c =
    c.loop-index.invariant
    ∙ entry_good _ _ _ _ _ _ (sym c.entry.ensures.exact ∙ c.in-Some.is)
    (sym c.check_entry.ensures ∙ c.in_default-check_entry.is)
