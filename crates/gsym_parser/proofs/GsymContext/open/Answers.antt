-- `gsym_parser::GsymContext::open` meets its contract: the tables that were placed lie within the file.
-- Assumes nothing.
use Rattle.std.proofs.Common.{sym, ◌∙◌}
use Rattle.gsym_parser.proofs.Opened.{placed_within}
use Rattle.gsym_parser.proofs.GsymContext.open.Goals as goal

pub invariant_of-result : goal.invariant_of-result
invariant_of-result c =
    record { within = placed_within _ _ _ (sym c.place_tables.ensures ∙ c.in_ok-tables.was) }
