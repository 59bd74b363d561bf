-- `gsym_linetab::table_end` promises of its equation what the laws say.
-- Assumes nothing.
use Rattle.gsym_linetab.proofs.Endings.{end_full, end_stops, end_unread}
use Rattle.gsym_linetab.proofs.table_end.Goals as goal

pub returns-clause-full : goal.returns-clause-full
returns-clause-full c = end_full _ _ _ c.run_to_end.ensures

pub returns-clause-stopped : goal.returns-clause-stopped
returns-clause-stopped c = end_stops _ _ _ c.run_to_end.ensures

pub returns-clause-refused : goal.returns-clause-refused
returns-clause-refused c = end_unread _ _ _ c.run_to_end.ensures
