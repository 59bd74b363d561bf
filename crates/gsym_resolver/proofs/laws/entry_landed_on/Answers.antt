-- `gsym_resolver::laws::entry_landed_on` meets its contract: the entry is that of the search.
-- Assumes nothing.
use Rattle.std.proofs.Common.{◌-◌}
use Rattle.gsym_parser.specs.Search.{entries_of}
use Rattle.gsym_parser.proofs.Choice.{allowed-first}
use Rattle.gsym_parser.proofs.Symbols.{find_of-allowed}
use Rattle.gsym_resolver.proofs.laws.entry_landed_on.Goals as goal

pub returns-clause-allowed : goal.returns-clause-allowed
returns-clause-allowed c = λ file addr e. find_of-allowed e.view addr e.index e.finds

pub returns-clause-first : goal.returns-clause-first
returns-clause-first c = λ file addr e up.
    allowed-first (entries_of e.view) (addr.0 - e.view.tables.base.0) up e.index
    (find_of-allowed e.view addr e.index e.finds)
