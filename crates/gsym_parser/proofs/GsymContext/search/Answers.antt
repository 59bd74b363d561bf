-- `gsym_parser::GsymContext::search` meets its contract: at another offset size no entry is found.
-- Assumes nothing.
use Rattle.std.proofs.Common.{ap, sym, arith}
use Rattle.gsym_parser.specs.View.{view}
use Rattle.gsym_parser.specs.Search.{entries_of, with_entry, other_size}
use Rattle.gsym_parser.proofs.Table.{no-width}
use Rattle.gsym_parser.proofs.Symbols.{unknown-find}
use Rattle.gsym_parser.proofs.GsymContext.search.Goals as goal

pub returns-in_default : goal.returns-in_default
returns-in_default c =
    ap (with_entry (entries_of (view c.args.self.now)))
    (sym
    (unknown-find (view c.args.self.now) c.args.addr
    (other_size
    (no-width c.args.self.now.tables.offset_size (λ e. omega arith) (λ e. omega arith) (λ e. omega arith)
    (λ e. omega arith)))))
