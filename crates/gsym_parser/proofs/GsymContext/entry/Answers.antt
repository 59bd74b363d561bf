-- `gsym_parser::GsymContext::entry` meets its contract: the entry that was read is that of the list.
-- Assumes nothing.
use Rattle.std.proofs.Common.{arith, ◌*◌, ◌-◌, length, ◌∙◌, ap, drop, take_all, length-drop}
use Rattle.gsym_parser.specs.View.{view}
use Rattle.gsym_parser.specs.Search.{entry_number}
use Rattle.gsym_parser.proofs.Table.{entry_there}
use Rattle.gsym_parser.proofs.GsymContext.entry.Goals as goal

pub returns-clause-exact : goal.returns-clause-exact
returns-clause-exact c =
    let t = c.args.self.now.tables in
    entry_there (view c.args.self.now) _ _ (omega arith)
    (c.entry_at.ensures
    ∙ ap (λ s. entry_number t.offset_size (drop (c.args.index * t.offset_size) s))
    (take_all (length c.args.self.now.file.now - t.addrs) _
    (omega (arith, length-drop t.addrs c.args.self.now.file.now))))
