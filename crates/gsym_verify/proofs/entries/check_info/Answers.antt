-- `gsym_verify::entries::check_info` meets its contract where the sum fits and the name reads.
-- Assumes nothing.
use Rattle.std.proofs.Common.{sym, ◌∙◌}
use Rattle.gsym_parser.specs.View.{view}
use Rattle.gsym_verify.proofs.Names.{named, data_good}
use Rattle.gsym_verify.proofs.entries.check_info.Goals as goal

pub returns-in-Some : goal.returns-in-Some
returns-in-Some c =
    c.check_list.ensures
    ∙ data_good _ _ _ _ (sym c.symbol_of.ensures ∙ c.in_ok-symbol.was)
    (named (view c.args.context.now) c.args.context.now.within _ _ (sym c.name_at.ensures.exact ∙ c.in-Some.is))
