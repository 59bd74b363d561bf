-- `gsym_parser::GsymContext::addr_at` meets its contract: an entry that isn't there counts as 0.
-- Assumes nothing.
use Rattle.std.proofs.Common.{◌∙◌, ap, ◌+◌, ◌%◌, ◌^◌}
use Rattle.std.proofs.lemmas.Option.{unwrap_or-slice_get}
use Rattle.std.specs.Option.{unwrap_or}
use Rattle.gsym_parser.specs.View.{view}
use Rattle.gsym_parser.specs.Search.{entries_of}
use Rattle.gsym_parser.specs.Entries.{symbol_at}
use Rattle.gsym_parser.proofs.GsymContext.addr_at.Goals as goal

pub returns : goal.returns
unfolding symbol_at
returns c =
    let e = ap (λ o. unwrap_or o 0) c.entry.ensures.exact
    ∙ unwrap_or-slice_get (entries_of (view c.args.self.now)) c.args.index 0 in
    ap (λ n. record { 0 = (c.args.self.now.tables.base.0 + n) % 2 ^ 64 }) (c.unwrap_or-entry.ensures ∙ e)
