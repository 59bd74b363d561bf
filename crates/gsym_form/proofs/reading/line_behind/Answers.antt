-- `gsym_form::reading::line_behind`: by the newlines, and by what stands behind the last.
-- Assumes nothing.
use Rattle.std.proofs.Common.{◌≡◌, ◌∙◌, rules, arith}
use Rattle.std.specs.List.{count_by}
use Rattle.std.proofs.lemmas.Iterator.{YieldsList-from_slice}
use Rattle.std.proofs.lemmas.Iterator.Consumers.{count_from_yields_List, YieldsList-from_filter, YieldsList-at}
use Rattle.std.proofs.lemmas.List.Sums.{length-filter}
use borrow.Author.Tests.{tests}
use Rattle.gsym_form.specs.Said.{is_newline}
use Rattle.gsym_form.proofs.LinesSaid.{behind_newline, behind_rest}
use Rattle.gsym_form.proofs.reading.line_behind.Goals as goal

pub returns-then-ends_in : goal.returns-then-ends_in
returns-then-ends_in c =
    let n : c.count-ended.result ≡ count_by is_newline c.args.text.now =
    count_from_yields_List _ _ c.count-ended.ensures.ran
    (YieldsList-from_filter _ is_newline
    (YieldsList-at c.filter.ensures.source (YieldsList-from_slice c.args.text.now c.iter.ensures.rest))
    c.filter.ensures.closure (λ x b q k. search (rules, tests)))
    ∙ length-filter is_newline c.args.text.now in
    behind_newline c.args.text.now c.count-ended.result c.saturating_add.result n c.if-ends_in.ensures
    c.saturating_add.ensures (omega arith)

pub returns-else-ends_in : goal.returns-else-ends_in
returns-else-ends_in c =
    let n : c.count-ended.result ≡ count_by is_newline c.args.text.now =
    count_from_yields_List _ _ c.count-ended.ensures.ran
    (YieldsList-from_filter _ is_newline
    (YieldsList-at c.filter.ensures.source (YieldsList-from_slice c.args.text.now c.iter.ensures.rest))
    c.filter.ensures.closure (λ x b q k. search (rules, tests)))
    ∙ length-filter is_newline c.args.text.now in
    behind_rest c.args.text.now c.count-ended.result c.saturating_add-else-ends_in.result n c.if-ends_in.ensures
    c.saturating_add-else-ends_in.ensures (omega arith)
