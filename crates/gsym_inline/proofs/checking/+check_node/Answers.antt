-- `gsym_inline::checking::check_node` meets its contract where a child is refused: so is the list of children, and the
-- node.
-- Assumes nothing.
use Rattle.std.proofs.Common.{sym, ap, ◌∙◌}
use Rattle.std.proofs.lemmas.Result.{err_from_is_err_and}
use Rattle.gsym_inline.proofs.Skips.{past_list}
use Rattle.gsym_inline.proofs.CheckedLists.{checked_bad}
use Rattle.gsym_inline.proofs.checking.+check_node.Goals as goal

pub returns-in_err-next-in-Node-clause-exact : goal.returns-in_err-next-in-Node-clause-exact
returns-in_err-next-in-Node-clause-exact t c =
    let p = err_from_is_err_and c.from_residual-in_err-next-in-Node.result
    c.from_residual-in_err-next-in-Node.ensures.1 in
    rw (p.1, p.2)
    (sym (c.loop-next.invariant.3
    ∙ ap past_list (checked_bad _ _ _ _ (sym c.check_node.ensures.exact ∙ c.in_err-next-in-Node.was))))
