-- `gsym::lookups::lookup_by` meets its contract: with both options, or without records.
-- Assumes nothing.
use Rattle.std.proofs.Common.{◌≡◌, ◌&&◌, false, refl}
use Rattle.gsym.proofs.Promised.{plain_exact}
use Rattle.gsym.proofs.lookups.lookup_by.Goals as goal
use Rattle.gsym.proofs.lookups.lookup_by.Goals.{else-options-via-then-options+else-options-2}
use Rattle.gsym.proofs.lookups.lookup_by.Goals.{else-options-via-else-options}

pub returns-else-options-clause-exact : goal.returns-else-options-clause-exact
returns-else-options-clause-exact c =
    let both : (c.args.options.code_info && c.args.options.inlining) ≡ false =
    elim c.else-options.branch [
      | else-options-via-then-options+else-options-2 w ↦ rw (w.if-options.true, w.if-options-2.false) refl
      | else-options-via-else-options w ↦ rw w.if-options.false refl
    ] in
    plain_exact _ _ c.args.options _ _ c.lookup_plain.ensures.exact both
