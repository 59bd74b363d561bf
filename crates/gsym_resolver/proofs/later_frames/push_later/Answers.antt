-- `gsym_resolver::later_frames::push_later` meets its contract: a later frame that doesn't read refuses.
-- Assumes nothing.
use Rattle.std.proofs.Common.{sym, ◌∙◌}
use Rattle.std.proofs.lemmas.Result.{err_from_is_err_and}
use Rattle.gsym_resolver.proofs.LaterFrames.{later_refused}
use Rattle.gsym_resolver.proofs.later_frames.push_later.Goals as goal

pub returns-in_err-next : goal.returns-in_err-next
returns-in_err-next g c =
    let p = err_from_is_err_and c.from_residual-in_err-next.result c.from_residual-in_err-next.ensures.1 in
    rw (p.1, p.2)
    (sym
    (c.loop-frame.invariant.records
    ∙ later_refused _ _ _ _ _ _ _ _ _ c.loop-frame-test.true (sym c.call_at-in-loop-frame.ensures ∙ c.in_err-next.was)))
