-- `gsym_resolver::with_frames` meets its contract: a later frame that doesn't read refuses.
-- Assumes nothing.
use Rattle.std.proofs.Common.{sym, ◌∙◌, ap}
use Rattle.std.proofs.lemmas.Result.{err_from_is_err_and}
use Rattle.gsym_resolver.specs.Lookup.{placed_with}
use Rattle.gsym_resolver.proofs.LaterFrames.{with_refused}
use Rattle.gsym_resolver.proofs.with_frames.Goals as goal

pub returns-in_err-position : goal.returns-in_err-position
returns-in_err-position g c =
    let p = err_from_is_err_and c.from_residual-in_err-position.result c.from_residual-in_err-position.ensures.1 in
    rw (p.1, p.2)
    (with_refused _ _ _ _ _ _ _ _ c.in-Some.ensures.cases.0 (sym c.name_at.ensures.exact ∙ c.in_ok-name.ensures.ok_part)
    (ap (λ w. placed_with w c.push_later.new.records.items) (sym c.in_err-position.was) ∙ c.push_later.ensures))
