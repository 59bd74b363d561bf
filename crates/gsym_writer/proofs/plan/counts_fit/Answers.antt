-- `gsym_writer::plan::counts_fit`: the number that is too large.
-- Assumes nothing.
use Rattle.std.proofs.Common.{◌∙◌, sym, arith, length}
use Rattle.std.proofs.lemmas.Bool.{OnFalse_from, leb-false}
use Rattle.std.proofs.lemmas.List.{length-map}
use Rattle.gsym_writer.specs.View.{entry_view, view}
use Rattle.gsym_writer.proofs.Heads.{count_fails, files_fail}
use Rattle.gsym_writer.proofs.plan.counts_fit.Goals as goal
use Rattle.gsym_writer.proofs.plan.counts_fit.Goals.{then-content-le-MOST, else-content-le-MOST}

pub returns-else-content-le-MOST-2-clause-fail : goal.returns-else-content-le-MOST-2-clause-fail
returns-else-content-le-MOST-2-clause-fail c =
    OnFalse_from c.if-content-le-MOST.value _ (λ z.
    elim c.if-content-le-MOST.branch [
      | then-content-le-MOST w ↦ files_fail (view c.args.content)
          (omega (arith, leb-false (length c.args.content.files.now) 4294967295 (sym w.value-is ∙ z)))
      | else-content-le-MOST w ↦ count_fails (view c.args.content)
          (omega (arith, w.if-content-le-MOST.false, length-map c.args.content.entries.now entry_view))
    ])
