-- `gsym_parser::search::halve_in_pairs` meets its contract: what a turn of the loop comes to is what two turns of the
-- search on the list of entries come to.
-- Assumes nothing.
use Rattle.std.proofs.Common.{arith, refl, ℕ, ◌+◌, ◌-◌, ◌/◌, ◌∙◌}
use Rattle.gsym_parser.proofs.Turns.{Sofar, begins, turn-up, turn-stay}
use Rattle.gsym_parser.proofs.search.halve_in_pairs.Goals as goal
use Rattle.gsym_parser.proofs.search.halve_in_pairs.Goals.{then-middle-wanted, else-middle-wanted}
use Rattle.gsym_parser.proofs.search.halve_in_pairs.Goals.{then-near-wanted, else-near-wanted}
use Rattle.gsym_parser.proofs.search.halve_in_pairs.Goals.{then-far-wanted, else-far-wanted}

pub loop-len-init : goal.loop-len-init
loop-len-init c = begins _ _ _ _ (omega arith) _ c.entry_at-kept.ensures

pub loop-len-preserved : goal.loop-len-preserved
loop-len-preserved c =
    let i = c.loop-len.invariant in
    let half : ℕ = c.loop-len.len / 2 in
    let rest : ℕ = c.loop-len.len - half in
    elim c.if-middle-wanted.branch [
      | then-middle-wanted w ↦
          let s : Sofar c.args.size c.args.n c.args.table.now c.args.wanted (c.loop-len.lo + half)
          c.entry_at-middle.result rest =
          turn-up _ _ _ _ _ _ _ _ c.entry_at-middle.ensures i _ _ (omega arith) refl refl in
          elim c.if-far-wanted.branch [
            | then-far-wanted v ↦
                turn-up _ _ _ _ _ _ _ _ c.entry_at-far.ensures s _ _ (omega arith) (w.lo-is ∙ v.high-is)
                (w.kept-is ∙ v.high_kept-is)
            | else-far-wanted v ↦
                turn-stay _ _ _ _ _ _ _ _ c.entry_at-far.ensures s _ _ (omega arith) (w.lo-is ∙ v.high-is)
                (w.kept-is ∙ v.high_kept-is)
          ]
      | else-middle-wanted w ↦
          let s : Sofar c.args.size c.args.n c.args.table.now c.args.wanted c.loop-len.lo c.loop-len.kept rest =
          turn-stay _ _ _ _ _ _ _ _ c.entry_at-middle.ensures i _ _ (omega arith) refl refl in
          elim c.if-near-wanted.branch [
            | then-near-wanted v ↦
                turn-up _ _ _ _ _ _ _ _ c.entry_at-near.ensures s _ _ (omega arith) (w.lo-is ∙ v.lo-is)
                (w.kept-is ∙ v.kept-is)
            | else-near-wanted v ↦
                turn-stay _ _ _ _ _ _ _ _ c.entry_at-near.ensures s _ _ (omega arith) (w.lo-is ∙ v.lo-is)
                (w.kept-is ∙ v.kept-is)
          ]
    ]

pub returns-clause-same : goal.returns-clause-same
returns-clause-same c = let s = c.loop-len.invariant in s.same

pub returns-clause-left : goal.returns-clause-left
returns-clause-left c = let s = c.loop-len.invariant in (s.some, s.inside)

pub returns-clause-entry : goal.returns-clause-entry
returns-clause-entry c = let s = c.loop-len.invariant in s.kept-is
