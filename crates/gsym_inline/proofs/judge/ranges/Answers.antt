-- `gsym_inline::judge::ranges` meets its contract: what all ranges come to is what those left come to with what is kept
-- (`spans_from`).
-- Assumes nothing.
use Rattle.std.proofs.Common.{◌≡◌, suc, ◌+◌, ◌-◌, true, eqb, sym, ◌∙◌, arith, eq-eqb, ne_eqb, if◌then◌else◌}
use Rattle.std.proofs.lemmas.Result.{err_from_is_err_and}
use Rattle.gsym_inline.proofs.Ranges.{spans-start, spans-bad, spans-at, spans-none}
use Rattle.gsym_inline.proofs.judge.ranges.Goals as goal
use Rattle.gsym_inline.proofs.judge.ranges.Goals.{then-k-eq0, else-k-eq0, then-inside, else-inside}

pub loop-k-init : goal.loop-k-init
loop-k-init c =
    let e : c.args.count - 0 ≡ c.args.count = omega arith in
    rw e (spans-start _ _)

pub returns-in_err-n : goal.returns-in_err-n
returns-in_err-n c =
    let p = err_from_is_err_and c.from_residual.result c.from_residual.ensures.1 in
    let e : c.args.count - c.loop-k.k ≡ suc (c.args.count - (c.loop-k.k + 1)) = omega arith in
    rw (p.1, p.2) (spans-bad _ _ _ _ _ _ _ _ _ c.range.ensures e _ c.in_err-n.was ∙ sym c.loop-k.invariant)

pub loop-k-preserved : goal.loop-k-preserved
loop-k-preserved c =
    let x : c.if-k-eq0.first ≡ (if eqb c.loop-k.k 0 then c.in_ok-n.start else c.loop-k.first) =
    elim c.if-k-eq0.branch [
      | then-k-eq0 w ↦ rw (eq-eqb _ 0 w.if-k-eq0.true) w.first-is
      | else-k-eq0 w ↦ rw (ne_eqb _ 0 w.if-k-eq0.false) w.first-is
    ]
    in
    let y : c.if-inside.inside ≡ (if c.loop-k.inside then true else c.in_ok-n.holds) =
    elim c.if-inside.branch [
      | then-inside w ↦ rw w.if-inside.true (w.inside-is ∙ w.if-inside.true)
      | else-inside w ↦ rw w.if-inside.false w.inside-is
    ]
    in
    rw (ne_eqb (c.loop-k.k + 1) 0 (λ e. omega (arith, e)))
    (c.loop-k.invariant
    ∙ spans-at _ _ _ _ _ _ _ _ _ c.range.ensures (omega arith) _ _ _ c.in_ok-n.was _ x _ y)

pub returns : goal.returns
returns c = spans-none _ _ _ _ _ _ _ (omega arith) ∙ sym c.loop-k.invariant
