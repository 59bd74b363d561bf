-- `gsym_form::reading::Reading::read_lines`: one line on, a wrong line, and past the last.
-- Assumes nothing.
use Rattle.std.proofs.Common.{◌∷◌, [], ◌++◌, rules, length, length-append, subst, sym}
use Rattle.std.specs.List.{slice_split}
use borrow.Author.Tests.{tests}
use Rattle.std.specs.Prelude.{Err}
use Rattle.gsym_form.specs.Kept.{reading_said, TellsLines}
use Rattle.gsym_form.specs.Said.{is_newline, lines_said}
use Rattle.gsym_form.proofs.LinesSaid.{lines_next, lines_wrong, lines_end}
use Rattle.gsym_form.proofs.Turns.{line_turn, line_end}
use Rattle.gsym_form.proofs.reading.Reading.read_lines.Goals as goal

pub loop-index-preserved : goal.loop-index-preserved
loop-index-preserved c =
    let t =
    line_turn _ c.args.text.now c.loop-index.yielded _ c.next.new.self (c.in-Some.index, c.in-Some.line)
    c.saturating_add-number.result c.loop-index.yielded_by c.in-Some.ensures.steps c.saturating_add-number.ensures
    c.into_iter-index-iterator.ensures.into_iter_gives c.enumerate-index-items.ensures.source c.split.ensures.rest
    c.split.ensures.done c.split.ensures.closure c.enumerate-index-items.ensures.count
    (λ x b q k. search (rules, tests)) in
    record {
      said = lines_next (slice_split is_newline c.args.text.now) (length c.loop-index.yielded)
          c.saturating_add-number.result (reading_said c.loop-index.self) c.in-Some.line.now _
          (length (c.loop-index.yielded ++ (c.in-Some.index, c.in-Some.line) ∷ [])) (reading_said c.read_line.new.self)
          (length-append c.loop-index.yielded ((c.in-Some.index, c.in-Some.line) ∷ [])) t.0 t.1
          c.in_default.ensures.says c.loop-index.invariant.said;
      whole = c.in_default.ensures.whole;
    }

pub returns-in-Err-clause-says : goal.returns-in-Err-clause-says
returns-in-Err-clause-says c =
    let t =
    line_turn _ c.args.text.now c.loop-index.yielded _ c.next.new.self (c.in-Some.index, c.in-Some.line)
    c.saturating_add-number.result c.loop-index.yielded_by c.in-Some.ensures.steps c.saturating_add-number.ensures
    c.into_iter-index-iterator.ensures.into_iter_gives c.enumerate-index-items.ensures.source c.split.ensures.rest
    c.split.ensures.done c.split.ensures.closure c.enumerate-index-items.ensures.count
    (λ x b q k. search (rules, tests)) in
    subst
    (λ u. TellsLines (Err u) (reading_said c.read_line.new.self)
    (lines_said 1 (reading_said c.args.self.now) (slice_split is_newline c.args.text.now)))
    (sym c.unread.ensures)
    (lines_wrong (slice_split is_newline c.args.text.now) (length c.loop-index.yielded)
    c.saturating_add-number.result (reading_said c.loop-index.self) c.in-Some.line.now _ c.in-Err.problem
    (reading_said c.read_line.new.self) t.0 t.1 c.in-Err.ensures.says c.loop-index.invariant.said)

pub returns-clause-says : goal.returns-clause-says
returns-clause-says c =
    lines_end (slice_split is_newline c.args.text.now) (length c.loop-index.yielded) _
    (reading_said c.loop-index.self) _
    (line_end _ c.args.text.now c.loop-index.yielded _ c.next.new.self c.loop-index.yielded_by c.in-None.ensures.steps
    c.into_iter-index-iterator.ensures.into_iter_gives c.enumerate-index-items.ensures.source c.split.ensures.rest
    c.split.ensures.done c.split.ensures.closure c.enumerate-index-items.ensures.count
    (λ x b q k. search (rules, tests)))
    c.loop-index.invariant.said
