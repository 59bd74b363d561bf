-- `gsym_form::printing::write_files`: a line more, and past the last.
-- Assumes nothing.
use Rattle.std.proofs.Common.{ℕ, List, map, drop, ◌+◌, sym, ◌∙◌, arith}
use Rattle.gsym_output.specs.Lines.{ended, text_of}
use Rattle.gsym_parser.specs.View.{view}
use Rattle.gsym_resolver.specs.SharedTables.{shared_tables}
use Rattle.gsym_form.specs.Printed.{file_line}
use Rattle.gsym_output.proofs.Fronts.{leads_on, leads_cut, leads_end, writes_err}
use Rattle.gsym_form.proofs.DumpLines.{files_step, files_end}
use Rattle.gsym_form.proofs.printing.write_files.Goals as goal

pub returns-in_err-write_file : goal.returns-in_err-write_file
returns-in_err-write_file g c =
    let v = view c.args.context.now in
    let files = (shared_tables v).files in
    let text : ℕ → List ℕ = λ i. text_of (map (file_line v) (drop i files)) in
    writes_err (g.W.Write.contents c.args.out.now) (g.W.Write.contents c.write_file.new.out) c.from_residual.result
    (text_of (map (file_line v) files)) c.from_residual.ensures.0
    (leads_cut (g.W.Write.contents c.args.out.now) (g.W.Write.contents c.loop-index.out)
    (g.W.Write.contents c.write_file.new.out) (ended (file_line v c.in-Some.file)) (text (c.loop-index.index + 1))
    (text c.loop-index.index) (text_of (map (file_line v) files)) c.loop-index.invariant
    (files_step v c.args.context.now.within c.loop-index.index c.in-Some.file
    (sym c.file_info.ensures.exact ∙ c.in-Some.is))
    c.in_err-write_file.ensures)

pub loop-index-preserved : goal.loop-index-preserved
loop-index-preserved g c =
    let v = view c.args.context.now in
    let files = (shared_tables v).files in
    let text : ℕ → List ℕ = λ i. text_of (map (file_line v) (drop i files)) in
    leads_on (g.W.Write.contents c.args.out.now) (g.W.Write.contents c.loop-index.out)
    (g.W.Write.contents c.write_file.new.out) (ended (file_line v c.in-Some.file)) (text (c.loop-index.index + 1))
    (text c.loop-index.index) (text_of (map (file_line v) files)) c.loop-index.invariant
    (files_step v c.args.context.now.within c.loop-index.index c.in-Some.file
    (sym c.file_info.ensures.exact ∙ c.in-Some.is))
    c.in_ok-write_file.ensures

pub returns : goal.returns
returns g c =
    let v = view c.args.context.now in
    let files = (shared_tables v).files in
    leads_end (g.W.Write.contents c.args.out.now) (g.W.Write.contents c.loop-index.out)
    (text_of (map (file_line v) (drop c.loop-index.index files))) (text_of (map (file_line v) files))
    c.loop-index.invariant (files_end v c.loop-index.index (omega arith))
