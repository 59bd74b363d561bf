-- `gsym_form::printing::write_entries`: one entry on, and past the last.
-- Assumes nothing.
use Rattle.std.proofs.Common.{ℕ, List, ◌+◌, drop, refl, sym, ◌∙◌, arith, rules}
use Rattle.gsym_output.specs.Lines.{text_of}
use Rattle.gsym_parser.specs.View.{view}
use Rattle.gsym_parser.specs.Entries.{info_at}
use Rattle.gsym_parser.specs.Search.{entries_of}
use Rattle.gsym_form.specs.Printed.{all_read, info_lines, entry_lines, entry_lines_from}
use Rattle.gsym_output.proofs.Fronts.{leads_start, leads_on, leads_cut, leads_end, writes_err}
use Rattle.gsym_form.proofs.AllRead.{none_past, read_none, read_ended, read_next}
use Rattle.gsym_form.proofs.DumpLines.{entries_step, entries_past, entries_end}
use Rattle.gsym_form.proofs.printing.write_entries.Goals as goal

pub loop-index-init : goal.loop-index-init
unfolding all_read entry_lines
loop-index-init g c = record {
  reads = refl;
  text =
      leads_start (g.W.Write.contents c.args.out.now) (text_of (entry_lines (view c.args.context.now)));
}

pub returns-in_default-clause-reads : goal.returns-in_default-clause-reads
returns-in_default-clause-reads g c =
    read_none (view c.args.context.now) c.loop-index.all c.loop-index.index
    (sym c.entry.ensures.exact ∙ c.in_default.is) c.loop-index.invariant.reads

pub returns-in_default-clause-lines : goal.returns-in_default-clause-lines
returns-in_default-clause-lines g c =
    let v = view c.args.context.now in
    leads_end (g.W.Write.contents c.args.out.now) (g.W.Write.contents c.loop-index.out)
    (text_of (entry_lines_from v c.loop-index.index (drop c.loop-index.index (entries_of v)))) (text_of (entry_lines v))
    c.loop-index.invariant.text
    (entries_past v c.loop-index.index
    (none_past v c.loop-index.all c.loop-index.index (sym c.entry.ensures.exact ∙ c.in_default.is)))

pub returns-in_err-reads-clause-lines : goal.returns-in_err-reads-clause-lines
returns-in_err-reads-clause-lines g c =
    let v = view c.args.context.now in
    let i = c.loop-index.index in
    let text : ℕ → List ℕ = λ i. text_of (entry_lines_from v i (drop i (entries_of v))) in
    writes_err (g.W.Write.contents c.args.out.now) (g.W.Write.contents c.write_entry.new.out) c.from_residual.result
    (text_of (entry_lines v)) c.from_residual.ensures.0
    (leads_cut (g.W.Write.contents c.args.out.now) (g.W.Write.contents c.loop-index.out)
    (g.W.Write.contents c.write_entry.new.out)
    (text_of (info_lines v (v.tables.base.0 + c.in-Some.entry) (info_at v i))) (text (i + 1)) (text i)
    (text_of (entry_lines v)) c.loop-index.invariant.text
    (entries_step v i c.in-Some.entry (sym c.entry.ensures.exact ∙ c.in-Some.is))
    (rw (c.from.ensures, c.from-in-loop-index.ensures) at c.in_err-reads.ensures.lines))

pub loop-index-preserved : goal.loop-index-preserved
loop-index-preserved g c =
    let v = view c.args.context.now in
    let i = c.loop-index.index in
    let text : ℕ → List ℕ = λ i. text_of (entry_lines_from v i (drop i (entries_of v))) in
    record {
      reads =
          read_next (view c.args.context.now) c.loop-index.all c.loop-index.index _ c.both-all.result
          (sym c.entry.ensures.exact ∙ c.in-Some.is) (search rules) c.loop-index.invariant.reads;
      text =
          leads_on (g.W.Write.contents c.args.out.now) (g.W.Write.contents c.loop-index.out)
          (g.W.Write.contents c.write_entry.new.out)
          (text_of (info_lines v (v.tables.base.0 + c.in-Some.entry) (info_at v i))) (text (i + 1)) (text i)
          (text_of (entry_lines v)) c.loop-index.invariant.text
          (entries_step v i c.in-Some.entry (sym c.entry.ensures.exact ∙ c.in-Some.is))
          (rw (c.from.ensures, c.from-in-loop-index.ensures) at c.in_ok-reads.ensures.lines);
    }

pub returns-clause-reads : goal.returns-clause-reads
returns-clause-reads g c =
    read_ended (view c.args.context.now) c.loop-index.all c.loop-index.index (omega arith) c.loop-index.invariant.reads

pub returns-clause-lines : goal.returns-clause-lines
returns-clause-lines g c =
    let v = view c.args.context.now in
    leads_end (g.W.Write.contents c.args.out.now) (g.W.Write.contents c.loop-index.out)
    (text_of (entry_lines_from v c.loop-index.index (drop c.loop-index.index (entries_of v)))) (text_of (entry_lines v))
    c.loop-index.invariant.text (entries_end v c.loop-index.index (omega arith))
