-- `gsym_form::printing::write_dump`: part by part.
-- Assumes nothing.
use Rattle.std.proofs.Common.{◌++◌, codes, map, sym, subst}
use Rattle.std.specs.Io.KnownBytes.{Appends}
use Rattle.gsym_output.specs.Lines.{text_of}
use Rattle.gsym_output.specs.Writing.{AppendsFront}
use Rattle.gsym_parser.specs.View.{view}
use Rattle.gsym_resolver.specs.SharedTables.{shared_tables}
use Rattle.gsym_form.specs.Printed.{table_lines, file_line, entry_lines, dump_of}
use Rattle.gsym_form.proofs.DumpLines.{strings_part, dump_text}
use Rattle.std.proofs.KnownBytes.{Appends-trans}
use Rattle.gsym_output.proofs.Fronts.{front_of, front_then, writes_err}
use Rattle.gsym_form.proofs.printing.write_dump.Goals as goal

pub returns-in_err-write_text-clause-text : goal.returns-in_err-write_text-clause-text
returns-in_err-write_text-clause-text g c =
    let v = view c.args.context.now in
    let a = g.W.Write.contents c.args.out.now in
    let b = g.W.Write.contents c.write_text.new.out in
    let first = codes "gsym 1\n" in
    let strings = text_of (table_lines (shared_tables v).strings) in
    let files = text_of (map (file_line v) (shared_tables v).files) in
    let entries = text_of (entry_lines v) in
    let last = codes "end\n" in
    writes_err a b c.from_residual.result (dump_of v) c.from_residual.ensures.0
    (subst (AppendsFront a b) (sym (dump_text v))
    (front_of a b (((first ++ strings) ++ files) ++ entries) last
    (front_of a b ((first ++ strings) ++ files) entries
    (front_of a b (first ++ strings) files (front_of a b first strings c.in_err-write_text.ensures)))))

pub returns-in_err-write_table-clause-text : goal.returns-in_err-write_table-clause-text
returns-in_err-write_table-clause-text g c =
    let v = view c.args.context.now in
    let a = g.W.Write.contents c.args.out.now in
    let b = g.W.Write.contents c.write_text.new.out in
    let d = g.W.Write.contents c.write_table.new.out in
    let first = codes "gsym 1\n" in
    let strings = text_of (table_lines (shared_tables v).strings) in
    let files = text_of (map (file_line v) (shared_tables v).files) in
    let entries = text_of (entry_lines v) in
    let last = codes "end\n" in
    writes_err a d c.from_residual-in_err-write_table.result (dump_of v) c.from_residual-in_err-write_table.ensures.0
    (subst (AppendsFront a d) (sym (dump_text v))
    (front_of a d (((first ++ strings) ++ files) ++ entries) last
    (front_of a d ((first ++ strings) ++ files) entries
    (front_of a d (first ++ strings) files
    (front_then a b d first strings c.in_ok-write_text.ensures
    (rw (c.text.ensures.exact, strings_part v c.args.context.now.within) at c.in_err-write_table.ensures))))))

pub returns-in_err-write_files-clause-text : goal.returns-in_err-write_files-clause-text
returns-in_err-write_files-clause-text g c =
    let v = view c.args.context.now in
    let a = g.W.Write.contents c.args.out.now in
    let b = g.W.Write.contents c.write_text.new.out in
    let d = g.W.Write.contents c.write_table.new.out in
    let e = g.W.Write.contents c.write_files.new.out in
    let first = codes "gsym 1\n" in
    let strings = text_of (table_lines (shared_tables v).strings) in
    let files = text_of (map (file_line v) (shared_tables v).files) in
    let entries = text_of (entry_lines v) in
    let last = codes "end\n" in
    writes_err a e c.from_residual-in_err-write_files.result (dump_of v) c.from_residual-in_err-write_files.ensures.0
    (subst (AppendsFront a e) (sym (dump_text v))
    (front_of a e (((first ++ strings) ++ files) ++ entries) last
    (front_of a e ((first ++ strings) ++ files) entries
    (front_then a d e (first ++ strings) files
    (Appends-trans a b d first strings c.in_ok-write_text.ensures
    (rw (c.text.ensures.exact, strings_part v c.args.context.now.within) at c.in_ok-write_table.ensures))
    c.in_err-write_files.ensures))))

pub returns-in_err-reads-clause-text : goal.returns-in_err-reads-clause-text
returns-in_err-reads-clause-text g c =
    let v = view c.args.context.now in
    let a = g.W.Write.contents c.args.out.now in
    let b = g.W.Write.contents c.write_text.new.out in
    let d = g.W.Write.contents c.write_table.new.out in
    let e = g.W.Write.contents c.write_files.new.out in
    let h = g.W.Write.contents c.write_entries.new.out in
    let first = codes "gsym 1\n" in
    let strings = text_of (table_lines (shared_tables v).strings) in
    let files = text_of (map (file_line v) (shared_tables v).files) in
    let entries = text_of (entry_lines v) in
    let last = codes "end\n" in
    writes_err a h c.from_residual-in_err-reads.result (dump_of v) c.from_residual-in_err-reads.ensures.0
    (subst (AppendsFront a h) (sym (dump_text v))
    (front_of a h (((first ++ strings) ++ files) ++ entries) last
    (front_then a e h ((first ++ strings) ++ files) entries
    (Appends-trans a d e (first ++ strings) files
    (Appends-trans a b d first strings c.in_ok-write_text.ensures
    (rw (c.text.ensures.exact, strings_part v c.args.context.now.within) at c.in_ok-write_table.ensures))
    c.in_ok-write_files.ensures) c.in_err-reads.ensures.lines)))

pub returns-in_err-write_text-2-clause-text : goal.returns-in_err-write_text-2-clause-text
returns-in_err-write_text-2-clause-text g c =
    let v = view c.args.context.now in
    let a = g.W.Write.contents c.args.out.now in
    let b = g.W.Write.contents c.write_text.new.out in
    let d = g.W.Write.contents c.write_table.new.out in
    let e = g.W.Write.contents c.write_files.new.out in
    let h = g.W.Write.contents c.write_entries.new.out in
    let j = g.W.Write.contents c.write_text-2.new.out in
    let first = codes "gsym 1\n" in
    let strings = text_of (table_lines (shared_tables v).strings) in
    let files = text_of (map (file_line v) (shared_tables v).files) in
    let entries = text_of (entry_lines v) in
    let last = codes "end\n" in
    writes_err a j c.from_residual-in_err-write_text-2.result (dump_of v)
    c.from_residual-in_err-write_text-2.ensures.0
    (subst (AppendsFront a j) (sym (dump_text v))
    (front_then a h j (((first ++ strings) ++ files) ++ entries) last
    (Appends-trans a e h ((first ++ strings) ++ files) entries
    (Appends-trans a d e (first ++ strings) files
    (Appends-trans a b d first strings c.in_ok-write_text.ensures
    (rw (c.text.ensures.exact, strings_part v c.args.context.now.within) at c.in_ok-write_table.ensures))
    c.in_ok-write_files.ensures) c.in_ok-reads.ensures.lines) c.in_err-write_text-2.ensures))

pub returns-clause-text : goal.returns-clause-text
returns-clause-text g c =
    let v = view c.args.context.now in
    let a = g.W.Write.contents c.args.out.now in
    let b = g.W.Write.contents c.write_text.new.out in
    let d = g.W.Write.contents c.write_table.new.out in
    let e = g.W.Write.contents c.write_files.new.out in
    let h = g.W.Write.contents c.write_entries.new.out in
    let j = g.W.Write.contents c.write_text-2.new.out in
    let first = codes "gsym 1\n" in
    let strings = text_of (table_lines (shared_tables v).strings) in
    let files = text_of (map (file_line v) (shared_tables v).files) in
    let entries = text_of (entry_lines v) in
    let last = codes "end\n" in
    subst (Appends a j) (sym (dump_text v))
    (Appends-trans a h j (((first ++ strings) ++ files) ++ entries) last
    (Appends-trans a e h ((first ++ strings) ++ files) entries
    (Appends-trans a d e (first ++ strings) files
    (Appends-trans a b d first strings c.in_ok-write_text.ensures
    (rw (c.text.ensures.exact, strings_part v c.args.context.now.within) at c.in_ok-write_table.ensures))
    c.in_ok-write_files.ensures) c.in_ok-reads.ensures.lines) c.in_ok-write_text-2.ensures)
