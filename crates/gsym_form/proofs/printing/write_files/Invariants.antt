-- Whoever writes the lines of the files that are left has written all.
use Rattle.std.proofs.Common.{map, drop}
use Rattle.gsym_output.specs.Lines.{text_of}
use Rattle.gsym_output.proofs.Fronts.{Leads}
use Rattle.gsym_parser.specs.View.{view}
use Rattle.gsym_resolver.specs.SharedTables.{shared_tables}
use Rattle.gsym_form.specs.Printed.{file_line}
use Rattle.gsym_form.proofs.printing.write_files.Given as goal

abbrev pub invariant-loop-index : goal.invariant-loop-index
invariant-loop-index g l =
    Leads (g.W.Write.contents l.fn.out) (g.W.Write.contents l.out)
    (text_of (map (file_line (view l.context)) (drop l.index (shared_tables (view l.context)).files)))
    (text_of (map (file_line (view l.context)) (shared_tables (view l.context)).files))
