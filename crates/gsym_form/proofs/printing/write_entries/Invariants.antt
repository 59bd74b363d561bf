-- What was read so far, and what is left, come to the whole; and whoever writes the lines that are left has written
-- all.
use Rattle.std.proofs.Common.{◌≡◌, ◌&&◌, drop}
use Rattle.gsym_output.specs.Lines.{text_of}
use Rattle.gsym_output.proofs.Fronts.{Leads}
use Rattle.gsym_parser.specs.View.{view}
use Rattle.gsym_parser.specs.Search.{entries_of}
use Rattle.gsym_form.specs.Printed.{all_read, all_read_from, entry_lines, entry_lines_from}
use Rattle.gsym_form.proofs.printing.write_entries.Given as goal

abbrev pub invariant-loop-index : goal.invariant-loop-index
invariant-loop-index g l =
    record {
      reads :
          l.all && all_read_from (view l.context) l.index (drop l.index (entries_of (view l.context)))
          ≡ all_read (view l.context);
      text :
          Leads (g.W.Write.contents l.fn.out) (g.W.Write.contents l.out)
          (text_of (entry_lines_from (view l.context) l.index (drop l.index (entries_of (view l.context)))))
          (text_of (entry_lines (view l.context)));
    }
