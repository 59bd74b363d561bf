-- Whoever writes the lines of the items that are left, and that of the list's end, has written all; and the list ends
-- as it did.
use Rattle.std.proofs.Common.{◌≡◌, ◌++◌, map}
use Rattle.gsym_output.specs.Lines.{text_of}
use Rattle.gsym_output.proofs.Fronts.{Leads}
use Rattle.gsym_parser.specs.Items.{items_left, closed_of}
use Rattle.gsym_form.specs.Printed.{item_line, item_lines, open_line}
use Rattle.gsym_form.proofs.printing.write_items.Given as goal

abbrev pub invariant-items : goal.invariant-items
invariant-items g l =
    record {
      text :
          Leads (g.W.Write.contents l.fn.out) (g.W.Write.contents l.out)
          (text_of (map item_line (items_left l.items) ++ open_line l.bytes)) (text_of (item_lines l.bytes));
      closed : closed_of l.items.rest.now ≡ closed_of l.bytes;
    }
