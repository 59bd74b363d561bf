use Rattle.std.proofs.Common.{◌≡◌, length}
use Rattle.gsym_parser.specs.Items.{items_of, closed_of}
use Rattle.gsym_verify.specs.Check.{list_checked}
use Rattle.gsym_verify.proofs.entries.check_list.Given as goal

-- the list comes to what is left of it comes to
abbrev pub invariant-items : goal.invariant-items
invariant-items l =
    list_checked l.symbol (items_of l.bytes) (closed_of l.bytes)
    ≡ list_checked l.symbol (items_of l.items.rest.now) (closed_of l.items.rest.now)

abbrev pub decreases-items : goal.decreases-items
decreases-items l = length (items_of l.items.rest.now)
