-- `gsym_layout::width_is_least`: the laws of the size that is chosen, and that offsets are below 2^64.
-- Assumes nothing.
use Rattle.gsym_layout.specs.Layout.{offsets_of, size_of}
use Rattle.gsym_layout.proofs.Widths.{least_known, least_least}
use Rattle.gsym_layout.proofs.Fits.{has_room}
use Rattle.gsym_layout.proofs.width_is_least.Goals as goal

pub returns-clause-known : goal.returns-clause-known
unfolding size_of
returns-clause-known c = λ g. least_known (offsets_of g.entries)

pub returns-clause-has_room : goal.returns-clause-has_room
returns-clause-has_room c = has_room

pub returns-clause-least : goal.returns-clause-least
unfolding size_of
returns-clause-least c = λ g. least_least (offsets_of g.entries)
