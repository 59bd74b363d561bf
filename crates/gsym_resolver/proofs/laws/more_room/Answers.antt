-- More room: the law of a lookup.
-- Assumes nothing.
use Rattle.gsym_resolver.proofs.Rooms.{lookup_more}
use Rattle.gsym_resolver.proofs.laws.more_room.Goals as goal

pub returns : goal.returns
returns c = lookup_more
