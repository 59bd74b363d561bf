use Rattle.std.proofs.Common.{◌≡◌, length, drop}
use Rattle.gsym_parser.specs.View.{view}
use Rattle.gsym_resolver.specs.Lookup.{later_frames}
use Rattle.gsym_resolver.proofs.LaterFrames.{later_from}
use Rattle.gsym_resolver.proofs.later_frames.push_later.Given as goal

-- the records from here on are those of all later frames
abbrev pub invariant-loop-frame : goal.invariant-loop-frame
invariant-loop-frame g l = record {
  count : length l.records.items ≡ l.frame-index;
  records :
      later_frames (view l.context) l.row l.later
      ≡ later_from (view l.context) l.row l.call.position l.records.items l.name (drop l.frame-index l.behind);
}
