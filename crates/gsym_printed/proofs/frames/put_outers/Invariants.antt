-- `gsym_printed::frames::put_outers`: what is written of the calls that are left comes to what is written of all.
-- Assumes nothing.
use Rattle.std.proofs.Common.{◌≡◌}
use Rattle.std.specs.List.{flat_map}
use Rattle.gsym.specs.CallOrder.{calls_left}
use Rattle.gsym_printed.specs.Page.{put}
use Rattle.gsym_printed.specs.Printed.{outer_text}
use Rattle.gsym_printed.proofs.frames.put_outers.Given as goal

abbrev pub invariant-loop-call : goal.invariant-loop-call
invariant-loop-call l =
    put (l.room, l.at) (flat_map (outer_text l.view l.file) (calls_left l.call-iterator))
    ≡ put (l.fn.room, l.fn.at) (flat_map (outer_text l.view l.file) (calls_left l.calls))
