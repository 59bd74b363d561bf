-- `gsym_printed::page::put_bytes`: what is written of the rest comes to what is written of all.
-- Assumes nothing.
use Rattle.std.proofs.Common.{◌≡◌, drop}
use Rattle.gsym_printed.specs.Page.{put}
use Rattle.gsym_printed.proofs.page.put_bytes.Given as goal

abbrev pub invariant-loop-byte : goal.invariant-loop-byte
invariant-loop-byte l = put (l.room, l.at) (drop l.byte-index l.bytes) ≡ put (l.fn.room, l.fn.at) l.bytes
