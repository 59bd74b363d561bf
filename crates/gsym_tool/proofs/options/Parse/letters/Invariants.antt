-- `gsym_tool::options::Parse::letters`: letters are taken.
use Rattle.std.proofs.Common.{length}
use Rattle.gsym_tool.proofs.options.Parse.letters.Given as goal

abbrev pub decreases-loop-letter : goal.decreases-loop-letter
decreases-loop-letter l = length l.rest
