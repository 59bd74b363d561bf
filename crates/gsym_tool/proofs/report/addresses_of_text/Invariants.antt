-- The addresses so far and those of the rest are those of all words.
use Rattle.std.proofs.Common.{length}
use Rattle.gsym_printed.specs.Words.{words}
use Rattle.gsym_tool.proofs.Addressing.{AddressesTo}
use Rattle.gsym_tool.proofs.report.addresses_of_text.Given as goal

abbrev pub invariant-loop-word : goal.invariant-loop-word
invariant-loop-word l = AddressesTo (words l.text) (words l.rest) l.addresses.items

abbrev pub decreases-loop-word : goal.decreases-loop-word
decreases-loop-word l = length l.rest
