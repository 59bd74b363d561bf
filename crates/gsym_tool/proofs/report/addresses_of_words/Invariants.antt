-- The addresses so far and those of the words that are left are those of all.
use Rattle.std.proofs.Common.{drop, map}
use Rattle.gsym_tool.proofs.Addressing.{AddressesTo}
use Rattle.gsym_tool.proofs.report.addresses_of_words.Given as goal

abbrev pub invariant-loop-word : goal.invariant-loop-word
invariant-loop-word l =
    AddressesTo (map (λ w. w.items) l.words) (map (λ w. w.items) (drop l.word-index l.words)) l.addresses.items
