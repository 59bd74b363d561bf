-- Whoever appends the answers to the words that are left has appended those to all; whether each is known so far.
use Rattle.std.proofs.Common.{◌≡◌, ◌&&◌, Option, List, ℕ, length}
use Rattle.std.specs.Io.KnownBytes.{Appends}
use Rattle.gsym_printed.specs.Answers.{answers_text}
use Rattle.gsym_tool.specs.Known.{all_known}
use Rattle.gsym_tool.proofs.addr2line.answer_line.Given as goal

abbrev pub invariant-loop-word : goal.invariant-loop-word
invariant-loop-word g l =
    ((c : Option (List ℕ)) → Appends (g.W.Write.contents l.out) c (answers_text l.view l.file l.rest)
    → Appends (g.W.Write.contents l.fn.out) c (answers_text l.view l.file l.line))
    × (all_known l.view l.file l.line ≡ (l.all && all_known l.view l.file l.rest))

abbrev pub decreases-loop-word : goal.decreases-loop-word
decreases-loop-word g l = length l.rest
