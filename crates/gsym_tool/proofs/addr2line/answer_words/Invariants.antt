-- The answers so far, and whether each is known.
use Rattle.std.proofs.Common.{◌≡◌, take}
use Rattle.std.specs.List.{flat_map, list_all}
use Rattle.std.specs.Io.KnownBytes.{Appends}
use Rattle.gsym_printed.specs.Answers.{answer_text}
use Rattle.gsym_tool.specs.Known.{is_known_word}
use Rattle.gsym_tool.proofs.addr2line.answer_words.Given as goal

abbrev pub invariant-loop-word : goal.invariant-loop-word
invariant-loop-word g l =
    Appends (g.W.Write.contents l.fn.out) (g.W.Write.contents l.out)
    (flat_map (λ w. answer_text l.view l.file w.items) (take l.word-index l.words))
    × (l.all ≡ list_all (λ w. is_known_word l.view l.file w.items) (take l.word-index l.words))
