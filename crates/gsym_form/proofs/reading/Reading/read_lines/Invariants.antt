use Rattle.std.proofs.Common.{◌≡◌, ◌+◌, drop, length}
use Rattle.std.specs.List.{slice_split}
use Rattle.gsym_form.specs.Kept.{reading_said, IsWhole}
use Rattle.gsym_form.specs.Said.{lines_said, is_newline}
use Rattle.gsym_form.proofs.reading.Reading.read_lines.Given as goal

-- what the lines that are left say is what all say
abbrev pub invariant-loop-index : goal.invariant-loop-index
invariant-loop-index l =
    let lines = slice_split is_newline l.text in
    record {
      said : lines_said (length l.yielded + 1) (reading_said l.self) (drop (length l.yielded) lines)
          ≡ lines_said 1 (reading_said l.fn.self) lines;
      whole : IsWhole l.self;
    }
