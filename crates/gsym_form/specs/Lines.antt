-- What is told of a text that is none (RULES, "A file as text").
-- Assumes nothing.
use Rattle.std.specs.Prelude.{◌≤◌}
use Rattle.gsym_form.specs.declared.wrong.Unread.{Unread}
use Rattle.gsym_form.specs.declared.wrong.Unread.TheVariants.{Memory, Line}

-- a line is counted from 1
abbrev pub IsCounted : Unread → Type 0
IsCounted Memory = Unit {0}
IsCounted (Line n w) = 1 ≤ n
