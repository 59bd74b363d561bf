-- What a trouble comes from.
-- Assumes nothing.
use Rattle.std.specs.Prelude.{◌≡◌, ℕ, List, None}
use Rattle.gsym_printed.specs.Words.{address_of}
use Rattle.gsym_tool.specs.declared.trouble.Trouble.{Trouble}
use Rattle.gsym_tool.specs.declared.trouble.Trouble.TheVariants as trouble

-- memory, or standard input, which can't be read
abbrev pub IsOfInput : Trouble → Type 0
IsOfInput trouble.Memory = Unit {0}
IsOfInput (trouble.Read e) = Unit {0}
IsOfInput t = ⊥

-- memory, or standard output, which can't be written
abbrev pub IsOfOutput : Trouble → Type 0
IsOfOutput trouble.Memory = Unit {0}
IsOfOutput (trouble.Write e) = Unit {0}
IsOfOutput t = ⊥

-- memory, or one of the two
abbrev pub IsOfStreams : Trouble → Type 0
IsOfStreams trouble.Memory = Unit {0}
IsOfStreams (trouble.Read e) = Unit {0}
IsOfStreams (trouble.Write e) = Unit {0}
IsOfStreams t = ⊥

-- memory, or the file of this name
abbrev pub IsOfFile : List ℕ → Trouble → Type 0
IsOfFile name trouble.Memory = Unit {0}
IsOfFile name (trouble.Unread n e) = n.items ≡ name
IsOfFile name (trouble.File n why) = n.items ≡ name
IsOfFile name (trouble.Refused n r) = n.items ≡ name
IsOfFile name t = ⊥

-- memory, or the file of this name, which can't be written
abbrev pub IsOfNew : List ℕ → Trouble → Type 0
IsOfNew name trouble.Memory = Unit {0}
IsOfNew name (trouble.File n why) = n.items ≡ name
IsOfNew name (trouble.Unwritten n e) = n.items ≡ name
IsOfNew name t = ⊥

-- memory, or a word that is no address
abbrev pub IsOfWords : Trouble → Type 0
IsOfWords trouble.Memory = Unit {0}
IsOfWords (trouble.NoAddress word) = address_of word.items ≡ None
IsOfWords t = ⊥
