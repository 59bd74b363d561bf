-- What reading one block gives: its frames, or a refusal (RULES, "Inline tree" and "Refusal numbers").
-- Assumes nothing.
use Rattle.std.specs.Prelude.{Ok, Err, Result, ℕ, min, List, []}
use Rattle.gsym_reads.specs.Steps.{◌>>=◌, told}
use Rattle.gsym_types.specs.declared.InlineFrame.{InlineFrame}
use Rattle.gsym_types.specs.declared.Refusal.{Refusal}
use Rattle.gsym_types.specs.declared.Refusal.TheVariants as refused
use Rattle.gsym_inline.specs.Limits.{most_frames}
use Rattle.gsym_inline.specs.Walk.{walk_node}
use Rattle.gsym_leb128.specs.declared.Cause.TheVariants.{Short, Wide}
use Rattle.gsym_inline.specs.declared.head.Fault.{Fault}
use Rattle.gsym_inline.specs.declared.head.Fault.TheVariants as fault
use Rattle.gsym_inline.specs.Inherited.{Inherited}

abbrev pub Block : Type 0
Block = Result (List InlineFrame) Refusal

-- the refusal for each fault; of inline bytes that don't read one where they are short, and another where a number is
-- too wide
abbrev pub refusal_of : Fault → Refusal
refusal_of (fault.Unread Short) = refused.UnreadInline
refusal_of (fault.Unread Wide) = refused.TooWide
refusal_of fault.Sum = refused.InlineSumTooLarge
refusal_of fault.CallFile = refused.CallFileTooLarge
refusal_of fault.Level = refused.TooDeep
refusal_of fault.Room = refused.TooManyFrames

-- the root stands on level 1, and its offsets count from the symbol's address
abbrev pub root_context : (symbol addr room : ℕ) → Inherited
root_context symbol addr room = record { level = 1; addr = addr; base = symbol; room = room }

-- one block in one pass: its frames, or what comes first in reading order. A list's end instead of the root is an empty
-- tree; bytes after the root's end are ignored.
unfoldable pub block_of : (symbol addr room : ℕ) → List ℕ → Block
block_of symbol addr room bytes = do
  (after, fs) ← told refusal_of (walk_node bytes (root_context symbol addr room) 0 [])
  Ok fs

-- how many frames there may be where a list of so many places is lent
abbrev pub room_of : ℕ → ℕ
room_of lent = min most_frames lent

-- what `block_in` answers, with the frames in the list afterwards
abbrev pub listing : Result Unit Refusal → List InlineFrame → Block
listing (Ok _) fs = Ok fs
listing (Err r) fs = Err r
