-- Which fault is the first in reading order (RULES, "Refusal numbers" and "Inline tree"): what refuses a step, and with
-- what, and which of a block's steps (specs/Steps.antt) is the first that is refused.
-- Assumes nothing.
use Rattle.std.specs.Prelude.{ℕ, ◌<◌, List, [], ◌∷◌, ◌++◌, ◌≡◌, length}
use Rattle.gsym_types.specs.declared.InlineFrame.{InlineFrame}
use Rattle.gsym_inline.specs.Frames.{named}
use Rattle.gsym_types.specs.declared.Refusal.{Refusal}
use Rattle.gsym_types.specs.declared.Refusal.TheVariants.{
  UnreadInline,
  InlineSumTooLarge,
  CallFileTooLarge,
  TooDeep,
  TooManyFrames,
  TooWide,
}
use Rattle.gsym_leb128.specs.declared.Cause.TheVariants.{Short, Wide}
use Rattle.gsym_inline.specs.Limits.{most_address, most_file, deepest_level}
use Rattle.gsym_inline.specs.Steps.{Step, read, unread, stands, starts, ends, calls, opens}

-- the frames among steps: open nodes with a name other than 0
unfoldable pub frames_among : List Step → List InlineFrame
frames_among [] = []
frames_among (read i v ∷ more) = frames_among more
frames_among (unread i k ∷ more) = frames_among more
frames_among (stands n ∷ more) = frames_among more
frames_among (starts v ∷ more) = frames_among more
frames_among (ends v ∷ more) = frames_among more
frames_among (calls v ∷ more) = frames_among more
frames_among (opens self ∷ more) = named self ++ frames_among more

-- a step that comes after these frames is refused with this
--   UnreadInline       10   inline bytes are short
--   InlineSumTooLarge  11   a start or an end is above 2^64-1
--   CallFileTooLarge   12   a call file is above 4,294,967,295
--   TooDeep            13   a node stands on level 65
--   TooManyFrames      14   there are more frames than room
--   TooWide            15   a number is too wide
unfoldable pub Refuses : (room : ℕ) → (so_far : List InlineFrame) → Step → Refusal → Type 0
Refuses room so_far (read i v) r = ⊥
Refuses room so_far (unread i Short) r = r ≡ UnreadInline
Refuses room so_far (unread i Wide) r = r ≡ TooWide
Refuses room so_far (starts v) r = (r ≡ InlineSumTooLarge) × (most_address < v)
Refuses room so_far (ends v) r = (r ≡ InlineSumTooLarge) × (most_address < v)
Refuses room so_far (calls v) r = (r ≡ CallFileTooLarge) × (most_file < v)
Refuses room so_far (stands n) r = (r ≡ TooDeep) × (deepest_level < n)
Refuses room so_far (opens self) r = (r ≡ TooManyFrames) × (room < length (so_far ++ named self))

-- no step is refused
abbrev pub NoFault : ℕ → List Step → Type 0
NoFault room steps =
    (before : List Step) (x : Step) (after : List Step) (r : Refusal) → steps ≡ before ++ (x ∷ after) →
    Refuses room (frames_among before) x r → ⊥

-- a step is refused with this, and none before it is
pub record FirstFault (room : ℕ) (steps : List Step) (r : Refusal) : Type 0 where
  pub before : List Step
  pub step : Step
  pub after : List Step
  pub split : steps ≡ before ++ (step ∷ after)
  pub fault : Refuses room (frames_among before) step r
  pub first : NoFault room before
