-- What the callers make of an answer.
-- Assumes nothing.
use Rattle.std.specs.Prelude.{◌-◌, max, fold, map, length, slice_get, option_map, unwrap_or, List, ℕ, Ok, Err, Result}
use Rattle.gsym_types.specs.declared.Frame.{Frame}
use Rattle.gsym_types.specs.declared.InlineFrame.{InlineFrame}
use Rattle.gsym_types.specs.declared.LineNumber.{LineNumber}
use Rattle.gsym_types.specs.declared.Refusal.{Refusal}
use Rattle.gsym_types.specs.declared.Text.{Text}
use Rattle.gsym_types.specs.Refusal.{number_of}
use Rattle.gsym_resolver.specs.Lookup.{LookedUp}

-- the highest line of records, 0 where there are none
abbrev pub highest_of : List Frame → LineNumber
highest_of records = record { 0 = fold max 0 (map (λ f. f.position.line.0) records) }

-- the highest call line of frames, 0 where there are none
abbrev pub highest_call_line_of : List InlineFrame → LineNumber
highest_call_line_of frames = record { 0 = fold max 0 (map (λ f. f.call_line.0) frames) }

-- 0 where there is an answer, and else the number of the refusal
abbrev pub status_of : Result LookedUp Refusal → ℕ
status_of (Ok l) = 0
status_of (Err r) = number_of r

-- the name of the last record, or the symbol's
abbrev pub innermost_name : LookedUp → Text
innermost_name l = unwrap_or (option_map (λ f. f.name) (slice_get l.frames (length l.frames - 1))) l.answer.name
