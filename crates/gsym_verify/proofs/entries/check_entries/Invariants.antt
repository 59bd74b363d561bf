use Rattle.std.proofs.Common.{◌≡◌, ◌+◌, drop}
use Rattle.std.specs.Option.{option_map}
use Rattle.gsym_parser.specs.View.{view}
use Rattle.gsym_parser.specs.Search.{entries_of}
use Rattle.gsym_verify.specs.Content.{content_of, contents_from}
use Rattle.gsym_verify.specs.Check.{content_checked, entries_checked}
use Rattle.gsym_verify.proofs.entries.check_entries.Given as goal

-- the entries come to what those from the index on come to
abbrev pub invariant-loop-index : goal.invariant-loop-index
invariant-loop-index g l =
    content_checked (content_of (view l.context))
    ≡ entries_checked (content_of (view l.context)).strings
    (option_map (λ b. l.context.tables.base.0 + b) l.before) l.index
    (contents_from (view l.context) l.index (drop l.index (entries_of (view l.context))))
