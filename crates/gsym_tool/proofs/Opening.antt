-- A file opens that no lookup refuses with 2, 3 or 4.
-- Assumes nothing.
use Rattle.std.proofs.Common.{Ok, Err, Result, ℕ, List, ◌≡◌, refl}
use Rattle.std.specs.Prelude.{IsOk}
use Rattle.gsym_types.specs.declared.Refusal.{Refusal}
use Rattle.gsym_types.specs.declared.Refusal.TheVariants.{TooFewBytes}
use Rattle.gsym_parser.specs.View.{View}
use Rattle.gsym_parser.specs.Header.{opened_of}
use Rattle.gsym_parser.specs.Unopened.{
  Unopened,
  no_magic,
  other_magic,
  no_version,
  other_version,
  no_header,
  no_offsets,
  no_files,
  no_strings,
}
use Rattle.gsym_parser.proofs.Unopened.{opened_refused}
use Rattle.gsym_resolver.specs.Met.{not_opened}
use Rattle.gsym_tool.specs.Files.{Refuses, HasStart}

pub opens : (file : List ℕ) → HasStart file → (Refuses file TooFewBytes → ⊥) → IsOk (opened_of file)
opens file start whole = go (opened_of file) refl
  where
    by : (r : Refusal) → Unopened file r → ⊥
    by r (no_magic l) = whole (not_opened (no_magic l))
    by r (other_magic m a b) = start.magic (not_opened (other_magic m a b))
    by r (no_version a l) = whole (not_opened (no_version a l))
    by r (other_version n a b d) = start.version (not_opened (other_version n a b d))
    by r (no_header a b l) = whole (not_opened (no_header a b l))
    by r (no_offsets h l) = whole (not_opened (no_offsets h l))
    by r (no_files n h e l) = whole (not_opened (no_files n h e l))
    by r (no_strings n h e k l) = whole (not_opened (no_strings n h e k l))

    go : (x : Result View Refusal) → opened_of file ≡ x → IsOk x
    go (Ok v) e = refl
    go (Err r) e = absurd (by r ((opened_refused file r).0 e))
