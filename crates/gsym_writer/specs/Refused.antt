-- When a file is not written (RULES, "Writing a file"): which refusal is the first, said of what is given and not of
-- how it is judged.
-- Assumes nothing.
use Rattle.std.specs.Prelude.{◌≡◌, ℕ, ◌<◌, ◌≤◌, suc, List, Some, length, take, slice_get, slice_index}
use Rattle.std.specs.List.{All}
use Rattle.std.specs.List.Sorted.{IsStrictlyIncreasing}
use Rattle.gsym_layout.specs.Given.{GivenEntry, Given, addresses}
use Rattle.gsym_layout.specs.Layout.{layout_of}
use Rattle.gsym_layout.specs.Writable.{AllItems, Rises, SumFits, NameReads, FileReads, IsNoEnd, Of32, Writable}
use Rattle.gsym_writer.specs.Ends.{told_len}
use Rattle.gsym_writer.specs.declared.error.WriteError.{WriteError}
use Rattle.gsym_writer.specs.declared.error.WriteError.TheVariants.{
  NotRising,
  SumTooLarge,
  UnreadName,
  UnreadFile,
  EndItem,
  TooLarge,
  TooLittleRoom,
}

-- the lowest of which something doesn't hold
pub record Lowest {A : Type 0} (P : A → Type 0) (xs : List A) (i : ℕ) : Type 0 where
  pub this : A
  pub there : slice_get xs i ≡ Some this
  pub each_before : All P (take i xs)
  pub fails : P this → ⊥

-- the lowest entry that isn't above the one before it
pub record LowestNotAbove (es : List GivenEntry) (i : ℕ) : Type 0 where
  pub before : ℕ
  pub next : i ≡ suc before
  pub inside : i < length es
  pub rises_before : IsStrictlyIncreasing (take i (addresses es))
  pub not_above : slice_index (addresses es) i ≤ slice_index (addresses es) before

-- the first refusal: what is judged before it holds
pub data IsFirstRefusal (g : Given) (room : ℕ) : WriteError → Type 0 where
  not_rising : (i : ℕ) → LowestNotAbove g.entries i → IsFirstRefusal g room (NotRising i)
  sum_too_large : (i : ℕ) → Rises g → Lowest SumFits g.entries i → IsFirstRefusal g room (SumTooLarge i)
  unread_name : (i : ℕ) → Rises g → All SumFits g.entries → Lowest (NameReads g.tables) g.entries i →
      IsFirstRefusal g room (UnreadName i)
  unread_file : (i : ℕ) → Rises g → All SumFits g.entries → All (NameReads g.tables) g.entries →
      Lowest (FileReads g.tables) g.tables.files i → IsFirstRefusal g room (UnreadFile i)
  end_item : (i : ℕ) → Rises g → All SumFits g.entries → All (NameReads g.tables) g.entries →
      All (FileReads g.tables) g.tables.files → Lowest (λ (e : GivenEntry). All IsNoEnd e.items) g.entries i →
      IsFirstRefusal g room (EndItem i)
  too_large : Rises g → All SumFits g.entries → All (NameReads g.tables) g.entries →
      All (FileReads g.tables) g.tables.files → AllItems IsNoEnd g.entries → (Of32 g → ⊥) →
      IsFirstRefusal g room TooLarge
  too_little_room : Writable g → room < length (layout_of g) →
      IsFirstRefusal g room (TooLittleRoom (told_len (length (layout_of g))))

-- nothing refuses
pub record IsSound (g : Given) (room : ℕ) : Type 0 where
  pub writable : Writable g
  pub fits : length (layout_of g) ≤ room
