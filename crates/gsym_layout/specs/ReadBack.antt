-- What a written file says (RULES, "Writing a file"): what was given.
-- Assumes nothing.
use Rattle.std.specs.Prelude.{◌≡◌, ℕ, true, false, Bool, List, Ok, Result, Option, Some, option_and_then, slice_get}
use Rattle.std.specs.List.{All}
use Rattle.std.specs.Result.{result_map_both}
use Rattle.gsym_reads.specs.Steps.{◌>>=◌, given}
use Rattle.gsym_types.specs.declared.Address.{Address}
use Rattle.gsym_types.specs.declared.Options.{Options}
use Rattle.gsym_types.specs.declared.Refusal.{Refusal}
use Rattle.gsym_types.specs.declared.Refusal.TheVariants as refused
use Rattle.gsym_parser.specs.Header.{opened_of}
use Rattle.gsym_parser.specs.Search.{land_of}
use Rattle.gsym_resolver.specs.SharedTables.{shared_tables}
use Rattle.gsym_resolver.specs.EntryAnswer.{entry_answer, entry_alone, entry_with_code}
use Rattle.gsym_resolver.specs.Lookup.{lookup_of}
use Rattle.gsym_resolver.specs.WithPlaces.{AnswerTexts, with_texts, answer_texts}
use Rattle.gsym_verify.specs.Content.{content_of}
use Rattle.gsym_verify.specs.Good.{GoodItem}
use Rattle.gsym_layout.specs.Given.{GivenEntry, Given, addresses, said_by, content_said}
use Rattle.gsym_layout.specs.Layout.{opened_layout}

-- the file opens, with the tables where the layout has them, and says what was given
pub record SaysGiven (g : Given) (file : List ℕ) : Type 0 where
  pub opens : opened_of file ≡ Ok (opened_layout g)
  pub content : content_of (opened_layout g) ≡ content_said g
  pub tables : shared_tables (opened_layout g) ≡ g.tables

-- ---- lookups

-- the entry on which an address lands
abbrev pub landed : Given → Address → Option GivenEntry
landed g addr = option_and_then (λ i. slice_get g.entries i) (land_of (addresses g.entries) addr.0)

-- the answer as what is given has it, with each text as its bytes
unfoldable pub given_answer : Given → Address → Options → (room : ℕ) → Result AnswerTexts Refusal
given_answer g addr o room = do
  e ← given refused.UnknownAddress (landed g addr)
  a ← entry_answer g.tables e.addr (said_by e) addr o room
  Ok (answer_texts g.tables a)

-- the answer of a lookup in a file, with each text as its bytes
abbrev pub texts_answered : List ℕ → Address → Options → (room : ℕ) → Result AnswerTexts Refusal
texts_answered file addr o room = result_map_both (with_texts file) (λ r. r) (lookup_of file addr o room)

abbrev pub AnswersGiven : Given → List ℕ → Type 0
AnswersGiven g file =
    (addr : Address) (o : Options) (room : ℕ) → texts_answered file addr o room ≡ given_answer g addr o room

-- at an entry's own address: without code info its address, size and name, and with it what its items say
pub record FoundAtOwn (g : Given) (file : List ℕ) : Type 0 where
  pub alone : (i : ℕ) (e : GivenEntry) → slice_get g.entries i ≡ Some e → (inlining : Bool) (room : ℕ) →
      texts_answered file e.addr (record { code_info = false; inlining = inlining }) room
      ≡ Ok (answer_texts g.tables (entry_alone e.addr (said_by e)))
  pub with_code : (i : ℕ) (e : GivenEntry) → slice_get g.entries i ≡ Some e → (inlining : Bool) (room : ℕ) →
      texts_answered file e.addr (record { code_info = true; inlining = inlining }) room
      ≡ result_map_both (answer_texts g.tables) (λ r. r)
      (entry_with_code g.tables e.addr (said_by e) e.addr (record { code_info = true; inlining = inlining }) room)

-- ---- the check

-- each line table and each inline tree reads in full
abbrev pub ItemsInFull : Given → Type 0
ItemsInFull g = All (λ (e : GivenEntry). All (GoodItem e.addr) e.items) g.entries
