-- What an entry says, as the answer that a caller gets: an offset becomes a place, counted from the file's start, and a
-- length. And the same with each text as its bytes.
-- Assumes nothing.
use Rattle.std.specs.Prelude.{ℕ, ◌+◌, List, [], map, length, take, drop, Some, None, Ok, Option, Result, option_map}
use Rattle.gsym_reads.specs.Steps.{◌>>=◌, given}
use Rattle.gsym_types.specs.declared.Address.{Address}
use Rattle.gsym_types.specs.declared.Frame.{Frame}
use Rattle.gsym_types.specs.declared.LineNumber.{LineNumber}
use Rattle.gsym_types.specs.declared.Options.{Options}
use Rattle.gsym_types.specs.declared.Position.{Position}
use Rattle.gsym_types.specs.declared.Refusal.{Refusal}
use Rattle.gsym_types.specs.declared.Refusal.TheVariants as refused
use Rattle.gsym_types.specs.declared.StrOffset.{StrOffset}
use Rattle.gsym_types.specs.declared.Text.{Text}
use Rattle.gsym_strtab.specs.Strings.{text_in, part_of}
use Rattle.gsym_parser.specs.Header.{opened_of}
use Rattle.gsym_parser.specs.Search.{find_of}
use Rattle.gsym_parser.specs.Entries.{symbol_at}
use Rattle.gsym_resolver.specs.EntryData.{data_at}
use Rattle.gsym_resolver.specs.SharedTables.{SharedTables, shared_tables}
use Rattle.gsym_resolver.specs.EntryAnswer.{PositionData, CallData, EntryAnswer, entry_answer}
use Rattle.gsym_resolver.specs.Lookup.{LookedUp}

-- a place and a length, zeros where there is none
abbrev pub text : ℕ → Option ℕ → Text
text place (Some n) = record { place = place; len = n }
text place None = record { place = 0; len = 0 }

-- the string at an offset of a table that stands at a place
unfoldable pub text_with_place : SharedTables → (place : ℕ) → StrOffset → Text
text_with_place t place offset = text (place + offset.0) (text_in t.strings offset.0)

abbrev pub position_with_places : SharedTables → ℕ → PositionData → Position
position_with_places t place p = record {
  dir = text_with_place t place p.row.directory;
  file = text_with_place t place p.row.filename;
  line = p.line;
}

abbrev pub call_with_places : SharedTables → ℕ → CallData → Frame
call_with_places t place c =
    record { name = text_with_place t place c.name; position = position_with_places t place c.position }

-- an answer, and a record for each later frame
unfoldable pub with_places : SharedTables → (place : ℕ) → EntryAnswer → LookedUp
with_places t place a = record {
  answer = record {
    addr = a.addr;
    name = text_with_place t place a.name;
    position = option_map (position_with_places t place) a.position;
    count = length a.calls;
    size = a.size;
  };
  frames = map (call_with_places t place) a.calls;
}

-- a whole lookup in values, and places last: the tables (2, 3, 4), the entry (1), its information (5), what it says
unfoldable pub lookup_in_values : List ℕ → Address → Options → (room : ℕ) → Result LookedUp Refusal
lookup_in_values file addr o room = do
  v ← opened_of file
  i ← given refused.UnknownAddress (find_of v addr)
  d ← given refused.UnreadInfo (data_at v i)
  a ← entry_answer (shared_tables v) (symbol_at v i) d addr o room
  Ok (with_places (shared_tables v) v.tables.strings.place a)

-- ---- the same with each text as its bytes

pub record PositionTexts : Type 0 where
  pub dir : List ℕ
  pub file : List ℕ
  pub line : LineNumber

pub record CallTexts : Type 0 where
  pub name : List ℕ
  pub position : PositionTexts

pub record AnswerTexts : Type 0 where
  pub addr : Address
  pub size : ℕ
  pub name : List ℕ
  pub position : Option PositionTexts
  pub calls : List CallTexts

-- what the string call hands back
abbrev pub bytes_of : List ℕ → Text → List ℕ
bytes_of file t = part_of file t.place t.len

abbrev pub position_with_texts : List ℕ → Position → PositionTexts
position_with_texts file p = record { dir = bytes_of file p.dir; file = bytes_of file p.file; line = p.line }

abbrev pub frame_with_texts : List ℕ → Frame → CallTexts
frame_with_texts file f = record { name = bytes_of file f.name; position = position_with_texts file f.position }

unfoldable pub with_texts : List ℕ → LookedUp → AnswerTexts
with_texts file l = record {
  addr = l.answer.addr;
  size = l.answer.size;
  name = bytes_of file l.answer.name;
  position = option_map (position_with_texts file) l.answer.position;
  calls = map (frame_with_texts file) l.frames;
}

-- the bytes of a string, from the shared tables alone
abbrev pub cut : List ℕ → Option ℕ → List ℕ
cut bytes (Some n) = take n bytes
cut bytes None = []

unfoldable pub read_text : SharedTables → StrOffset → List ℕ
read_text t offset = cut (drop offset.0 t.strings) (text_in t.strings offset.0)

abbrev pub position_texts : SharedTables → PositionData → PositionTexts
position_texts t p = record { dir = read_text t p.row.directory; file = read_text t p.row.filename; line = p.line }

abbrev pub call_texts : SharedTables → CallData → CallTexts
call_texts t c = record { name = read_text t c.name; position = position_texts t c.position }

unfoldable pub answer_texts : SharedTables → EntryAnswer → AnswerTexts
answer_texts t a = record {
  addr = a.addr;
  size = a.size;
  name = read_text t a.name;
  position = option_map (position_texts t) a.position;
  calls = map (call_texts t) a.calls;
}
