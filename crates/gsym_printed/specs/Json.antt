-- What is printed of an address as one JSON object on a line.
-- Assumes nothing.
use Rattle.std.specs.Prelude.{ℕ, List, [], ◌∷◌, codes, decimal, Option, Some, None}
use Rattle.std.specs.List.{flat_map}
use Rattle.gsym_types.specs.declared.Answer.{Answer}
use Rattle.gsym_types.specs.declared.Position.{Position}
use Rattle.gsym_types.specs.declared.Refusal.{Refusal}
use Rattle.gsym_types.specs.declared.Text.{Text}
use Rattle.gsym_types.specs.Refusal.{number_of}
use Rattle.gsym_strtab.specs.Strings.{part_of}
use Rattle.gsym.specs.declared.chain.Call.{Call}
use Rattle.gsym_printed.specs.declared.json.Part.{Part}
use Rattle.gsym_printed.specs.declared.json.Part.TheVariants as part
use Rattle.gsym_printed.specs.declared.view.Form.TheVariants.{Json}
use Rattle.gsym_printed.specs.Page.{◌&◌, hex}
use Rattle.gsym_printed.specs.Pieces.{shown_text}
use Rattle.gsym_printed.specs.Printed.{name_of}

-- what stands between the values
unfoldable pub between : Part → List ℕ
between part.Address = codes "{\"address\":\""
between part.Number = codes "\",\"number\":"
between part.Refusal = codes ",\"refusal\":\""
between part.EndRefusal = codes "\"}\n"
between part.Start = codes ",\"start\":\""
between part.Size = codes "\",\"size\":"
between part.Frames = codes ",\"frames\":["
between part.EndFrames = codes "]}\n"
between part.Name = codes "{\"name\":"
between part.Directory = codes ",\"directory\":"
between part.File = codes ",\"file\":"
between part.Line = codes ",\"line\":"
between part.EndFrame = codes "}"
between part.Comma = codes ","
between part.NoAddress = codes "{\"address\":null,\"word\":"
between part.EndNoAddress = codes ",\"error\":\"no address\"}\n"

abbrev pub quoted : List ℕ → List ℕ
quoted s = codes "\"" & shown_text Json s & codes "\""

abbrev pub quoted_text : List ℕ → Text → List ℕ
quoted_text file t = quoted (part_of file t.place t.len)

unfoldable pub json_paths : List ℕ → Position → List ℕ
json_paths file p =
    between part.Directory & quoted_text file p.dir & between part.File & quoted_text file p.file

unfoldable pub json_position : List ℕ → Option Position → List ℕ
json_position file None = []
json_position file (Some p) = json_paths file p & between part.Line & decimal p.line.0

unfoldable pub json_frame : List ℕ → Call → List ℕ
json_frame file call =
    between part.Name & quoted_text file call.name & json_position file call.position & between part.EndFrame

unfoldable pub json_outer : List ℕ → Call → List ℕ
json_outer file call = between part.Comma & json_frame file call

-- from the innermost call out, with commas between
unfoldable pub json_calls : List ℕ → List Call → List ℕ
json_calls file [] = []
json_calls file (c ∷ cs) = json_frame file c & flat_map (json_outer file) cs

unfoldable pub json_start : ℕ → ℕ → List ℕ
json_start n number = between part.Address & hex n & between part.Number & decimal number

unfoldable pub json_symbol : Answer → List ℕ
json_symbol a = between part.Start & hex a.addr.0 & between part.Size & decimal a.size

unfoldable pub json_found : List ℕ → ℕ → Answer → List Call → List ℕ
json_found file n a calls =
    json_start n 0 & json_symbol a & between part.Frames & json_calls file calls & between part.EndFrames

unfoldable pub json_refused : ℕ → Refusal → List ℕ
json_refused n r = json_start n (number_of r) & between part.Refusal & name_of r & between part.EndRefusal

unfoldable pub json_no_address : List ℕ → List ℕ
json_no_address word = between part.NoAddress & quoted word & between part.EndNoAddress
