-- Texts that are written out, byte for byte (RULES, "What the tools print"): where definitions and code were changed
-- alike, no other law would object. The views are named by the letters of the options of the tool that ask for them: a
-- addresses, f functions, i inlined calls, p one line a frame, s base names; and r refusals.
-- Assumes nothing.
use Rattle.std.specs.Prelude.{◌≡◌, ℕ, ◌-◌, ◌^◌, true, false, List, [], ◌∷◌, ◌++◌, codes, Option, Some, None, Result, Ok}
use Rattle.gsym_types.specs.declared.Position.{Position}
use Rattle.gsym_types.specs.declared.Refusal.{Refusal}
use Rattle.gsym_types.specs.declared.Refusal.TheVariants.{UnknownAddress, UnreadName, UnreadLineHeader, UnreadInline}
use Rattle.gsym_types.specs.declared.Refusal.TheVariants.{TooWide}
use Rattle.gsym_types.specs.declared.Text.{Text}
use Rattle.gsym_resolver.specs.Lookup.{LookedUp}
use Rattle.gsym_resolver.specs.WholeLookups.{file}
use Rattle.gsym_printed.specs.declared.printing.Outcome.TheVariants.{Known, Refused, NoAddress}
use Rattle.gsym_printed.specs.declared.view.Form.TheVariants.{Lines, Pretty, Json}
use Rattle.gsym_printed.specs.declared.view.View.{View}
use Rattle.gsym_printed.specs.Answers.{answer_text, answers_text, answer_by, outcome_of}
use Rattle.gsym_printed.specs.Pieces.{shown_text}
use Rattle.gsym_printed.specs.Printed.{refused_text}
use Rattle.gsym_printed.specs.Words.{words, address_of}

-- ---- words

pub record WordExamples : Type 0 where
  pub parted : words (codes " 10d0\t0xFFF\r\n\n11d5 zz") ≡ codes "10d0" ∷ codes "0xFFF" ∷ codes "11d5" ∷ codes "zz" ∷ []
  pub unparted : words (49 ∷ 0 ∷ 11 ∷ 12 ∷ 160 ∷ 49 ∷ []) ≡ (49 ∷ 0 ∷ 11 ∷ 12 ∷ 160 ∷ 49 ∷ []) ∷ []
  pub no_words : words (codes " \n") ≡ []
  pub small : address_of (codes "10d0") ≡ Some 0x10d0
  pub capital : address_of (codes "0x10D0") ≡ Some 0x10d0
  pub capital_before : address_of (codes "0X9aF") ≡ Some 0x9af
  pub largest : address_of (codes "ffffffffffffffff") ≡ Some (2 ^ 64 - 1)
  pub zeros_before : address_of (codes "00000000000000000001155") ≡ Some 0x1155
  pub too_large : address_of (codes "10000000000000000") ≡ None
  pub no_digit : address_of (codes "0x") ≡ None
  pub empty : address_of [] ≡ None
  pub bad_digit : address_of (codes "11g") ≡ None
  pub bad_start : address_of (codes "x1") ≡ None

-- ---- texts of the file, and words

-- in lines, and in JSON
abbrev pub in_lines : List ℕ → List ℕ
in_lines s = shown_text Lines s

abbrev pub in_json : List ℕ → List ℕ
in_json s = shown_text Json s

pub record ShownExamples : Type 0 where
  -- a, U+009B, b
  pub c1 : in_lines (97 ∷ 0xc2 ∷ 0x9b ∷ 98 ∷ []) ≡ codes "a?b"
  pub c1_json : in_json (97 ∷ 0xc2 ∷ 0x9b ∷ 98 ∷ []) ≡ codes "a\\u009bb"
  pub c1_pretty : shown_text Pretty (97 ∷ 0xc2 ∷ 0x9b ∷ 98 ∷ []) ≡ codes "a?b"
  -- escape, tab, newline, 127
  pub control : in_lines (27 ∷ 91 ∷ 9 ∷ 10 ∷ 127 ∷ []) ≡ codes "?[???"
  pub control_json : in_json (27 ∷ 91 ∷ 9 ∷ 10 ∷ 127 ∷ []) ≡ codes "\\u001b[\\u0009\\u000a\\u007f"
  -- bytes that are in no character: 85 and 9f, and a0, which is no C1 control
  pub single : in_lines (0x85 ∷ 0x9f ∷ 0xa0 ∷ []) ≡ 63 ∷ 63 ∷ 0xa0 ∷ []
  pub single_json : in_json (0x85 ∷ 0x9f ∷ 0xa0 ∷ []) ≡ codes "\\ufffd\\ufffd\\ufffd"
  -- U+202A, U+202E, and U+202F, which turns nothing; U+2066, U+2069 and U+206A
  pub turns :
      in_lines (0xe2 ∷ 0x80 ∷ 0xaa ∷ 0xe2 ∷ 0x80 ∷ 0xae ∷ 0xe2 ∷ 0x80 ∷ 0xaf ∷ [])
      ≡ 63 ∷ 63 ∷ 0xe2 ∷ 0x80 ∷ 0xaf ∷ []
  pub turns_json : in_json (0xe2 ∷ 0x80 ∷ 0xaa ∷ 0xe2 ∷ 0x80 ∷ 0xae ∷ []) ≡ codes "\\u202a\\u202e"
  pub isolates :
      in_lines (0xe2 ∷ 0x81 ∷ 0xa6 ∷ 0xe2 ∷ 0x81 ∷ 0xa9 ∷ 0xe2 ∷ 0x81 ∷ 0xaa ∷ [])
      ≡ 63 ∷ 63 ∷ 0xe2 ∷ 0x81 ∷ 0xaa ∷ []
  pub isolates_json : in_json (0xe2 ∷ 0x81 ∷ 0xa6 ∷ 0xe2 ∷ 0x81 ∷ 0xa9 ∷ []) ≡ codes "\\u2066\\u2069"
  -- characters of two, three and four bytes, and one that is cut
  pub characters :
      in_lines (0xc3 ∷ 0x80 ∷ 0xe2 ∷ 0x82 ∷ 0xac ∷ 0xf0 ∷ 0x9f ∷ 0x98 ∷ 0x80 ∷ 0xe2 ∷ 0x80 ∷ [])
      ≡ 0xc3 ∷ 0x80 ∷ 0xe2 ∷ 0x82 ∷ 0xac ∷ 0xf0 ∷ 0x9f ∷ 0x98 ∷ 0x80 ∷ 0xe2 ∷ 63 ∷ []
  pub characters_json : in_json (0xc3 ∷ 0x80 ∷ 0xe2 ∷ 0x80 ∷ []) ≡ (0xc3 ∷ 0x80 ∷ []) ++ codes "\\ufffd\\ufffd"
  pub quotes : in_lines (codes "a\"b\\") ≡ codes "a\"b\\"
  pub quotes_json : in_json (codes "a\"b\\") ≡ codes "a\\\"b\\\\"

-- ---- views

abbrev pub nothing : View
nothing = record {
  form = Lines;
  addresses = false;
  functions = false;
  inlines = false;
  base_names = false;
  refusals = false;
  return_addresses = false;
  base = record { 0 = 0 };
}

abbrev pub f : View
f = record nothing { functions = true }

abbrev pub a : View
a = record nothing { addresses = true }

abbrev pub af : View
af = record f { addresses = true }

abbrev pub afi : View
afi = record af { inlines = true }

abbrev pub r : View
r = record nothing { refusals = true }

abbrev pub ar : View
ar = record a { refusals = true }

abbrev pub fr : View
fr = record f { refusals = true }

abbrev pub p : View
p = record nothing { form = Pretty }

abbrev pub ap : View
ap = record a { form = Pretty }

abbrev pub fp : View
fp = record f { form = Pretty }

abbrev pub afp : View
afp = record af { form = Pretty }

abbrev pub afip : View
afip = record afi { form = Pretty }

abbrev pub fips : View
fips = record fp { inlines = true; base_names = true }

abbrev pub afpr : View
afpr = record afp { refusals = true }

abbrev pub json : View
json = record nothing { form = Json }

-- with return addresses of a program that was loaded at 0x5000
abbrev pub loaded : View → View
loaded view = record view { return_addresses = true; base = record { 0 = 0x5000 } }

-- ---- whole answers, of the file of whole lookups: at 0x1005 h is inlined into g, and g into f, which covers 0x1000 to
-- 0x101f

pub record LineExamples : Type 0 where
  pub position : answer_text nothing file (codes "1005") ≡ codes "d/y:100\n"
  pub innermost : answer_text f file (codes "1005") ≡ codes "h\nd/y:100\n"
  pub all_frames :
      answer_text afi file (codes "0x1005") ≡ codes "0x0000000000001005\nh\nd/y:100\ng\nd/z:20\nf\nd/x:10\n"
  pub inlines_alone :
      answer_text (record nothing { inlines = true }) file (codes "1005") ≡ codes "d/y:100\nd/z:20\nd/x:10\n"
  pub base_names : answer_text (record f { base_names = true }) file (codes "1005") ≡ codes "h\ny:100\n"
  pub unknown : answer_text nothing file (codes "fff") ≡ codes "??:0\n"
  pub unknown_function : answer_text af file (codes "1020") ≡ codes "0x0000000000001020\n??\n??:0\n"
  pub refusal : answer_text r file (codes "fff") ≡ codes "?1 no symbol covers the address\n"
  pub refusal_twice :
      answer_text fr file (codes "fff") ≡ codes "?1 no symbol covers the address\n?1 no symbol covers the address\n"
  pub no_file :
      answer_text fr [] (codes "1")
      ≡ codes "?2 the file ends inside its header or a table\n?2 the file ends inside its header or a table\n"

pub record PrettyExamples : Type 0 where
  pub all_frames :
      answer_text afip file (codes "1005")
      ≡ codes "0x0000000000001005: h at d/y:100\n (inlined by) g at d/z:20\n (inlined by) f at d/x:10\n"
  pub base_names :
      answer_text fips file (codes "1005") ≡ codes "h at y:100\n (inlined by) g at z:20\n (inlined by) f at x:10\n"
  pub innermost : answer_text fp file (codes "1005") ≡ codes "h at d/y:100\n"
  pub position : answer_text ap file (codes "1005") ≡ codes "0x0000000000001005: d/y:100\n"
  pub unknown : answer_text fp file (codes "fff") ≡ codes "?? ??:0\n"
  pub unknown_position : answer_text ap file (codes "fff") ≡ codes "0x0000000000000fff: ??:0\n"
  pub refusal : answer_text afpr file (codes "fff") ≡ codes "0x0000000000000fff: ?1 no symbol covers the address\n"

pub record JsonExamples : Type 0 where
  pub all_frames :
      answer_text json file (codes "1005")
      ≡ codes "{\"address\":\"0x1005\",\"number\":0,\"start\":\"0x1000\",\"size\":32,\"frames\":["
      ++ codes "{\"name\":\"h\",\"directory\":\"d\",\"file\":\"y\",\"line\":100},"
      ++ codes "{\"name\":\"g\",\"directory\":\"d\",\"file\":\"z\",\"line\":20},"
      ++ codes "{\"name\":\"f\",\"directory\":\"d\",\"file\":\"x\",\"line\":10}]}\n"
  pub refused :
      answer_text json file (codes "fff")
      ≡ codes "{\"address\":\"0xfff\",\"number\":1,\"refusal\":\"no symbol covers the address\"}\n"
  pub no_address :
      answer_text json file (codes "z\"z") ≡ codes "{\"address\":null,\"word\":\"z\\\"z\",\"error\":\"no address\"}\n"
  -- whatever other form is asked for
  pub alone : answer_text (record afip { form = Json; refusals = true }) file (codes "1005")
      ≡ answer_text json file (codes "1005")

pub record NoAddressExamples : Type 0 where
  pub position : answer_text nothing file (codes "zz") ≡ codes "??:0\n"
  pub function : answer_text f file (codes "zz") ≡ codes "??\n??:0\n"
  pub address : answer_text af file (codes "0x") ≡ codes "??\n??\n??:0\n"
  pub pretty : answer_text afp file (codes "zz") ≡ codes "??: ?? ??:0\n"
  pub told : answer_text ar file (codes "zz") ≡ codes "??\n?? 'zz' is no address\n"
  pub told_twice : answer_text fr file (codes "zz") ≡ codes "?? 'zz' is no address\n?? 'zz' is no address\n"
  pub told_pretty : answer_text afpr file (codes "zz") ≡ codes "??: ?? 'zz' is no address\n"

-- the address is shown as given; one below the base is known to no symbol
pub record LoadedExamples : Type 0 where
  pub returned : answer_text (loaded afp) file (codes "6006") ≡ codes "0x0000000000006006: h at d/y:100\n"
  pub before_the_call : answer_text (loaded afp) file (codes "6001") ≡ codes "0x0000000000006001: f at d/y:100\n"
  pub before_the_symbol : answer_text (loaded afp) file (codes "6000") ≡ codes "0x0000000000006000: ?? ??:0\n"
  pub at_the_base : answer_text (loaded afp) file (codes "5000") ≡ codes "0x0000000000005000: ?? ??:0\n"
  pub below_the_base : answer_text (loaded json) file (codes "4fff")
      ≡ codes "{\"address\":\"0x4fff\",\"number\":1,\"refusal\":\"no symbol covers the address\"}\n"

-- each word of an input is answered once, in order; and what became of one
pub record InputExamples : Type 0 where
  pub each : answers_text fp file (codes "1005 zz\nfff\n") ≡ codes "h at d/y:100\n?? ??:0\n?? ??:0\n"
  pub known : outcome_of nothing file (codes "1005") ≡ Known
  pub refused : outcome_of nothing file (codes "fff") ≡ Refused UnknownAddress
  pub no_address : outcome_of nothing file (codes "zz") ≡ NoAddress

pub record AnswerExamples : Type 0 where
  pub lines : LineExamples
  pub pretty : PrettyExamples
  pub json : JsonExamples
  pub no_address : NoAddressExamples
  pub loaded : LoadedExamples
  pub input : InputExamples

-- ---- answers of values, over bytes that have the texts alone

abbrev pub texts : List ℕ
texts = codes "send_request/srcpost.cpost_order/src/post.c"

abbrev pub text : (place len : ℕ) → Text
text place len = record { place = place; len = len }

-- in post.c, in /src
abbrev pub line : ℕ → Position
line n = record { dir = text 12 4; file = text 16 6; line = record { 0 = n } }

-- post.c in no directory, at an unknown line; and /src/post.c as the name of a file in /src
abbrev pub bare_file : Position
bare_file = record { dir = text 12 0; file = text 16 6; line = record { 0 = 0 } }

abbrev pub whole_path : Position
whole_path = record { dir = text 12 4; file = text 32 11; line = record { 0 = 7 } }

-- post_order, and send_request in it
abbrev pub order : Result LookedUp Refusal
order = Ok (record {
  answer =
      record { addr = record { 0 = 0x10a0 }; name = text 22 10; position = Some (line 18); count = 1; size = 256 };
  frames = record { name = text 0 12; position = line 35 } ∷ [];
})

-- the first alone, at such a position
abbrev pub request_at : Option Position → Result LookedUp Refusal
request_at position = Ok (record {
  answer = record { addr = record { 0 = 0x10a0 }; name = text 0 12; position = position; count = 0; size = 0 };
  frames = [];
})

pub record ValueExamples : Type 0 where
  pub inlined :
      answer_by afip texts 0x1155 order
      ≡ codes "0x0000000000001155: send_request at /src/post.c:35\n (inlined by) post_order at /src/post.c:18\n"
  pub unknown_position : answer_by f texts 1 (request_at None) ≡ codes "send_request\n??:0\n"
  pub unknown_position_pretty : answer_by fp texts 1 (request_at None) ≡ codes "send_request at ??:?\n"
  pub unknown_position_json :
      answer_by json texts 1 (request_at None)
      ≡ codes "{\"address\":\"0x1\",\"number\":0,\"start\":\"0x10a0\",\"size\":0,\"frames\":["
      ++ codes "{\"name\":\"send_request\"}]}\n"
  pub no_directory : answer_by nothing texts 1 (request_at (Some bare_file)) ≡ codes "post.c:0\n"
  pub no_line_pretty : answer_by p texts 1 (request_at (Some bare_file)) ≡ codes "post.c:?\n"
  pub last_part :
      answer_by (record nothing { base_names = true }) texts 1 (request_at (Some whole_path)) ≡ codes "post.c:7\n"
  pub another_refusal :
      refused_text fr UnreadName
      ≡ codes "?6 the name of the symbol or of an inlined call doesn't read, or is not UTF-8\n"
      ++ codes "?6 the name of the symbol or of an inlined call doesn't read, or is not UTF-8\n"
  pub cut_header :
      refused_text r UnreadLineHeader ≡ codes "?9 the header of a line table doesn't read: it is cut short\n"
  pub cut_block : refused_text r UnreadInline ≡ codes "?10 an inline block doesn't read: it is cut short\n"
  pub last_refusal :
      refused_text r TooWide ≡ codes "?15 a number wider than 64 bits: from a broken producer, not a torn file\n"
