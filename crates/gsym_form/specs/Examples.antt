-- Texts that are written out, and what they say (RULES, "A file as text"): where definitions and code were changed
-- alike, no other law would object.
-- Assumes nothing.
use Rattle.std.specs.Prelude.{◌≡◌, ℕ, List, [], ◌∷◌, ◌++◌, codes, Result, Ok, Err}
use Rattle.gsym_types.specs.declared.StrOffset.{StrOffset}
use Rattle.gsym_layout.specs.Given.{Given}
use Rattle.gsym_layout.specs.Layout.{opened_layout}
use Rattle.gsym_form.specs.declared.wrong.Wrong.{Wrong}
use Rattle.gsym_form.specs.declared.wrong.Wrong.TheVariants as wrong
use Rattle.gsym_reads.specs.Steps.{◌>>=◌}
use Rattle.gsym_form.specs.Said.{SaidItem, SaidEntry, Said, text_said}
use Rattle.gsym_form.specs.Parsed.{given_said}
use Rattle.gsym_form.specs.Printed.{dump_of}

abbrev pub offset : ℕ → StrOffset
offset n = record { 0 = n }

abbrev pub entry : (addr size name line : ℕ) → List SaidItem → SaidEntry
entry addr size name line items =
    record { addr = record { 0 = addr }; size = size; name = offset name; items = items; line = line }

abbrev pub said : List ℕ → List SaidEntry → Said
said strings entries = record { strings = strings; files = []; file_lines = []; entries = entries }

abbrev pub no_entries : Said
no_entries = record {
  strings = 0 ∷ [];
  files = record { directory = offset 0; filename = offset 0 } ∷ [];
  file_lines = 2 ∷ [];
  entries = [];
}

pub record ReadExamples : Type 0 where
  -- no line of strings: the table begins with a zero byte
  pub files : text_said (codes "gsym 1\nfile \"\" \"\"\nend\n") ≡ Ok no_entries
  -- a text that is none yet is added
  pub added : text_said (codes "gsym 1\nentry 0x1000 32 \"sync\"\nend\n")
      ≡ Ok (said (0 ∷ codes "sync" ++ 0 ∷ []) (entry 4096 32 1 2 [] ∷ []))
  -- an offset and the text at it
  pub named : text_said (codes "gsym 1\nstring \"sync\"\nentry 0x1000 32 0 \"sync\"\nend\n")
      ≡ Ok (said (codes "sync" ++ 0 ∷ []) (entry 4096 32 0 3 [] ∷ []))
  -- another text at it
  pub other : text_said (codes "gsym 1\nstring \"sync\"\nentry 0x1000 32 0 \"syn\"\nend\n") ≡ Err (3, wrong.OtherString)
  -- the second text of a file is a string line's, and the entry's is the file's; an item, a comment and a blank line
  pub found : text_said (codes "# a\ngsym 1\nstring \"a\"\nfile \"a\" \"b\"\n\n entry 16 0 \"b\"\n\t0x2 0aF0 # two\nend")
      ≡ Ok (record {
        strings = codes "a" ++ 0 ∷ codes "b" ++ 0 ∷ [];
        files = record { directory = offset 0; filename = offset 2 } ∷ [];
        file_lines = 4 ∷ [];
        entries = entry 16 0 2 6 (record { kind = 2; bytes = 10 ∷ 240 ∷ []; line = 7 } ∷ []) ∷ [];
      })
  -- what stands behind a backslash
  pub escaped : text_said (codes "gsym 1\nbytes \"\\\"\\\\\\xfe\"\nend\n") ≡ Ok (said (34 ∷ 92 ∷ 254 ∷ []) [])
  -- a text can't be added behind bytes that no zero byte ends
  pub unended_bytes : text_said (codes "gsym 1\nbytes \"a\"\nentry 0 0 \"b\"\nend\n") ≡ Err (3, wrong.FullStrings)
  pub late : text_said (codes "gsym 1\nfile 0 0\nstring \"\"\nend\n") ≡ Err (3, wrong.LateStrings)
  -- control bytes and a byte 0 are in no text; a word that is none; a word too many; half a byte; a carriage return
  pub control : text_said (codes "gsym 1\nstring \"\u{7f}\"\nend\n") ≡ Err (2, wrong.Text)
  pub zero : text_said (codes "gsym 1\nstring \"\\x00\"\nend\n") ≡ Err (2, wrong.Text)
  pub word : text_said (codes "gsym 1\nx\nend\n") ≡ Err (2, wrong.Word)
  pub many : text_said (codes "gsym 1\nend x\n") ≡ Err (2, wrong.TooMany)
  pub half : text_said (codes "gsym 1\nentry 0 0 \"\"\n 1 0\nend\n") ≡ Err (3, wrong.Hex)
  pub returned : text_said (codes "gsym 1\r\nend #\r\n") ≡ Ok (said (0 ∷ []) [])
  pub capital_x : text_said (codes "gsym 1\nentry 0X10 0 0\nend\n") ≡ Err (2, wrong.Number)
  pub in_word : text_said (codes "gsym 1#\nend\n") ≡ Err (1, wrong.Start)
  pub no_entry : text_said (codes "gsym 1\n  1 00\nend\n") ≡ Err (2, wrong.NoEntry)
  pub unread : text_said (codes "gsym 1\nentry 0x10 ?5\nend\n") ≡ Err (2, wrong.UnreadEntry)
  -- without `end` it is wrong at the line behind its last
  pub unended : text_said (codes "gsym 1\nentry 0x1000 32 \"sync\"") ≡ Err (3, wrong.Unended)
  pub behind : text_said (codes "gsym 1\nend\nend\n") ≡ Err (3, wrong.Behind)
  pub start : text_said (codes "gsym 2\nend\n") ≡ Err (1, wrong.Start)
  pub none : text_said [] ≡ Err (1, wrong.Start)
  -- one above 2^32-1, and one above 2^64-1
  pub size : text_said (codes "gsym 1\nentry 0 4294967296 0\nend\n") ≡ Err (2, wrong.Number)
  pub address : text_said (codes "gsym 1\nentry 0x10000000000000000 0 0\nend\n") ≡ Err (2, wrong.Number)

-- ---- printed: an entry whose name has a quote and a byte 1 in it and so is printed by numbers, with an item of two
-- bytes and one of none; and bytes behind the last zero byte, at which a file's name doesn't read

abbrev pub strings : List ℕ
strings = 0 ∷ 34 ∷ 1 ∷ 0 ∷ codes "a"

abbrev pub given : Given
given = record {
  entries = record {
    addr = record { 0 = 4096 };
    size = 32;
    name = offset 1;
    items = record { kind = 2; bytes = 10 ∷ 240 ∷ [] } ∷ record { kind = 9; bytes = [] } ∷ [];
  } ∷ [];
  tables = record {
    strings = strings;
    files = record { directory = offset 0; filename = offset 4 } ∷ [];
  };
}

abbrev pub printed : List ℕ
printed =
    codes "gsym 1\nstring \"\"\nstring \"\\\"\\x01\"\nbytes \"a\"\nfile 0 \"\" 4\n"
    ++ codes "entry 0x1000 32 1 \"\\\"\\x01\"\n  2 0af0\n  9\nend\n"

abbrev pub given_read : Result Said (ℕ × Wrong) → Result Given (ℕ × Wrong)
given_read read = do
  s ← read
  Ok (given_said s)

pub record PrintExamples : Type 0 where
  pub whole : dump_of (opened_layout given) ≡ printed
  -- and read again it gives what the file was written from
  pub again : given_read (text_said printed) ≡ Ok given
