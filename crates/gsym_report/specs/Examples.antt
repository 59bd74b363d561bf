-- Reports and inputs that are written out, byte for byte (RULES, "A report"): where definitions and code were changed
-- alike, no other law would object.
-- Assumes nothing.
use Rattle.std.specs.Prelude.{◌≡◌, ℕ, ◌+◌, ◌*◌, List, [], ◌∷◌, ◌++◌, length, codes, replicate, IsSome, Some, None}
use Rattle.gsym_types.specs.declared.Address.{Address}
use Rattle.gsym_types.specs.declared.Refusal.TheVariants.{TooWide}
use Rattle.gsym_resolver.specs.WholeLookups as whole
use Rattle.gsym_report.specs.Input.{question_of, output_of}
use Rattle.gsym_report.specs.Laws.{address}
use Rattle.gsym_report.specs.Report.{shown_name, refusal_said, line_of, report_of}

-- a number below 256 in four bytes, and one below 65,536 in eight
abbrev four : ℕ → List ℕ
four n = n ∷ 0 ∷ 0 ∷ 0 ∷ []

abbrev eight : (low high : ℕ) → List ℕ
eight low high = low ∷ high ∷ 0 ∷ 0 ∷ 0 ∷ 0 ∷ 0 ∷ 0 ∷ []

-- a file of offset size 1, base 0x1000 and one symbol of this name at 0x1000, of 0x20 bytes, without code info:
--
--   at     bytes                        what
--   0      48                           header: one entry, strings at 76
--   48     1, 3                         entry 0; three bytes that are skipped
--   52     4, 4                         data offset 60; no files
--   60     8, 8                         size 0x20, name at 1; type 0
--   76     length of the name and 2     an empty string, the name
abbrev pub file_of : (name : List ℕ) → List ℕ
file_of name =
    (0x4d ∷ 0x59 ∷ 0x53 ∷ 0x47 ∷ 1 ∷ 0 ∷ 1 ∷ 0 ∷ []) ++ eight 0 0x10 ++ four 1 ++ four 76 ++ four (length name + 2)
    ++ replicate 20 0 ++ four 0 ++ four 60 ++ four 0 ++ four 0x20 ++ four 1 ++ four 0 ++ four 0 ++ (0 ∷ []) ++ name
    ++ (0 ∷ [])

abbrev pub marked : List ℕ
marked = file_of (codes "sync")

-- two addresses
abbrev pub two : (crash returned : ℕ) → List Address
two crash returned = address crash ∷ address returned ∷ []

pub record LineExamples : Type 0 where
  pub marked_example : report_of marked (two 0x1005 0x1000) ≡ codes "0 sync\n1 ?1\n"
  -- the crash address behind the symbol, and the call that ends it
  pub behind : report_of marked (two 0x1020 0x1020) ≡ codes "0 ?1\n1 sync\n"
  pub start : report_of marked (two 0x1000 0x1001) ≡ codes "0 sync\n1 sync\n"
  pub no_file : report_of [] (two 0 0) ≡ codes "0 ?2\n1 ?1\n"
  -- at 0x1005 h is inlined into g, and g into f; at 0x1003 there is f alone
  pub frames : report_of whole.file (two 0x1005 0x1004) ≡ codes "0 h\n0 g\n0 f\n1 f\n"
  pub shown :
      report_of (file_of (97 ∷ 0x7f ∷ 0xc2 ∷ 0x9b ∷ 10 ∷ 98 ∷ [])) (address 0x1000 ∷ [])
      ≡ codes "0 a?" ++ 0xc2 ∷ 0x9b ∷ codes "?b\n"
  pub edges :
      shown_name (0 ∷ 31 ∷ 32 ∷ 126 ∷ 127 ∷ 128 ∷ 159 ∷ 255 ∷ []) ≡ 63 ∷ 63 ∷ 32 ∷ 126 ∷ 63 ∷ 128 ∷ 159 ∷ 255 ∷ []
  pub two_digits : line_of 10 (refusal_said TooWide) ≡ codes "10 ?15"

pub record InputExamples : Type 0 where
  pub whole : output_of (four 91 ++ file_of (codes "get_item_with") ++ eight 5 0x10 ++ eight 0 0x10)
      ≡ codes "0 get_item_with\n1 ?1\n"
  pub empty : output_of [] ≡ codes "?\n"
  pub no_size : output_of (0 ∷ 0 ∷ 0 ∷ []) ≡ codes "?\n"
  pub no_address : output_of (four 0) ≡ []
  pub part_address : output_of (four 0 ++ 0 ∷ []) ≡ codes "?\n"
  pub cut_file : output_of (four 1) ≡ codes "?\n"
  -- a size of 2^24, little-endian
  pub large_file : output_of (0 ∷ 0 ∷ 0 ∷ 1 ∷ []) ≡ codes "?\n"
  pub largest_file : question_of 1 (four 1 ++ 7 ∷ []) ≡ Some (record { file = 7 ∷ []; addresses = [] })
  pub too_large_file : question_of 0 (four 1 ++ 7 ∷ []) ≡ None
  pub most_addresses : IsSome (question_of 0 (replicate (4 + 256 * 8) 0))
  -- of 49,152 bytes, and of one more
  pub most_bytes : output_of (0 ∷ 0xc0 ∷ 0 ∷ 0 ∷ replicate 49152 0) ≡ []
  pub too_many_bytes : output_of (1 ∷ 0xc0 ∷ 0 ∷ 0 ∷ replicate 49153 0) ≡ codes "?\n"
  pub too_many_addresses : output_of (replicate (4 + 257 * 8) 0) ≡ codes "?\n"

pub record ReportExamples : Type 0 where
  pub lines : LineExamples
  pub inputs : InputExamples
