-- Blocks that don't read, each with what its first fault is refused with: some for each refusal of a block, and for
-- faults that follow one another in the order of RULES ("Inline tree"). The bytes are written out.
-- Assumes nothing.
use Rattle.std.specs.Prelude.{Err, ℕ, List, [], ◌∷◌, ◌++◌, map, ◌≡◌, replicate}
use Rattle.gsym_types.specs.declared.Refusal.{Refusal}
use Rattle.gsym_types.specs.declared.Refusal.TheVariants.{
  UnreadInline,
  InlineSumTooLarge,
  CallFileTooLarge,
  TooDeep,
  TooManyFrames,
  TooWide,
}
use Rattle.gsym_inline.specs.Block.{Block, block_of}
use Rattle.gsym_inline.specs.Examples.{four_times}

-- a block at an address, and what it is refused with
pub record Case : Type 0 where
  pub symbol : ℕ
  pub addr : ℕ
  pub room : ℕ
  pub bytes : List ℕ
  pub refusal : Refusal

-- at an address that the nodes below contain, with room for 64; at one that they don't contain; with room for none;
-- for a symbol on the largest address
abbrev pub contained : List ℕ → Refusal → Case
contained bytes refusal = record { symbol = 0x1000; addr = 0x1005; room = 64; bytes = bytes; refusal = refusal }

abbrev pub outside : List ℕ → Refusal → Case
outside bytes refusal = record { symbol = 0x1000; addr = 0x2000; room = 64; bytes = bytes; refusal = refusal }

abbrev pub no_room : List ℕ → Refusal → Case
no_room bytes refusal = record { symbol = 0x1000; addr = 0x1005; room = 0; bytes = bytes; refusal = refusal }

abbrev pub highest : List ℕ → Refusal → Case
highest bytes refusal =
    record { symbol = 18446744073709551615; addr = 0x1005; room = 64; bytes = bytes; refusal = refusal }

-- a node's items: one range of 32 bytes at offset 0; one at offset 1; children byte and name; call file 0 and 2^32
abbrev pub low_range : List ℕ
low_range = 0x01 ∷ 0x00 ∷ 0x20 ∷ []

abbrev pub above : List ℕ
above = 0x01 ∷ 0x01 ∷ 0x00 ∷ []

abbrev pub byte_and_name : ℕ → List ℕ
byte_and_name children = children ∷ 0x01 ∷ 0x00 ∷ 0x00 ∷ 0x00 ∷ []

abbrev pub large : List ℕ
large = 0x80 ∷ 0x80 ∷ 0x80 ∷ 0x80 ∷ 0x10 ∷ []

-- ten bytes: 2^64; 0, padded; and 0 of which the tenth byte asks for another. And nine that all ask for another
abbrev pub wide : List ℕ
wide = replicate 9 0x80 ++ (0x02 ∷ [])

abbrev pub padded : List ℕ
padded = replicate 9 0x80 ++ (0x00 ∷ [])

abbrev pub endless : List ℕ
endless = replicate 10 0x80

abbrev pub nine : List ℕ
nine = replicate 9 0x80

-- a node with children to follow, and 64 of them, each in the one before it
abbrev pub with_children : List ℕ
with_children = low_range ++ byte_and_name 1 ++ (0x00 ∷ 0x00 ∷ [])

abbrev pub deep : List ℕ
deep = four_times (four_times (four_times with_children))

abbrev pub cases : List Case
cases =
    -- 10: range count; offset; size; children byte; name; call file; call line
    contained [] UnreadInline
    ∷ contained nine UnreadInline
    ∷ contained (0x01 ∷ []) UnreadInline
    ∷ contained (0x01 ∷ 0x00 ∷ []) UnreadInline
    ∷ contained low_range UnreadInline
    ∷ contained (low_range ++ (0x01 ∷ 0x00 ∷ 0x00 ∷ 0x00 ∷ [])) UnreadInline
    ∷ contained (low_range ++ byte_and_name 0) UnreadInline
    ∷ contained (low_range ++ byte_and_name 0 ++ (0x00 ∷ [])) UnreadInline
    -- 11: size before start; start; end; both before the next range, and before the children byte
    ∷ highest (0x01 ∷ 0x01 ∷ []) UnreadInline
    ∷ highest (0x02 ∷ 0x01 ∷ 0x00 ∷ []) InlineSumTooLarge
    ∷ highest (0x02 ∷ 0x00 ∷ 0x01 ∷ []) InlineSumTooLarge
    ∷ highest above InlineSumTooLarge
    -- 12: after 11, and before the call line
    ∷ highest (above ++ byte_and_name 0 ++ large) InlineSumTooLarge
    ∷ contained (low_range ++ byte_and_name 0 ++ large) CallFileTooLarge
    -- 14: after the call line, and before the children
    ∷ no_room (low_range ++ byte_and_name 0 ++ (0x00 ∷ [])) UnreadInline
    ∷ no_room (low_range ++ byte_and_name 0 ++ large ++ (0x00 ∷ [])) CallFileTooLarge
    ∷ no_room (low_range ++ byte_and_name 0 ++ (0x00 ∷ 0x00 ∷ [])) TooManyFrames
    ∷ no_room with_children TooManyFrames
    ∷ contained with_children UnreadInline
    -- 13: after the range count, and before the offset; on level 65 and on no other; below a closed node too
    ∷ contained deep UnreadInline
    ∷ contained (deep ++ (0x01 ∷ [])) TooDeep
    ∷ outside deep UnreadInline
    ∷ outside (deep ++ (0x01 ∷ [])) TooDeep
    -- 15: where 10 stood, of the same numbers; not where the tenth byte is missing, and not where they fit
    ∷ contained wide TooWide
    ∷ contained endless TooWide
    ∷ contained (0x01 ∷ wide) TooWide
    ∷ contained (0x01 ∷ 0x00 ∷ wide) TooWide
    ∷ contained (low_range ++ byte_and_name 0 ++ wide) TooWide
    ∷ contained (low_range ++ byte_and_name 0 ++ (0x00 ∷ []) ++ wide) TooWide
    ∷ contained (low_range ++ byte_and_name 0 ++ nine) UnreadInline
    ∷ contained (low_range ++ byte_and_name 0 ++ padded) UnreadInline
    -- a call file's limit comes after it and before the call line; sums before the next number; a size before its sum
    ∷ contained (low_range ++ byte_and_name 0 ++ large ++ wide) CallFileTooLarge
    ∷ highest (above ++ wide) InlineSumTooLarge
    ∷ highest (0x01 ∷ 0x01 ∷ wide) TooWide
    -- below a closed node too, before the level and after it
    ∷ outside (with_children ++ wide) TooWide
    ∷ outside (with_children ++ low_range ++ byte_and_name 0 ++ wide) TooWide
    ∷ outside (with_children ++ low_range ++ byte_and_name 0 ++ nine) UnreadInline
    ∷ outside (deep ++ wide) TooWide
    ∷ outside (deep ++ (0x01 ∷ wide)) TooDeep
    -- below a closed node no call file is judged; all below a sibling comes before the next
    ∷ outside (with_children ++ low_range ++ byte_and_name 0 ++ large ++ (0x00 ∷ [])) UnreadInline
    ∷ contained
    (with_children ++ with_children ++ low_range ++ byte_and_name 0 ++ large ++ (0x00 ∷ 0x00 ∷ 0x01 ∷ []))
    CallFileTooLarge
    ∷ []

-- the definition refuses each with that
abbrev pub refusing : Refusal → Block
refusing r = Err r

abbrev pub FaultNumbers : Type 0
FaultNumbers = map (λ c. block_of c.symbol c.addr c.room c.bytes) cases ≡ map (λ c. refusing c.refusal) cases
