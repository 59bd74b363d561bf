-- The laws of a lookup, said of a call: whatever it returned, and the records in its list, where both are those of the
-- definition.
-- Assumes nothing.
use Rattle.std.proofs.Common.{◌≡◌, ◌↔◌, ◌≤◌, ◌<◌, ◌+◌, ◌⊎◌, Ok, Err, Result, IfOk, IfErr, ℕ, true, false, List, length}
use Rattle.std.proofs.Common.{sym, ap, ◌∙◌}
use Rattle.std.specs.Result.{IsErrOf}
use Rattle.gsym_types.specs.declared.Address.{Address}
use Rattle.gsym_types.specs.declared.Answer.{Answer}
use Rattle.gsym_types.specs.declared.Frame.{Frame}
use Rattle.gsym_types.specs.declared.Options.{Options}
use Rattle.gsym_types.specs.declared.Refusal.{Refusal}
use Rattle.gsym_types.specs.declared.Refusal.TheVariants.{UnreadLineHeader, TooWide}
use Rattle.gsym_types.specs.Refusal.{number_of}
use Rattle.gsym_parser.specs.Entries.{covered_by}
use Rattle.gsym_resolver.specs.Lookup.{LookedUp, lookup_of, looked_up}
use Rattle.gsym_resolver.specs.Met.{Met}
use Rattle.gsym_resolver.specs.Answered.{Answered}
use Rattle.gsym_resolver.specs.Blocks.{RefusedByBlock, RefusedByHeader, Listed}
use Rattle.gsym_resolver.proofs.Lookups.{lookup_refused, lookup_answered}
use Rattle.gsym_resolver.proofs.Records.{lookup_covered, lookup_below, count_is, records_room}
use Rattle.gsym_resolver.proofs.Numbers.{bare_number, plain_number, refused_by_block, refused_by_header}
use Rattle.gsym_resolver.proofs.Numbers.{refused_wide}
use Rattle.gsym_resolver.proofs.Listings.{lookup_listed}

module _ (file : List ℕ) (addr : Address) (o : Options) (room : ℕ) where
  -- what holds of each answer of the definition holds of a call's
  of_answer :
      (P : LookedUp → Type 0) → ((l : LookedUp) → lookup_of file addr o room ≡ Ok l → P l) →
      (result : Result Answer Refusal) (records : List Frame) → looked_up result records ≡ lookup_of file addr o room →
      IfOk result (λ a. P (record { answer = a; frames = records }))
  of_answer P h (Ok a) records e = h (record { answer = a; frames = records }) (sym e)
  of_answer P h (Err r) records e = tt

  of_refusal :
      (P : Refusal → Type 0) → ((r : Refusal) → lookup_of file addr o room ≡ Err r → P r) →
      (result : Result Answer Refusal) (records : List Frame) → looked_up result records ≡ lookup_of file addr o room →
      IfErr result P
  of_refusal P h (Ok a) records e = tt
  of_refusal P h (Err r) records e = h r (sym e)

  module _ (result : Result Answer Refusal) (records : List Frame)
      (e : looked_up result records ≡ lookup_of file addr o room) where
    refused_as : (r : Refusal) → IsErrOf result r → lookup_of file addr o room ≡ Err r
    refused_as r = go result e
      where
        go : (x : Result Answer Refusal) → looked_up x records ≡ lookup_of file addr o room →
            IsErrOf x r → lookup_of file addr o room ≡ Err r
        go (Ok a) e z = absurd cc
        go (Err s) e z = let q : s ≡ r = cc in sym e ∙ ap Err q

    -- refused with r exactly where r's condition is the first met
    pub call_refused : (r : Refusal) → IsErrOf result r ↔ Met file addr o room r
    call_refused r = go result e
      where
        go : (x : Result Answer Refusal) → looked_up x records ≡ lookup_of file addr o room →
            IsErrOf x r ↔ Met file addr o room r
        go (Ok a) e = (λ z. absurd cc, λ m. let z = (lookup_refused file addr o room r).1 m in absurd cc)
        go (Err s) e = (
          λ z. (lookup_refused file addr o room r).0 (let q : s ≡ r = cc in cc),
          λ m. let z = (lookup_refused file addr o room r).1 m in cc,
        )

    -- else it says what the data of the entry say
    pub call_answered : IfOk result (λ a. Answered file addr o room (record { answer = a; frames = records }))
    call_answered = of_answer (Answered file addr o room) (λ l. (lookup_answered file addr o room l).0) result records e

    -- what is found covers the address, and is not above it
    pub call_covers : IfOk result (λ a. covered_by addr a.addr a.size ≡ true)
    call_covers = of_answer (λ l. covered_by addr l.answer.addr l.answer.size ≡ true)
        (lookup_covered file addr o room) result records e

    pub call_below : IfOk result (λ a. a.addr.0 ≤ addr.0)
    call_below = of_answer (λ l. l.answer.addr.0 ≤ addr.0) (lookup_below file addr o room) result records e

    -- the count is the number of records, which are fewer than the room
    pub call_count : IfOk result (λ a. a.count ≡ length records)
    call_count = of_answer (λ l. l.answer.count ≡ length l.frames) (count_is file addr o room) result records e

    pub call_room : IfOk result (λ a. (length records ≡ 0) ⊎ (length records + 1 ≤ room))
    call_room = of_answer (λ l. (length l.frames ≡ 0) ⊎ (length l.frames + 1 ≤ room))
        (records_room file addr o room) result records e

    -- where there are records, they are those of the first inline block that lists anything
    pub call_listed :
        IfOk result (λ a. 0 < length records → Listed file addr o room (record { answer = a; frames = records }))
    call_listed =
        of_answer (λ l. 0 < length l.frames → Listed file addr o room l)
        (lookup_listed file addr o room) result records e

    -- from 10 to 14 a refusal is the first fault of one of the entry's blocks, the first that doesn't list none
    pub call_blocks : IfErr result (λ r. 10 ≤ number_of r → number_of r ≤ 14 → RefusedByBlock file addr o room r)
    call_blocks =
        of_refusal (λ r. 10 ≤ number_of r → number_of r ≤ 14 → RefusedByBlock file addr o room r)
        (λ r k l m. refused_by_block file addr o room r l m k) result records e

    -- 9 is the header's of one of its line tables, the first that doesn't give none
    pub call_header : IsErrOf result UnreadLineHeader → RefusedByHeader file addr o room UnreadLineHeader
    call_header i = refused_by_header file addr o room (refused_as UnreadLineHeader i)

    -- 15 is either's
    pub call_wide : IsErrOf result TooWide
        → RefusedByBlock file addr o room TooWide ⊎ RefusedByHeader file addr o room TooWide
    call_wide i = refused_wide file addr o room (refused_as TooWide i)

    -- without code info a refusal is at most 6
    pub call_bare : o.code_info ≡ false → IfErr result (λ r. number_of r ≤ 6)
    call_bare i = of_refusal (λ r. number_of r ≤ 6) (bare_number file addr o room i) result records e

    -- without inlining a refusal is at most 9, or 15
    pub call_plain : o.inlining ≡ false → IfErr result (λ r. (number_of r ≤ 9) ⊎ (number_of r ≡ 15))
    call_plain i =
        of_refusal (λ r. (number_of r ≤ 9) ⊎ (number_of r ≡ 15)) (plain_number file addr o room i) result records e
