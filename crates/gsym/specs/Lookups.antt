-- What a lookup leaves in the list that is lent to it, and what it promises.
-- Assumes nothing.
use Rattle.std.specs.Prelude.{◌≡◌, ◌↔◌, ◌≤◌, ◌<◌, ◌⊎◌, ℕ, true, false, List, length, take, drop, All, Result, IsOk}
use Rattle.std.specs.Prelude.{IfOk, IfErr, OnErr}
use Rattle.std.specs.Result.{IsErrOf}
use Rattle.gsym_types.specs.declared.Address.{Address}
use Rattle.gsym_types.specs.declared.Answer.{Answer}
use Rattle.gsym_types.specs.declared.Frame.{Frame}
use Rattle.gsym_types.specs.declared.Options.{Options}
use Rattle.gsym_types.specs.declared.Refusal.{Refusal}
use Rattle.gsym_types.specs.declared.Refusal.TheVariants.{UnreadLineHeader, TooWide}
use Rattle.gsym_types.specs.Refusal.{number_of}
use Rattle.gsym_inline.specs.Block.{room_of}
use Rattle.gsym_parser.specs.Entries.{covered_by}
use Rattle.gsym_resolver.specs.Lookup.{LookedUp, lookup_of, looked_up}
use Rattle.gsym_resolver.specs.Met.{Met}
use Rattle.gsym_resolver.specs.Answered.{Answered}
use Rattle.gsym_resolver.specs.Blocks.{RefusedByBlock, RefusedByHeader, Listed}
use Rattle.gsym.specs.Names.{IsNameIn}
-- the records of an answer; a refusal has none
pub use Rattle.gsym_resolver.specs.Lookup.{records_in}

-- an answer with its records, which stand at the front of the list
abbrev pub with_records : Answer → List Frame → LookedUp
with_records a frames = record { answer = a; frames = take a.count frames }

-- what `lookup` ensures, clause by clause, of a file, an address and options, what it returns, and the list before and
-- after
pub record MeetsLookup (file : List ℕ) (addr : Address) (o : Options) (result : Result Answer Refusal)
    (old new : List Frame) : Type 0 where
  pub refused : (r : Refusal) → IsErrOf result r ↔ Met file addr o (room_of (length old)) r
  pub unmet : IsOk result ↔ ((r : Refusal) → Met file addr o (room_of (length old)) r → ⊥)
  pub blocks :
      IfErr result (λ r. 10 ≤ number_of r → number_of r ≤ 14 → RefusedByBlock file addr o (room_of (length old)) r)
  pub header :
      IsErrOf result UnreadLineHeader → RefusedByHeader file addr o (room_of (length old)) UnreadLineHeader
  pub wide : IsErrOf result TooWide →
      RefusedByBlock file addr o (room_of (length old)) TooWide
      ⊎ RefusedByHeader file addr o (room_of (length old)) TooWide
  pub no_code_info : o.code_info ≡ false → IfErr result (λ r. number_of r ≤ 6)
  pub no_inlining : o.inlining ≡ false → IfErr result (λ r. (number_of r ≤ 9) ⊎ (number_of r ≡ 15))
  pub answered : IfOk result (λ a. Answered file addr o (room_of (length old)) (with_records a new))
  pub listed : IfOk result (λ a. 0 < a.count → Listed file addr o (room_of (length old)) (with_records a new))
  pub covered : IfOk result (λ a. covered_by addr a.addr a.size ≡ true)
  pub below : IfOk result (λ a. a.addr.0 ≤ addr.0)
  pub name : IfOk result (λ a. IsNameIn file a.name)
  pub names : IfOk result (λ a. All (λ f. IsNameIn file f.name) (take a.count new))
  pub within : IfOk result (λ a. a.count ≤ length new)
  pub stays : IfOk result (λ a. drop a.count new ≡ drop a.count old)
  pub kept : OnErr result (new ≡ old)
  pub bare : (o.code_info ≡ false) ⊎ (o.inlining ≡ false) → new ≡ old
  pub exact : looked_up result (records_in result new) ≡ lookup_of file addr o (room_of (length old))
