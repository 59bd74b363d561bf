-- What `lookup` promises follows from its equation with the definition, and from what it leaves of the list.
-- Assumes nothing.
use Rattle.std.proofs.Common.{◌≡◌, ◌↔◌, ◌∙◌, ap, sym, refl, ℕ, ◌⊎◌, ◌&&◌, false, Ok, Err, Result, IsOk, IfOk, OnErr}
use Rattle.std.proofs.Common.{List, [], length, length-take, take, drop, arith}
use Rattle.std.specs.Result.{IsErrOf}
use Rattle.gsym_types.specs.declared.Address.{Address}
use Rattle.gsym_types.specs.declared.Answer.{Answer}
use Rattle.gsym_types.specs.declared.Frame.{Frame}
use Rattle.gsym_types.specs.declared.Options.{Options}
use Rattle.gsym_types.specs.declared.Refusal.{Refusal}
use Rattle.gsym_inline.specs.Block.{room_of}
use Rattle.gsym_resolver.specs.Lookup.{lookup_of, looked_up, plain_options}
use Rattle.gsym_resolver.specs.Met.{Met}
use Rattle.gsym_resolver.proofs.Unasked.{lookup_unasked}
use Rattle.gsym_resolver.proofs.Calls.{call_refused, call_blocks, call_answered, call_listed, call_covers, call_below}
use Rattle.gsym_resolver.proofs.Calls.{call_count, call_header, call_wide, call_bare, call_plain}
use Rattle.gsym.specs.Lookups.{records_in, MeetsLookup}
use Rattle.gsym.proofs.Named.{lookup_named}

-- refused exactly where a condition is met, there is an answer exactly where none is
answered_unmet :
    (result : Result Answer Refusal) (M : Refusal → Type 0) → ((r : Refusal) → IsErrOf result r ↔ M r) →
    IsOk result ↔ ((r : Refusal) → M r → ⊥)
answered_unmet (Ok a) M h = (λ _ r m. let e = (h r).1 m in cc, λ _. refl)
answered_unmet (Err r) M h = (λ e. absurd cc, λ none. absurd (none r ((h r).0 refl)))

pub promised :
    (file : List ℕ) (addr : Address) (o : Options) (result : Result Answer Refusal) (old new : List Frame) →
    looked_up result (records_in result new) ≡ lookup_of file addr o (room_of (length old)) →
    IfOk result (λ a. drop a.count new ≡ drop a.count old) → OnErr result (new ≡ old) →
    ((o.code_info ≡ false) ⊎ (o.inlining ≡ false) → new ≡ old) → MeetsLookup file addr o result old new
promised file addr o (Ok a) old new e stays kept bare =
    let room = room_of (length old) in
    let count : a.count ≡ length (take a.count new) = call_count file addr o room (Ok a) (take a.count new) e in
    let refused = call_refused file addr o room (Ok a) (take a.count new) e in
    let named = lookup_named file addr o room (record { answer = a; frames = take a.count new }) (sym e) in
    record {
      refused = refused;
      unmet = answered_unmet (Ok a) (Met file addr o room) refused;
      blocks = tt;
      header = λ z. absurd cc;
      wide = λ z. absurd cc;
      no_code_info = λ i. tt;
      no_inlining = λ i. tt;
      answered = call_answered file addr o room (Ok a) (take a.count new) e;
      listed = λ l. call_listed file addr o room (Ok a) (take a.count new) e (omega (arith, count));
      covered = call_covers file addr o room (Ok a) (take a.count new) e;
      below = call_below file addr o room (Ok a) (take a.count new) e;
      name = named.0;
      names = named.1;
      within = omega (arith, count, length-take a.count new);
      stays = stays;
      kept = kept;
      bare = bare;
      exact = e;
    }
promised file addr o (Err r) old new e stays kept bare =
    let room = room_of (length old) in
    let refused = call_refused file addr o room (Err r) [] e in
    record {
      refused = refused;
      unmet = answered_unmet (Err r) (Met file addr o room) refused;
      blocks = call_blocks file addr o room (Err r) [] e;
      header = call_header file addr o room (Err r) [] e;
      wide = call_wide file addr o room (Err r) [] e;
      no_code_info = call_bare file addr o room (Err r) [] e;
      no_inlining = call_plain file addr o room (Err r) [] e;
      answered = tt;
      listed = tt;
      covered = tt;
      below = tt;
      name = tt;
      names = tt;
      within = tt;
      stays = tt;
      kept = kept;
      bare = bare;
      exact = e;
    }

-- a lookup without both options has no records, whatever the room
module _ (file : List ℕ) (addr : Address) (o : Options) (result : Result Answer Refusal) (frames : List Frame)
    (e : looked_up result [] ≡ lookup_of file addr (plain_options o.code_info) 0) where
  pub plain_exact :
      (o.code_info && o.inlining) ≡ false →
      looked_up result (records_in result frames) ≡ lookup_of file addr o (room_of (length frames))
  plain_exact h = go result e ∙ sym (lookup_unasked file addr o.code_info o.inlining (room_of (length frames)) h)
    where
      go :
          (x : Result Answer Refusal) → looked_up x [] ≡ lookup_of file addr (plain_options o.code_info) 0 →
          looked_up x (records_in x frames) ≡ lookup_of file addr (plain_options o.code_info) 0
      go (Ok a) e =
          let n : a.count ≡ 0 = call_count file addr (plain_options o.code_info) 0 (Ok a) [] e in
          ap (looked_up (Ok a)) (ap (λ n. take n frames) n) ∙ e
      go (Err r) e = e
