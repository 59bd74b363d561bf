-- Records that go over the first ones of a slice: they are as many as the count, they fit, and the rest stays.
-- Assumes nothing.
use Rattle.std.proofs.Common.{◌≡◌, ◌∙◌, ap, refl, sym, ℕ, suc, ◌≤◌, Ok, Err, Result, IfOk}
use Rattle.std.proofs.Common.{List, [], ◌∷◌, ◌++◌, length, take, drop, arith}
use Rattle.std.proofs.lemmas.List.{take-append-le, take_all}
use Rattle.std.proofs.lemmas.Slice.{drop-append-drop}
use Rattle.gsym_reads.specs.Steps.{given}
use Rattle.gsym_reads.proofs.Steps.{bind_ok, ok_is}
use Rattle.gsym_types.specs.declared.Address.{Address}
use Rattle.gsym_types.specs.declared.Answer.{Answer}
use Rattle.gsym_types.specs.declared.Frame.{Frame}
use Rattle.gsym_types.specs.declared.InlineFrame.{InlineFrame}
use Rattle.gsym_types.specs.declared.Options.{Options}
use Rattle.gsym_types.specs.declared.Position.{Position}
use Rattle.gsym_types.specs.declared.Refusal.{Refusal}
use Rattle.gsym_types.specs.declared.Refusal.TheVariants.{UnreadName}
use Rattle.gsym_parser.specs.View.{View}
use Rattle.gsym_parser.specs.Texts.{name_at}
use Rattle.gsym_resolver.specs.Answered.{Answered}
use Rattle.gsym_resolver.specs.Lookup.{Landing, LookedUp, call_at, calls_at, moved_up, first_position, with_frames}
use Rattle.gsym_resolver.specs.Lookup.{placed, lookup_of, looked_up, records_in}
use Rattle.gsym_resolver.proofs.Calls.{call_answered}

length_moved : (row : Position) (cs : List Frame) → length (moved_up row cs) ≡ length cs
unfolding moved_up
length_moved row [] = refl
length_moved row (c ∷ cs) = ap suc (length_moved row cs)

module _ (v : View) where
  length_calls : (fs : List InlineFrame) (cs : List Frame) → calls_at v fs ≡ Ok cs → length cs ≡ length fs
  unfolding calls_at
  length_calls [] cs e = ap length (sym (ok_is [] cs e))
  length_calls (f ∷ fs) cs e =
      let c = bind_ok (call_at v f) _ cs e in
      let r = bind_ok (calls_at v fs) _ cs c.2 in
      ap length (sym (ok_is _ cs r.2)) ∙ ap suc (length_calls fs r.0 r.1)

  module _ (e : Landing) (row : Position) where
    -- the count is that of the records, which are no more than the frames
    counted :
        (frames : List InlineFrame) (l : LookedUp) → with_frames v e row frames ≡ Ok l →
        (l.answer.count ≡ length l.frames) × (length l.frames ≤ length frames)
    unfolding with_frames
    counted [] l h =
        let q = ok_is (placed e e.name row []) l h in
        let n = ap (λ (x : LookedUp). x.answer.count) q in
        let m = ap (λ (x : LookedUp). length x.frames) q in
        (sym n ∙ m, omega (arith, m))
    counted (f ∷ fs) l h =
        let name = bind_ok (given UnreadName (name_at v f.name)) _ l h in
        let calls = bind_ok (calls_at v fs) _ l name.2 in
        let q = ok_is (placed e name.0 (first_position row calls.0) (moved_up row calls.0)) l calls.2 in
        let n = ap (λ (x : LookedUp). x.answer.count) q in
        let m = ap (λ (x : LookedUp). length x.frames) q in
        let k = length_calls fs calls.0 calls.1 in
        let o = length_moved row calls.0 in
        (sym n ∙ m, omega (arith, m, k, o))

    module _ (frames : List InlineFrame) (a : Answer) (fs : List Frame)
        (h : looked_up (Ok a) fs ≡ with_frames v e row frames) where
      -- they fit where the frames do
      pub placed_fit : length fs ≤ length frames
      placed_fit = (counted frames _ (sym h)).1

      -- they stand at the front, and what stands past them stays
      module _ (old copied : List Frame) (m : ℕ) (p : m ≡ length fs) (q : copied ≡ fs) where
        count : a.count ≡ length fs
        count = (counted frames _ (sym h)).0

        pub placed_stays : drop a.count (copied ++ drop m old) ≡ drop a.count old
        placed_stays = rw (q, p, count) (drop-append-drop (length fs) old fs (length fs) (omega arith) refl)

        pub placed_over : looked_up (Ok a) (take a.count (copied ++ drop m old)) ≡ with_frames v e row frames
        placed_over =
            ap (looked_up (Ok a))
            (rw (q, p, count)
            (take-append-le (length fs) fs (drop (length fs) old) (omega arith) ∙ take_all (length fs) fs (omega arith)))
            ∙ h

-- what an answer over a slice says
pub over_answered :
    (file : List ℕ) (addr : Address) (o : Options) (room : ℕ) (result : Result Answer Refusal) (new : List Frame) →
    looked_up result (records_in result new) ≡ lookup_of file addr o room →
    IfOk result (λ a. Answered file addr o room (record { answer = a; frames = take a.count new }))
over_answered file addr o room (Ok a) new e = call_answered file addr o room (Ok a) (take a.count new) e
over_answered file addr o room (Err r) new e = tt
