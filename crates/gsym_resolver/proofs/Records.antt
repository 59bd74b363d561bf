-- What every answer has: its symbol covers the address and is not above it; the count is the number of records, which
-- are fewer than the room, since the block's first frame counts too; without inlining or code info there are none.
-- Assumes nothing.
use Rattle.std.proofs.Common.{◌≡◌, ◌≤◌, ◌+◌, ◌⊎◌, inl, inr, ⊎_elim, Ok, ℕ, suc, Bool, true, false, List, [], ◌∷◌, map}
use Rattle.std.proofs.Common.{length, refl, sym, ap, subst, ◌∙◌, arith, ltb, ◌-◌, ◌==◌, nat_lt, if◌then◌else◌}
use Rattle.std.proofs.Math.ListN.{length-map}
use Rattle.std.proofs.lemmas.Bool.{ltb-false}
use Rattle.std.proofs.lemmas.Slice.Zip.{AllZip-long}
use Rattle.gsym_types.specs.declared.Address.{Address}
use Rattle.gsym_types.specs.declared.InlineFrame.{InlineFrame}
use Rattle.gsym_types.specs.declared.Options.{Options}
use Rattle.gsym_parser.specs.Entries.{covered_by}
use Rattle.gsym_resolver.specs.EntryData.{EntryData}
use Rattle.gsym_resolver.specs.SharedTables.{SharedTables, shared_tables}
use Rattle.gsym_resolver.specs.Known.{Question, question}
use Rattle.gsym_resolver.specs.EntryAnswer.{PositionData, CallData, EntryAnswer, calls_moved_up}
use Rattle.gsym_resolver.specs.Lookup.{LookedUp, lookup_of}
use Rattle.gsym_resolver.specs.WithPlaces.{with_places}
use Rattle.gsym_resolver.specs.Met.{EntryQuestion, FramesAre, no_inlining, no_frames, frames}
use Rattle.gsym_resolver.specs.Answered.{on_line, IsCallOf, Says, unasked, rowless, frameless, framed, Answered}
use Rattle.gsym_resolver.proofs.Blocks.{listed_room}
use Rattle.gsym_resolver.proofs.Lookups.{lookup_answered}

-- a symbol that covers an address is not above it
pub covered_below : (addr symbol : Address) (size : ℕ) → covered_by addr symbol size ≡ true → symbol.0 ≤ addr.0
unfolding covered_by
covered_below addr symbol size e = go (ltb addr.0 symbol.0) refl e
  where
    go : (b : Bool) → ltb addr.0 symbol.0 ≡ b →
        (if b then false else (if size == 0 then true else nat_lt (addr.0 - symbol.0) size)) ≡ true → symbol.0 ≤ addr.0
    go true k e = absurd cc
    go false k e = ltb-false _ _ k

length_moved : (row : PositionData) (cs : List CallData) → length (calls_moved_up row cs) ≡ length cs
unfolding calls_moved_up
length_moved row [] = refl
length_moved row (c ∷ cs) = ap suc (length_moved row cs)

-- frames of a block are no more than the room
frames_room : (q : Question) (items : _) (fs : List InlineFrame) → FramesAre q items fs → length fs ≤ q.room
frames_room q items fs (no_inlining i) = omega arith
frames_room q items fs (no_frames a) = omega arith
frames_room q items fs (frames i F) = listed_room q.symbol.0 q.addr.0 q.room F.this.bytes _ F.holds.1

module _ (t : SharedTables) (symbol : Address) (d : EntryData) (addr : Address) (o : Options) (room : ℕ) where
  abbrev asking : EntryQuestion
  asking = record { tables = t; symbol = symbol; entry = d; addr = addr; options = o; room = room }

  says_covered : (a : EntryAnswer) → Says asking a → covered_by addr a.addr a.size ≡ true
  says_covered a (unasked c n k) = c
  says_covered a (rowless fs G) = G.asked.covered
  says_covered a (frameless row G P) = G.asked.covered
  says_covered a (framed row f fs calls G P n k) = G.asked.covered

  says_room : (a : EntryAnswer) → Says asking a → (length a.calls ≡ 0) ⊎ (length a.calls + 1 ≤ room)
  says_room a (unasked c n k) = inl refl
  says_room a (rowless fs G) = inl refl
  says_room a (frameless row G P) = inl refl
  says_room a (framed row f fs calls G P n k) =
      let l = frames_room (question symbol addr room o.inlining) d.items (f ∷ fs) G.frames_are in
      let m = AllZip-long (IsCallOf t) fs calls k in
      let r = length_moved (on_line P.file row.file_line) calls in
      inr (omega arith)

  says_no_calls :
      (a : EntryAnswer) → (o.code_info ≡ false) ⊎ (o.inlining ≡ false) → Says asking a → a.calls ≡ []
  says_no_calls a h (unasked c n k) = refl
  says_no_calls a h (rowless fs G) = refl
  says_no_calls a h (frameless row G P) = refl
  says_no_calls a h (framed row f fs calls G P n k) =
      ⊎_elim
      (λ (x : o.code_info ≡ false). let y = G.asked.code in absurd cc)
      (λ (x : o.inlining ≡ false). absurd (none (f ∷ fs) refl G.frames_are x))
      h
    where
      none : (gs : List InlineFrame) → f ∷ fs ≡ gs → FramesAre (question symbol addr room o.inlining) d.items gs →
          o.inlining ≡ false → ⊥
      none gs e (no_inlining i) x = cc
      none gs e (no_frames a) x = cc
      none gs e (frames i F) x = cc

-- ---- a lookup

module _ (file : List ℕ) (addr : Address) (o : Options) (room : ℕ) (l : LookedUp)
    (e : lookup_of file addr o room ≡ Ok l) where
  abbrev A : Answered file addr o room l
  A = (lookup_answered file addr o room l).0 e

  abbrev put : LookedUp
  put = with_places (shared_tables A.entered.view) A.entered.view.tables.strings.place A.values

  pub lookup_covered : covered_by addr l.answer.addr l.answer.size ≡ true
  unfolding with_places
  lookup_covered =
      subst (λ (x : LookedUp). covered_by addr x.answer.addr x.answer.size ≡ true) (sym A.places)
      (says_covered _ _ A.entered.entry addr o room A.values A.said)

  -- the symbol's address is not above the address
  pub lookup_below : l.answer.addr.0 ≤ addr.0
  lookup_below = covered_below addr l.answer.addr l.answer.size lookup_covered

  pub count_is : l.answer.count ≡ length l.frames
  unfolding with_places
  count_is =
      subst (λ (x : LookedUp). x.answer.count ≡ length x.frames) (sym A.places) (rw length-map)

  pub records_room : (length l.frames ≡ 0) ⊎ (length l.frames + 1 ≤ room)
  unfolding with_places
  records_room =
      subst (λ (x : LookedUp). (length x.frames ≡ 0) ⊎ (length x.frames + 1 ≤ room)) (sym A.places)
      (rw length-map (says_room _ _ A.entered.entry addr o room A.values A.said))

  pub no_records : (o.code_info ≡ false) ⊎ (o.inlining ≡ false) → (l.frames ≡ []) × (l.answer.count ≡ 0)
  unfolding with_places
  no_records h =
      let n = says_no_calls _ _ A.entered.entry addr o room A.values h A.said in
      let f : l.frames ≡ [] = ap (λ (x : LookedUp). x.frames) A.places ∙ ap (map _) n in
      (f, count_is ∙ ap length f)
