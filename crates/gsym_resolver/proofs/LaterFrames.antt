-- The later frames, as the code makes their records: one call at a time.
-- Assumes nothing.
use Rattle.std.proofs.Common.{◌≡◌, ℕ, ◌+◌, ◌<◌, ◌≤◌, List, [], ◌∷◌, ◌++◌, length, drop, get_or, refl, sym, ap, arith}
use Rattle.std.proofs.Common.{Ok, Err, Result, Some, append_assoc}
use Rattle.std.proofs.Math.ListN.{drop_of_length-le}
use Rattle.std.proofs.lemmas.List.{drop_more}
use Rattle.gsym_reads.specs.Steps.{◌>>=◌}
use Rattle.gsym_types.specs.declared.Frame.{Frame}
use Rattle.gsym_types.specs.declared.InlineFrame.{InlineFrame}
use Rattle.gsym_types.specs.declared.Position.{Position}
use Rattle.gsym_types.specs.declared.Refusal.{Refusal}
use Rattle.gsym_types.specs.declared.Text.{Text}
use Rattle.gsym_parser.specs.View.{View}
use Rattle.gsym_parser.specs.Texts.{name_at}
use Rattle.gsym_resolver.specs.Lookup.{Landing, placed, call_at, calls_at, first_position, frame_of, moved_up}
use Rattle.gsym_resolver.specs.Lookup.{later_frames, with_frames}

abbrev with_call : Frame → List Frame → Result (List Frame) Refusal
with_call c cs = Ok (c ∷ cs)

abbrev and_records : Position → List Frame → Result (Position × List Frame) Refusal
and_records p fs = Ok (p, fs)

-- the symbol's position p, and the records of a call with a name, whose own position is moved away, and of the frames
-- behind it, after the records made so far
unfoldable pub later_from :
    View → (row p : Position) → (made : List Frame) → Text → List InlineFrame → Result (Position × List Frame) Refusal
later_from v row p made name fs = calls_at v fs >>= λ calls. Ok (p, made ++ moved_up row (frame_of name row ∷ calls))

first_read :
    (row : Position) (c : Frame) (read : Result (List Frame) Refusal) →
    ((read >>= λ cs. with_call c cs) >>= λ cs. and_records (first_position row cs) (moved_up row cs))
    ≡ (read >>= λ cs. and_records c.position (moved_up row (frame_of c.name row ∷ cs)))
unfolding moved_up
first_read row c (Ok cs) = refl
first_read row c (Err r) = refl

-- the first of them gives the symbol's position
pub later_first :
    (v : View) (row : Position) (f : InlineFrame) (fs : List InlineFrame) (c : Frame) → call_at v f ≡ Ok c →
    later_frames v row (f ∷ fs) ≡ later_from v row c.position [] c.name fs
unfolding later_frames calls_at later_from
later_first v row f fs c h = rw h (first_read row c (calls_at v fs))

step_read :
    (row p : Position) (made : List Frame) (name : Text) (c : Frame) (read : Result (List Frame) Refusal) →
    ((read >>= λ cs. with_call c cs) >>= λ cs. and_records p (made ++ moved_up row (frame_of name row ∷ cs)))
    ≡ (read >>= λ cs. and_records p
    ((made ++ frame_of name c.position ∷ []) ++ moved_up row (frame_of c.name row ∷ cs)))
unfolding moved_up
step_read row p made name c (Ok cs) =
    ap (and_records p)
    (sym (append_assoc made (frame_of name c.position ∷ []) (moved_up row (frame_of c.name row ∷ cs))))
step_read row p made name c (Err r) = refl

-- the call at an index gives its position to the one before it
pub later_step :
    (v : View) (row p : Position) (made : List Frame) (name : Text) (behind : List InlineFrame) (i : ℕ)
    (d : InlineFrame)
    (c : Frame) → i < length behind → call_at v (get_or behind i d) ≡ Ok c →
    later_from v row p made name (drop i behind)
    ≡ later_from v row p (made ++ frame_of name c.position ∷ []) c.name (drop (i + 1) behind)
unfolding calls_at later_from
later_step v row p made name behind i d c l h =
    rw (drop_more behind i d l, h) (step_read row p made name c (calls_at v (drop (i + 1) behind)))

-- one that doesn't read refuses
pub later_refused :
    (v : View) (row p : Position) (made : List Frame) (name : Text) (behind : List InlineFrame) (i : ℕ)
    (d : InlineFrame)
    (r : Refusal) → i < length behind → call_at v (get_or behind i d) ≡ Err r →
    later_from v row p made name (drop i behind) ≡ Err r
unfolding calls_at later_from
later_refused v row p made name behind i d r l h = rw (drop_more behind i d l, h) refl

-- the last gets the row's position
pub later_end :
    (v : View) (row p : Position) (made : List Frame) (name : Text) (behind : List InlineFrame) (i : ℕ) →
    length behind ≤ i → later_from v row p made name (drop i behind) ≡ Ok (p, made ++ frame_of name row ∷ [])
unfolding calls_at later_from moved_up
later_end v row p made name behind i l = rw (drop_of_length-le behind l) refl

-- a refusal of theirs is that of all frames
pub with_refused :
    (v : View) (e : Landing) (row : Position) (fs : List InlineFrame) (f : InlineFrame) (later : List InlineFrame)
    (name : Text)
    (r : Refusal) → fs ≡ f ∷ later → name_at v f.name ≡ Some name → Err r ≡ later_frames v row later →
    Err r ≡ with_frames v e row fs
unfolding with_frames later_frames
with_refused v e row fs f later name r s h k = rw (s, h) (all_refused (calls_at v later) k)
  where
    all_refused :
        (read : Result (List Frame) Refusal) →
        Err r ≡ (read >>= λ cs. and_records (first_position row cs) (moved_up row cs)) →
        Err r ≡ (read >>= λ cs. Ok (placed e name (first_position row cs) (moved_up row cs)))
    all_refused (Ok cs) k = let z : ◌≡◌ {A = ℕ} 0 1 = cc in absurd (omega (arith, z))
    all_refused (Err q) k = cc
