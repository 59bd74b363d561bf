-- Which refusals a lookup can give: without inlining those of 1 to 9 and 15, without code info those of 1 to 6. Those
-- of 10 to 14 are the first fault of one of the entry's blocks, 9 the header's of one of its line tables, 15 either's;
-- and which come from opening, from the search, from the entry.
-- Assumes nothing.
use Rattle.std.proofs.Common.{◌≡◌, ◌≤◌, ◌⊎◌, inl, inr, ⊎_elim, Some, None, Ok, Err, Option, ℕ, true, false, List, []}
use Rattle.std.proofs.Common.{◌∷◌, ◌++◌, refl, ap, arith}
use Rattle.std.specs.List.{All}
use Rattle.gsym_types.specs.declared.Address.{Address}
use Rattle.gsym_types.specs.declared.InlineFrame.{InlineFrame}
use Rattle.gsym_types.specs.declared.Options.{Options}
use Rattle.gsym_types.specs.declared.Refusal.{Refusal}
use Rattle.gsym_types.specs.declared.Refusal.TheVariants.{UnknownAddress, UnreadInfo, UnreadName}
use Rattle.gsym_types.specs.declared.Refusal.TheVariants.{UnreadLineHeader, TooWide}
use Rattle.gsym_types.specs.Refusal.{number_of}
use Rattle.gsym_parser.specs.Unopened.{Unopened, no_magic, other_magic, no_version, other_version, no_header}
use Rattle.gsym_parser.specs.Unopened.{no_offsets, no_files, no_strings}
use Rattle.gsym_parser.specs.View.{View}
use Rattle.gsym_leb128.specs.declared.Cause.{Cause}
use Rattle.gsym_leb128.specs.declared.Cause.TheVariants.{Short, Wide}
use Rattle.gsym_linetab.specs.declared.LineTableRow.{LineTableRow}
use Rattle.gsym_linetab.specs.Unread.{header_refusal}
use Rattle.gsym_parser.specs.Header.{opened_of}
use Rattle.gsym_parser.specs.Search.{find_of, Nowhere}
use Rattle.gsym_parser.specs.Entries.{symbol_at, covered_by}
use Rattle.gsym_parser.specs.Items.{ItemData}
use Rattle.gsym_resolver.specs.EntryData.{data_at, Entered}
use Rattle.gsym_resolver.specs.SharedTables.{SharedTables, shared_tables, HasName}
use Rattle.gsym_resolver.specs.Known.{Question}
use Rattle.gsym_resolver.specs.Lookup.{lookup_of}
use Rattle.gsym_resolver.specs.Met as met
use Rattle.gsym_resolver.specs.Met.{First, GivesNoRow, RowIs, no_row}
use Rattle.gsym_resolver.specs.Met.{GivesNoFrames, FramesAre, no_inlining, no_frames, frames, ItemRefuses}
use Rattle.gsym_resolver.specs.Met.{header, block, FirstRefusing}
use Rattle.gsym_resolver.specs.Met.{NoPosition, no_file, no_dir, no_file_name, NoCall, no_name, no_site}
use Rattle.gsym_resolver.specs.Met.{Unanswered, uncovered, unnamed, unread, unplaced, first_unnamed, uncalled}
use Rattle.gsym_resolver.specs.Met.{entry_question, Met, not_opened, not_found, no_info, by_entry}
use Rattle.gsym_resolver.specs.Blocks.{asked_of, BlockRefuses, RefusedByBlock, HeaderRefuses, RefusedByHeader}
use Rattle.gsym_resolver.proofs.Blocks.{fault_number}
use Rattle.gsym_resolver.proofs.Lookups.{lookup_met}

-- a position is refused with 7 or 8, a later frame with 6, 7 or 8
pub unplaced_number : (t : SharedTables) (i : _) (r : Refusal) → NoPosition t i r → (7 ≤ number_of r) × (number_of r ≤ 8)
unplaced_number t i r (no_file l) = (omega arith, omega arith)
unplaced_number t i r (no_dir f e d) = (omega arith, omega arith)
unplaced_number t i r (no_file_name f e d n) = (omega arith, omega arith)

pub uncalled_number :
    (t : SharedTables) (f : InlineFrame) (r : Refusal) → NoCall t f r → (6 ≤ number_of r) × (number_of r ≤ 8)
uncalled_number t f r (no_name n) = (omega arith, omega arith)
uncalled_number t f r (no_site n u) = let k = unplaced_number t f.call_file r u in (omega (arith, k.0), k.1)

-- an item that refuses: the header of a line table, or the first of the inline blocks that doesn't list none
module _ (q : Question) (items : List ItemData) where
  abbrev pub FirstBlock : Refusal → Type 0
  FirstBlock r = (q.inlining ≡ true) × First (GivesNoFrames q) (BlockRefuses q r) items

  none_listed : (before : List ItemData) (fs : List InlineFrame) → FramesAre q before fs → fs ≡ [] → q.inlining ≡ true →
      All (GivesNoFrames q) before
  none_listed before fs (no_inlining i) e t = absurd cc
  none_listed before fs (no_frames a) e t = a
  none_listed before fs (frames i F) e t = absurd cc

  abbrev pub FirstTable : Refusal → Type 0
  FirstTable r = First (GivesNoRow q) (HeaderRefuses q r) items

  none_given : (before : List ItemData) (known : Option LineTableRow) → RowIs q before known → known ≡ None →
      All (GivesNoRow q) before
  none_given before known (no_row a) e = a
  none_given before known (met.row F) e = absurd cc

  pub item_number : (r : Refusal) → FirstRefusing q items r → FirstTable r ⊎ FirstBlock r
  item_number r F = go r F.before F.this F.after F.split F.known_row F.row_is F.known_frames F.frames_are F.refuses
    where
      go : (x : Refusal) (before : List ItemData) (this : ItemData) (after : List ItemData) →
          items ≡ before ++ this ∷ after →
          (known : Option LineTableRow) → RowIs q before known → (fs : List InlineFrame) → FramesAre q before fs →
          ItemRefuses q known fs this x →
          FirstTable x ⊎ FirstBlock x
      go x before this after s known R fs A (header c n k e) = inl (record {
        before = before;
        this = this;
        after = after;
        split = s;
        each = none_given before known R n;
        holds = (k, (c, e, refl));
      })
      go x before this after s known R fs A (block r i n k f) = inr (
        i,
        record {
          before = before;
          this = this;
          after = after;
          split = s;
          each = none_listed before fs A n i;
          holds = (k, f);
        },
      )

-- ---- opening: 2, 3, 4

abbrev pub OfOpening : Refusal → Type 0
OfOpening r = (2 ≤ number_of r) × (number_of r ≤ 4)

pub opened_number : (file : List ℕ) (r : Refusal) → Unopened file r → OfOpening r
opened_number file r (no_magic l) = (omega arith, omega arith)
opened_number file r (other_magic m e n) = (omega arith, omega arith)
opened_number file r (no_version m l) = (omega arith, omega arith)
opened_number file r (other_version n m e d) = (omega arith, omega arith)
opened_number file r (no_header m v l) = (omega arith, omega arith)
opened_number file r (no_offsets H l) = (omega arith, omega arith)
opened_number file r (no_files n H e l) = (omega arith, omega arith)
opened_number file r (no_strings n H e k l) = (omega arith, omega arith)

-- ---- what each refusal of a lookup comes from, with its number

data Numbered (file : List ℕ) (addr : Address) (o : Options) (room : ℕ) (r : Refusal) : Type 0 where
  is_opening : Unopened file r → OfOpening r → Numbered file addr o room r
  is_nowhere : (v : View) → opened_of file ≡ Ok v → Nowhere v addr → number_of r ≡ 1 → Numbered file addr o room r
  is_uncovered :
      (E : Entered file addr) → covered_by addr (symbol_at E.view E.index) E.entry.size ≡ false → number_of r ≡ 1 →
      Numbered file addr o room r
  is_unread :
      (v : View) (i : ℕ) → opened_of file ≡ Ok v → find_of v addr ≡ Some i → data_at v i ≡ None → number_of r ≡ 5 →
      Numbered file addr o room r
  is_unnamed : (E : Entered file addr) → covered_by addr (symbol_at E.view E.index) E.entry.size ≡ true →
      (HasName (shared_tables E.view) E.entry.name → ⊥) → number_of r ≡ 6 → Numbered file addr o room r
  is_asked : o.code_info ≡ true → 6 ≤ number_of r → number_of r ≤ 8 → Numbered file addr o room r
  is_cut : RefusedByHeader file addr o room r → number_of r ≡ 9 → Numbered file addr o room r
  is_wide : RefusedByHeader file addr o room r → number_of r ≡ 15 → Numbered file addr o room r
  is_block : RefusedByBlock file addr o room r → 10 ≤ number_of r → Numbered file addr o room r

module _ (file : List ℕ) (addr : Address) (o : Options) (room : ℕ) where
  header_numbered : (r : Refusal) (c : Cause) → r ≡ header_refusal c → RefusedByHeader file addr o room r →
      Numbered file addr o room r
  header_numbered r Short e h = is_cut h (ap number_of e)
  header_numbered r Wide e h = is_wide h (ap number_of e)

  entry_numbered :
      (E : Entered file addr) (r : Refusal) →
      Unanswered (entry_question E o room) r → Numbered file addr o room r
  entry_numbered E r (uncovered c) = is_uncovered E c refl
  entry_numbered E r (unnamed c n) = is_unnamed E c n refl
  entry_numbered E r (unread A F) =
      ⊎_elim
      (λ (t : FirstTable (asked_of E o room) E.entry.items r).
      header_numbered r t.holds.1.0 t.holds.1.2 (record { entered = E; asked = A; table = t }))
      (λ (b : FirstBlock (asked_of E o room) E.entry.items r).
      is_block (record { entered = E; asked = A; inlining = b.0; block = b.1 })
      (fault_number (symbol_at E.view E.index).0 addr.0 room b.1.this.bytes r b.1.holds.1).0)
      (item_number (asked_of E o room) E.entry.items r F)
  entry_numbered E r (unplaced row fs G u) =
      let k = unplaced_number (shared_tables E.view) row.file_idx r u in
      is_asked G.asked.code (omega (arith, k.0)) (omega (arith, k.1))
  entry_numbered E r (first_unnamed row f fs G P n) = is_asked G.asked.code (omega arith) (omega arith)
  entry_numbered E r (uncalled row f fs G P n F) =
      let k = uncalled_number (shared_tables E.view) F.this r F.holds in
      is_asked G.asked.code (omega (arith, k.0)) (omega (arith, k.1))

  met_numbered : (r : Refusal) → Met file addr o room r → Numbered file addr o room r
  met_numbered r (not_opened u) = is_opening u (opened_number file r u)
  met_numbered r (not_found v e w) = is_nowhere v e w refl
  met_numbered r (no_info v i e f k) = is_unread v i e f k refl
  met_numbered r (by_entry E u) = entry_numbered E r u

  numbered : (r : Refusal) → lookup_of file addr o room ≡ Err r → Numbered file addr o room r
  numbered r e = met_numbered r (lookup_met file addr o room r e)

  -- 10 to 14 are the first fault of a block
  pub refused_by_block : (r : Refusal) → 10 ≤ number_of r → number_of r ≤ 14 → lookup_of file addr o room ≡ Err r →
      RefusedByBlock file addr o room r
  refused_by_block r l t e = go (numbered r e)
    where
      go : Numbered file addr o room r → RefusedByBlock file addr o room r
      go (is_opening u n) = absurd (omega arith)
      go (is_nowhere v e w n) = absurd (omega arith)
      go (is_uncovered E c n) = absurd (omega arith)
      go (is_unread v i e f k n) = absurd (omega arith)
      go (is_unnamed E c n m) = absurd (omega arith)
      go (is_asked k n m) = absurd (omega arith)
      go (is_cut H n) = absurd (omega arith)
      go (is_wide H n) = absurd (omega arith)
      go (is_block B n) = B

  -- 9 is the header's of a line table
  pub refused_by_header :
      lookup_of file addr o room ≡ Err UnreadLineHeader → RefusedByHeader file addr o room UnreadLineHeader
  refused_by_header e = go (numbered UnreadLineHeader e)
    where
      go : Numbered file addr o room UnreadLineHeader → RefusedByHeader file addr o room UnreadLineHeader
      go (is_opening u n) = absurd (omega arith)
      go (is_nowhere v e w n) = absurd (omega arith)
      go (is_uncovered E c n) = absurd (omega arith)
      go (is_unread v i e f k n) = absurd (omega arith)
      go (is_unnamed E c n m) = absurd (omega arith)
      go (is_asked k n m) = absurd (omega arith)
      go (is_cut H n) = H
      go (is_wide H n) = absurd (omega arith)
      go (is_block B n) = absurd (omega arith)

  -- 15 is the first fault of a block, or the header's of a line table
  abbrev TooWideIn : Type 0
  TooWideIn = RefusedByBlock file addr o room TooWide ⊎ RefusedByHeader file addr o room TooWide

  pub refused_wide : lookup_of file addr o room ≡ Err TooWide → TooWideIn
  refused_wide e = go (numbered TooWide e)
    where
      go : Numbered file addr o room TooWide → TooWideIn
      go (is_opening u n) = absurd (omega arith)
      go (is_nowhere v e w n) = absurd (omega arith)
      go (is_uncovered E c n) = absurd (omega arith)
      go (is_unread v i e f k n) = absurd (omega arith)
      go (is_unnamed E c n m) = absurd (omega arith)
      go (is_asked k n m) = absurd (omega arith)
      go (is_cut H n) = absurd (omega arith)
      go (is_wide H n) = inr H
      go (is_block B n) = inl B

  -- without inlining no inline block refuses
  pub plain_number : o.inlining ≡ false → (r : Refusal) → lookup_of file addr o room ≡ Err r →
      (number_of r ≤ 9) ⊎ (number_of r ≡ 15)
  plain_number i r e = go (numbered r e)
    where
      go : Numbered file addr o room r → (number_of r ≤ 9) ⊎ (number_of r ≡ 15)
      go (is_opening u n) = inl (omega arith)
      go (is_nowhere v e w n) = inl (omega arith)
      go (is_uncovered E c n) = inl (omega arith)
      go (is_unread v i e f k n) = inl (omega arith)
      go (is_unnamed E c n m) = inl (omega arith)
      go (is_asked k n m) = inl (omega arith)
      go (is_cut H n) = inl (omega arith)
      go (is_wide H n) = inr n
      go (is_block B n) = let t = B.inlining in absurd cc

  -- without code info nothing of the list is read
  pub bare_number : o.code_info ≡ false → (r : Refusal) → lookup_of file addr o room ≡ Err r → number_of r ≤ 6
  bare_number k r e = go (numbered r e)
    where
      go : Numbered file addr o room r → number_of r ≤ 6
      go (is_opening u n) = omega arith
      go (is_nowhere v e w n) = omega arith
      go (is_uncovered E c n) = omega arith
      go (is_unread v i e f k n) = omega arith
      go (is_unnamed E c n m) = omega arith
      go (is_asked t n m) = absurd cc
      go (is_cut H n) = let t = H.asked.code in absurd cc
      go (is_wide H n) = let t = H.asked.code in absurd cc
      go (is_block B n) = let t = B.asked.code in absurd cc

  -- ---- which are which; `met_lookup` has the other directions

  -- 2, 3 and 4 are those of opening
  pub refused_opening : (r : Refusal) → OfOpening r → lookup_of file addr o room ≡ Err r → Unopened file r
  refused_opening r h e = go (numbered r e)
    where
      go : Numbered file addr o room r → Unopened file r
      go (is_opening u n) = u
      go (is_nowhere v e w n) = absurd (omega arith)
      go (is_uncovered E c n) = absurd (omega arith)
      go (is_unread v i e f k n) = absurd (omega arith)
      go (is_unnamed E c n m) = absurd (omega arith)
      go (is_asked k n m) = absurd (omega arith)
      go (is_cut H n) = absurd (omega arith)
      go (is_wide H n) = absurd (omega arith)
      go (is_block B n) = absurd (omega arith)

  -- 1: the address is nowhere, or the entry's size doesn't reach it
  abbrev Unknown : Type 0
  Unknown =
      ((v : View) × (opened_of file ≡ Ok v) × Nowhere v addr)
      ⊎ ((E : Entered file addr) × (covered_by addr (symbol_at E.view E.index) E.entry.size ≡ false))

  pub refused_unknown : lookup_of file addr o room ≡ Err UnknownAddress → Unknown
  refused_unknown e = go (numbered UnknownAddress e)
    where
      go : Numbered file addr o room UnknownAddress → Unknown
      go (is_opening u n) = absurd (omega arith)
      go (is_nowhere v e w n) = inl (v, e, w)
      go (is_uncovered E c n) = inr (E, c)
      go (is_unread v i e f k n) = absurd (omega arith)
      go (is_unnamed E c n m) = absurd (omega arith)
      go (is_asked k n m) = absurd (omega arith)
      go (is_cut H n) = absurd (omega arith)
      go (is_wide H n) = absurd (omega arith)
      go (is_block B n) = absurd (omega arith)

  -- 5: the entry's information doesn't read
  abbrev UnreadAt : Type 0
  UnreadAt = (v : View) × (i : ℕ) × (opened_of file ≡ Ok v) × (find_of v addr ≡ Some i) × (data_at v i ≡ None)

  pub refused_info : lookup_of file addr o room ≡ Err UnreadInfo → UnreadAt
  refused_info e = go (numbered UnreadInfo e)
    where
      go : Numbered file addr o room UnreadInfo → UnreadAt
      go (is_opening u n) = absurd (omega arith)
      go (is_nowhere v e w n) = absurd (omega arith)
      go (is_uncovered E c n) = absurd (omega arith)
      go (is_unread v i e f k n) = (v, i, e, f, k)
      go (is_unnamed E c n m) = absurd (omega arith)
      go (is_asked k n m) = absurd (omega arith)
      go (is_cut H n) = absurd (omega arith)
      go (is_wide H n) = absurd (omega arith)
      go (is_block B n) = absurd (omega arith)

  -- 6 without code info: the address is covered, and the symbol's name doesn't read
  abbrev Unnamed : Type 0
  Unnamed =
      (E : Entered file addr) × (covered_by addr (symbol_at E.view E.index) E.entry.size ≡ true)
      × (HasName (shared_tables E.view) E.entry.name → ⊥)

  pub refused_name : o.code_info ≡ false → lookup_of file addr o room ≡ Err UnreadName → Unnamed
  refused_name k e = go (numbered UnreadName e)
    where
      go : Numbered file addr o room UnreadName → Unnamed
      go (is_opening u n) = absurd (omega arith)
      go (is_nowhere v e w n) = absurd (omega arith)
      go (is_uncovered E c n) = absurd (omega arith)
      go (is_unread v i e f k n) = absurd (omega arith)
      go (is_unnamed E c n m) = (E, c, n)
      go (is_asked t n m) = absurd cc
      go (is_cut H n) = absurd (omega arith)
      go (is_wide H n) = absurd (omega arith)
      go (is_block B n) = absurd (omega arith)
