-- What lookups in a file that passed may be refused with.
-- Assumes nothing.
use Rattle.std.proofs.Common.{◌≡◌, ◌⊎◌, inl, inr, ⊎_elim, ℕ, ◌≤◌, true, false, Ok, Err, Result, Option}
use Rattle.std.proofs.Common.{Some, None, List, [], ◌∷◌, ◌++◌, refl, sym, ap, subst, ◌∙◌, arith, mod-eq_of_lt}
use Rattle.std.specs.List.{All}
use Rattle.std.proofs.lemmas.List.Elements.{All-head, All-tail}
use Rattle.gsym_types.specs.declared.Address.{Address}
use Rattle.gsym_types.specs.declared.FileIndex.{FileIndex}
use Rattle.gsym_types.specs.declared.InlineFrame.{InlineFrame}
use Rattle.gsym_types.specs.declared.Options.{Options}
use Rattle.gsym_types.specs.declared.Refusal.{Refusal}
use Rattle.gsym_types.specs.Refusal.{number_of}
use Rattle.gsym_leb128.specs.declared.Cause.{Cause}
use Rattle.gsym_linetab.specs.Endings.{EndsInFull, LineInFull}
use Rattle.gsym_linetab.specs.Unread.{IsUnread}
use Rattle.gsym_linetab.specs.declared.LineTableRow.{LineTableRow}
use Rattle.gsym_linetab.proofs.Endings.{end_full, end_unread}
use Rattle.gsym_inline.proofs.FullBlocks.{full_fault}
use Rattle.gsym_parser.specs.View.{View}
use Rattle.gsym_parser.specs.Header.{opened_of}
use Rattle.gsym_parser.specs.Search.{find_of}
use Rattle.gsym_parser.specs.Entries.{symbol_at}
use Rattle.gsym_parser.specs.Items.{ItemData}
use Rattle.gsym_parser.proofs.Symbols.{find-below-count}
use Rattle.gsym_parser.proofs.Unopened.{opened_refused}
use Rattle.gsym_resolver.specs.EntryData.{EntryData, data_at, Entered}
use Rattle.gsym_resolver.specs.Known.{Question}
use Rattle.gsym_resolver.specs.Lookup.{lookup_of}
use Rattle.gsym_resolver.specs.Met.{FramesAre, frames}
use Rattle.gsym_resolver.specs.Met.{Met, not_opened, not_found, no_info, by_entry, Unanswered, uncovered, unnamed, unread, unplaced, first_unnamed, uncalled, entry_question, items_question, ItemRefuses, header, block, NoPosition, no_file, no_dir, no_file_name, NoCall, no_name, no_site}
use Rattle.gsym_resolver.specs.SharedTables.{SharedTables, shared_tables}
use Rattle.gsym_resolver.proofs.Lookups.{lookup_met}
use Rattle.gsym_verify.specs.Good.{GoodItem, GoodData, Good, start_of}
use Rattle.gsym_verify.specs.Passed.{IsOfPosition, IsOfCodeInfo}

-- ---- an item

-- one of a list of which something holds of each
middle : {A : Type 0} (P : A → Type 0) (before : List A) (x : A) (after : List A) → All P (before ++ x ∷ after) → P x
middle P [] x after a = All-head P x after a
middle P (b ∷ bs) x after a = middle P bs x after (All-tail P b (bs ++ x ∷ after) a)

-- a line table that reads in full has a header that reads
header-reads : (symbol : Address) (bytes : List ℕ) (c : Cause) → LineInFull symbol bytes → IsUnread bytes 0 c → ⊥
header-reads symbol bytes c L u =
    let w = (end_full bytes symbol _ refl).1 L in
    subst EndsInFull ((end_unread bytes symbol _ refl c).1 u) w

-- an item that reads in full refuses no lookup but one with inlining, for more frames than room
item-refuses :
    (q : Question) (known : Option LineTableRow) (fs : List InlineFrame) (item : ItemData) (r : Refusal) →
    GoodItem q.symbol item → ItemRefuses q known fs item r → (q.inlining ≡ true) × (number_of r ≡ 14)
item-refuses q known fs item r G (header c n k u) = absurd (header-reads q.symbol item.bytes c (G.line k) u)
item-refuses q known fs item r G (block s i n k f) =
    (i, ap number_of (full_fault q.symbol.0 item.bytes (G.inlined k) q.addr.0 q.room s f))

-- frames are known only with inlining
frames-asked :
    (q : Question) (items : List ItemData) (f : InlineFrame) (fs : List InlineFrame) → FramesAre q items (f ∷ fs) →
    q.inlining ≡ true
frames-asked q items f fs (frames e F) = e

-- ---- positions and calls

position-number :
    (t : SharedTables) (index : FileIndex) (r : Refusal) → NoPosition t index r → (7 ≤ number_of r) × (number_of r ≤ 8)
position-number t index r (no_file l) = (omega arith, omega arith)
position-number t index r (no_dir file e n) = (omega arith, omega arith)
position-number t index r (no_file_name file e d n) = (omega arith, omega arith)

call-number :
    (t : SharedTables) (f : InlineFrame) (r : Refusal) → NoCall t f r → (6 ≤ number_of r) × (number_of r ≤ 8)
call-number t f r (no_name n) = (omega arith, omega arith)
call-number t f r (no_site {r = s} n p) = let k = position-number t f.call_file s p in (omega (arith, k.0), k.1)

-- ---- a lookup

-- 1; with code info also 7 and 8; with inlining too also 6 and 14
abbrev Left : Options → Refusal → Type 0
Left o r =
    (number_of r ≡ 1) ⊎ ((o.code_info ≡ true) × (IsOfPosition r ⊎ ((o.inlining ≡ true) × IsOfCodeInfo r)))

module _ (file : List ℕ) (G : Good file) (addr : Address) (o : Options) (room : ℕ) where
  same-view : (v : View) → opened_of file ≡ Ok v → G.view ≡ v
  same-view v e = let z : ◌≡◌ {A = Result View Refusal} (Ok G.view) (Ok v) = sym G.opens ∙ e in cc

  -- what the entry that an address lands on says is good
  landed : (v : View) (i : ℕ) (said : EntryData) → opened_of file ≡ Ok v → find_of v addr ≡ Some i →
      data_at v i ≡ Some said → GoodData (shared_tables v) (start_of v i) said
  landed v i said e f d =
      let q = same-view v e in
      let g = G.entries i (find-below-count G.view addr i (subst (λ (w : View). find_of w addr ≡ Some i) (sym q) f)) in
      let z : g.said ≡ said =
      (let y : ◌≡◌ {A = Option EntryData} (Some g.said) (Some said) =
      sym g.reads ∙ subst (λ (w : View). data_at w i ≡ Some said) (sym q) d in
      cc)
      in
      subst (λ (w : View). GoodData (shared_tables w) (start_of w i) said) q
      (subst (GoodData (shared_tables G.view) (start_of G.view i)) z g.good)

  -- and so it is said of the symbol's address
  symbol-is : (v : View) (i : ℕ) (said : EntryData) → GoodData (shared_tables v) (start_of v i) said →
      record { 0 = start_of v i } ≡ symbol_at v i
  unfolding symbol_at
  symbol-is v i said g =
      ap (λ (n : ℕ). record { 0 = n }) (sym (mod-eq_of_lt (omega (arith, g.sum))))

  by-entry :
      (E : Entered file addr) (r : Refusal) → Unanswered (entry_question E o room) r → Left o r
  by-entry E r u = go r (landed E.view E.index E.entry E.opens E.finds E.reads) u
    where
      go :
          (r : Refusal) → GoodData (shared_tables E.view) (start_of E.view E.index) E.entry →
          Unanswered (entry_question E o room) r → Left o r
      go r g (uncovered c) = inl refl
      go r g (unnamed c n) = absurd (n g.named)
      go r g (unread A F) =
          let a = subst (λ (s : Address). All (GoodItem s) E.entry.items)
          (symbol-is E.view E.index E.entry g) g.items in
          let i = item-refuses (items_question (entry_question E o room)) F.known_row F.known_frames F.this r
          (middle (GoodItem (symbol_at E.view E.index)) F.before F.this F.after
          (subst (All (GoodItem (symbol_at E.view E.index))) F.split a))
          F.refuses in
          inr (A.code, inr (i.0, inr i.1))
      go r g (unplaced row fs I n) =
          let k = position-number (shared_tables E.view) row.file_idx r n in
          inr (I.asked.code, inl k)
      go r g (first_unnamed row f fs I p n) =
          let i = frames-asked (items_question (entry_question E o room)) E.entry.items f fs I.frames_are in
          inr (I.asked.code, inr (i, inl (omega arith, omega arith)))
      go r g (uncalled row f fs I p n F) =
          let i = frames-asked (items_question (entry_question E o room)) E.entry.items f fs I.frames_are in
          inr (I.asked.code, inr (i, inl (call-number (shared_tables E.view) F.this r F.holds)))

  left_of : (r : Refusal) → Met file addr o room r → Left o r
  left_of r (not_opened u) =
      let z : ◌≡◌ {A = Result View Refusal} (Ok G.view) (Err r) = sym G.opens ∙ (opened_refused file r).1 u in
      absurd cc
  left_of r (not_found v e w) = inl refl
  left_of r (no_info v i e f d) =
      let q = same-view v e in
      let g = G.entries i (find-below-count G.view addr i (subst (λ (w : View). find_of w addr ≡ Some i) (sym q) f)) in
      let z : ◌≡◌ {A = Option EntryData} (Some g.said) None =
      sym g.reads ∙ subst (λ (w : View). data_at w i ≡ None) (sym q) d in
      absurd cc
  left_of r (by_entry E u) = by-entry E r u

  pub passed_plain : o.code_info ≡ false → (r : Refusal) → lookup_of file addr o room ≡ Err r → number_of r ≡ 1
  passed_plain k r e =
      ⊎_elim
      (λ (n : number_of r ≡ 1). n)
      (λ (p : (o.code_info ≡ true) × (IsOfPosition r ⊎ ((o.inlining ≡ true) × IsOfCodeInfo r))).
      absurd cc (sym k ∙ p.0))
      (left_of r (lookup_met file addr o room r e))

  pub passed_positions :
      o.inlining ≡ false → (r : Refusal) → lookup_of file addr o room ≡ Err r → (number_of r ≡ 1) ⊎ IsOfPosition r
  passed_positions k r e =
      ⊎_elim
      (λ (n : number_of r ≡ 1). inl n)
      (λ (p : (o.code_info ≡ true) × (IsOfPosition r ⊎ ((o.inlining ≡ true) × IsOfCodeInfo r))).
      ⊎_elim
      (λ (q : IsOfPosition r). inr q)
      (λ (q : (o.inlining ≡ true) × IsOfCodeInfo r). absurd cc (sym k ∙ q.0))
      p.1)
      (left_of r (lookup_met file addr o room r e))

  pub passed_code : (r : Refusal) → lookup_of file addr o room ≡ Err r → (number_of r ≡ 1) ⊎ IsOfCodeInfo r
  passed_code r e =
      ⊎_elim
      (λ (n : number_of r ≡ 1). inl n)
      (λ (p : (o.code_info ≡ true) × (IsOfPosition r ⊎ ((o.inlining ≡ true) × IsOfCodeInfo r))).
      ⊎_elim
      (λ (q : IsOfPosition r). inr (inl (omega (arith, q.0), q.1)))
      (λ (q : (o.inlining ≡ true) × IsOfCodeInfo r). inr q.1)
      p.1)
      (left_of r (lookup_met file addr o room r e))
