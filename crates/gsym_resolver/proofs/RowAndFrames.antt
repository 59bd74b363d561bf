-- Row and frames are independent parts of the items, whatever row and frames are known before: the row is that of the
-- line tables alone, the frames are those of the inline blocks alone, and a refusal is that of one of either.
-- Assumes nothing.
use Rattle.std.proofs.Common.{◌≡◌, ◌⊎◌, inl, inr, Some, None, Ok, Err, Option, ℕ, Bool, true, false, List, [], ◌∷◌}
use Rattle.std.proofs.Common.{◌++◌, refl, sym, ap, subst, ◌∙◌}
use Rattle.std.specs.List.{All}
use Rattle.gsym_reads.proofs.Steps.{ok_is}
use Rattle.gsym_types.specs.declared.InlineFrame.{InlineFrame}
use Rattle.gsym_types.specs.declared.Refusal.{Refusal}
use Rattle.gsym_linetab.specs.declared.LineTableRow.{LineTableRow}
use Rattle.gsym_parser.specs.Items.{ItemData}
use Rattle.gsym_resolver.specs.Known.{Question, question, Known, knowing, read_items}
use Rattle.gsym_resolver.specs.Met.{First, GivesNoRow, GivesNoFrames, GivesFrames}
use Rattle.gsym_resolver.specs.Met.{no_row, row, FramesAre, no_inlining, no_frames, frames}
use Rattle.gsym_resolver.specs.Met.{ItemRefuses, header, block}
use Rattle.gsym_resolver.specs.Blocks.{HeaderRefuses, BlockRefuses}
use Rattle.gsym_resolver.proofs.Items.{RowFrom, FramesFrom, items_known_from, items_refused_from}

module _ (q : Question) where
  -- ---- rows alone

  row_elsewhere :
      (room : ℕ) (inlining : Bool) (r s : Option LineTableRow) (items : List ItemData) → RowFrom q r items s →
      RowFrom (question q.symbol q.addr room inlining) r items s
  row_elsewhere room inlining (Some r) s items h = h
  row_elsewhere room inlining None s items (no_row a) = no_row a
  row_elsewhere room inlining None s items (row F) = row F

  row_read :
      (items : List ItemData) (r s : Option LineTableRow) (room : ℕ) → RowFrom q r items s →
      read_items (question q.symbol q.addr room false) items (knowing r []) ≡ Ok (knowing s [])
  row_read items r s room h =
      (items_known_from (question q.symbol q.addr room false) items (knowing r []) (knowing s [])).1
      (row_elsewhere room false r s items h, no_inlining refl)

  -- the row doesn't depend on whether frames are wanted, on the frames known before, nor on the room for frames
  pub row_without_inlining :
      (items : List ItemData) (r s : Option LineTableRow) (fs gs : List InlineFrame) (room : ℕ) →
      read_items q items (knowing r fs) ≡ Ok (knowing s gs) →
      read_items (question q.symbol q.addr room false) items (knowing r []) ≡ Ok (knowing s [])
  row_without_inlining items r s fs gs room e =
      row_read items r s room ((items_known_from q items (knowing r fs) (knowing s gs)).0 e).0

  -- after any row, no second row or none follows
  pub row_once :
      (items : List ItemData) (r s t : Option LineTableRow) → RowFrom q r items s → RowFrom q r items t → s ≡ t
  row_once items r s t h k =
      ap (λ (l : Known). l.row) (ok_is _ _ (sym (row_read items r s 0 h) ∙ row_read items r t 0 k))

  -- ---- frames alone

  frames_read :
      (items : List ItemData) (fs gs : List InlineFrame) (t : LineTableRow) → FramesFrom q fs items gs →
      read_items q items (knowing (Some t) fs) ≡ Ok (knowing (Some t) gs)
  frames_read items fs gs t h =
      (items_known_from q items (knowing (Some t) fs) (knowing (Some t) gs)).1 (refl, h)

  -- the frames don't depend on the row known before, nor on what line tables give
  pub frames_beside_row :
      (items : List ItemData) (r s : Option LineTableRow) (fs gs : List InlineFrame) (t : LineTableRow) →
      read_items q items (knowing r fs) ≡ Ok (knowing s gs) →
      read_items q items (knowing (Some t) fs) ≡ Ok (knowing (Some t) gs)
  frames_beside_row items r s fs gs t e =
      frames_read items fs gs t ((items_known_from q items (knowing r fs) (knowing s gs)).0 e).1

  -- after any frames, no second list of frames follows
  pub frames_once :
      (items : List ItemData) (fs gs hs : List InlineFrame) → FramesFrom q fs items gs → FramesFrom q fs items hs →
      gs ≡ hs
  frames_once items fs gs hs h k =
      let t : LineTableRow = record { addr = q.addr; file_idx = record { 0 = 0 }; file_line = record { 0 = 0 } } in
      ap (λ (l : Known). l.frames) (ok_is _ _ (sym (frames_read items fs gs t h) ∙ frames_read items fs hs t k))

  -- after any row, frames are those of the first inline block that lists any
  pub frames_listed :
      (items : List ItemData) (r s : Option LineTableRow) (f : InlineFrame) (fs : List InlineFrame) →
      read_items q items (knowing r []) ≡ Ok (knowing s (f ∷ fs)) →
      (q.inlining ≡ true) × First (GivesNoFrames q) (GivesFrames q (f ∷ fs)) items
  frames_listed items r s f fs e =
      go (f ∷ fs) ((items_known_from q items (knowing r []) (knowing s (f ∷ fs))).0 e).1 refl
    where
      go : (gs : List InlineFrame) → FramesAre q items gs → gs ≡ f ∷ fs →
          (q.inlining ≡ true) × First (GivesNoFrames q) (GivesFrames q (f ∷ fs)) items
      go gs (no_inlining i) z = absurd cc
      go gs (no_frames a) z = absurd cc
      go gs (frames i F) z = (i, subst (λ l. First (GivesNoFrames q) (GivesFrames q l) items) z F)

  -- ---- refusals

  -- no row is known before, and the first line table that doesn't give none is refused so
  abbrev pub TableDecides : Option LineTableRow → List ItemData → Refusal → Type 0
  TableDecides r items x = (r ≡ None) × First (GivesNoRow q) (HeaderRefuses q x) items

  -- no frame is known before, inlining is asked for, and the first inline block that doesn't list none is refused so
  abbrev pub BlockDecides : List InlineFrame → List ItemData → Refusal → Type 0
  BlockDecides fs items x =
      (fs ≡ []) × (q.inlining ≡ true) × First (GivesNoFrames q) (BlockRefuses q x) items

  no_row_before :
      (before : List ItemData) (r s : Option LineTableRow) → RowFrom q r before s → s ≡ None →
      (r ≡ None) × All (GivesNoRow q) before
  no_row_before before (Some r) s h e = absurd cc
  no_row_before before None s (no_row a) e = (refl, a)
  no_row_before before None s (row F) e = absurd cc

  no_frames_before :
      (before : List ItemData) (fs gs : List InlineFrame) → FramesFrom q fs before gs → gs ≡ [] →
      q.inlining ≡ true → (fs ≡ []) × All (GivesNoFrames q) before
  no_frames_before before (f ∷ fs) gs h e i = absurd cc
  no_frames_before before [] gs (no_inlining j) e i = absurd cc
  no_frames_before before [] gs (no_frames a) e i = (refl, a)
  no_frames_before before [] gs (frames j F) e i = absurd cc

  -- after any row and frames, a refusal is that of the first line table that doesn't give none, or that of the first
  -- inline block that doesn't list none
  pub refused_apart :
      (items : List ItemData) (r : Option LineTableRow) (fs : List InlineFrame) (x : Refusal) →
      read_items q items (knowing r fs) ≡ Err x → TableDecides r items x ⊎ BlockDecides fs items x
  refused_apart items r fs x e =
      let F = (items_refused_from q items (knowing r fs) x).0 e in
      go x F.before F.this F.after F.split F.known.row F.known.frames F.from.0 F.from.1 F.refuses
    where
      go : (x : Refusal) (before : List ItemData) (this : ItemData) (after : List ItemData) →
          items ≡ before ++ this ∷ after →
          (s : Option LineTableRow) (gs : List InlineFrame) → RowFrom q r before s → FramesFrom q fs before gs →
          ItemRefuses q s gs this x → TableDecides r items x ⊎ BlockDecides fs items x
      go x before this after p s gs R A (header c n k u) =
          let z = no_row_before before r s R n in
          inl (
            z.0,
            record { before = before; this = this; after = after; split = p; each = z.1; holds = (k, (c, u, refl)) },
          )
      go x before this after p s gs R A (block y i n k u) =
          let z = no_frames_before before fs gs A n i in
          inr (
            z.0,
            i,
            record { before = before; this = this; after = after; split = p; each = z.1; holds = (k, u) },
          )

  -- a line table's refusal is given without inlining too, whatever the room and the frames known before
  pub table_refuses_alone :
      (items : List ItemData) (r : Option LineTableRow) (x : Refusal) (room : ℕ) → TableDecides r items x →
      read_items (question q.symbol q.addr room false) items (knowing r []) ≡ Err x
  table_refuses_alone items r x room D =
      let other = question q.symbol q.addr room false in
      let F = D.1 in
      (items_refused_from other items (knowing r []) x).1 (record {
        before = F.before;
        this = F.this;
        after = F.after;
        split = F.split;
        known = knowing r [];
        from = (stays r F.before F.each, no_inlining refl);
        refuses =
            subst (ItemRefuses other r [] F.this) (sym F.holds.1.2) (header F.holds.1.0 D.0 F.holds.0 F.holds.1.1);
      })
    where
      stays :
          (s : Option LineTableRow) (before : List ItemData) → All (GivesNoRow q) before →
          RowFrom (question q.symbol q.addr room false) s before s
      stays (Some t) before a = refl
      stays None before a = no_row a

  -- an inline block's refusal is given after any row too
  pub block_refuses_alone :
      (items : List ItemData) (fs : List InlineFrame) (x : Refusal) (t : LineTableRow) → BlockDecides fs items x →
      read_items q items (knowing (Some t) fs) ≡ Err x
  block_refuses_alone items fs x t D =
      let F = D.2 in
      (items_refused_from q items (knowing (Some t) fs) x).1 (record {
        before = F.before;
        this = F.this;
        after = F.after;
        split = F.split;
        known = knowing (Some t) fs;
        from = (refl, stay fs F.before F.each);
        refuses = block x D.1 D.0 F.holds.0 F.holds.1;
      })
    where
      stay : (gs : List InlineFrame) (before : List ItemData) → All (GivesNoFrames q) before → FramesFrom q gs before gs
      stay (f ∷ gs) before a = refl
      stay [] before a = no_frames a
