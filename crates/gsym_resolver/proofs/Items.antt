-- What reading the items of a list comes to, in RULES' words: the row and the frames that they give, or the first item
-- that refuses.
-- Assumes nothing.
use Rattle.std.proofs.Common.{◌≡◌, ◌↔◌, Some, None, Ok, Err, Option, Result, ℕ, Bool, true, false, List, [], ◌∷◌}
use Rattle.std.proofs.Common.{◌++◌, ⊎_elim, arith, refl, sym, ap, subst, ◌∙◌, eqb, eqb-true, eq-eqb}
use Rattle.std.proofs.lemmas.Bool.{eqb-false}
use Rattle.std.proofs.lemmas.List.{append-nil}
use Rattle.std.proofs.lemmas.List.Elements.{All-nil, All-cons, All-head, All-tail}
use Rattle.gsym_reads.specs.Steps.{◌>>=◌, told}
use Rattle.gsym_reads.proofs.Steps.{through}
use Rattle.gsym_leb128.specs.declared.Cause.{Cause}
use Rattle.gsym_types.specs.declared.InlineFrame.{InlineFrame}
use Rattle.gsym_types.specs.declared.Refusal.{Refusal}
use Rattle.gsym_linetab.specs.declared.LineTableRow.{LineTableRow}
use Rattle.gsym_linetab.specs.declared.LineTableHeader.{LineTableHeader}
use Rattle.gsym_linetab.specs.Machine.{header_of, start_row}
use Rattle.gsym_linetab.specs.Unread.{IsUnread, header_refusal}
use Rattle.gsym_linetab.proofs.Unread.{header_refused}
use Rattle.gsym_linetab.specs.Rows.{run_of, row_in, table_of, line_row}
use Rattle.gsym_types.specs.declared.Address.{Address}
use Rattle.gsym_inline.specs.Block.{Block, block_of}
use Rattle.gsym_inline.specs.FirstFault.{FirstFault}
use Rattle.gsym_inline.specs.Steps.{steps_of}
use Rattle.gsym_inline.specs.ListsFrames.{ListsFrames}
use Rattle.gsym_parser.specs.Items.{ItemData}
use Rattle.gsym_resolver.specs.Known.{Question, question, Known, knowing, nothing, row_after, frames_after, read_items}
use Rattle.gsym_resolver.specs.Met.{First, TableGives, GivesNoRow, GivesRow, GivesNoFrames, GivesFrames}
use Rattle.gsym_resolver.specs.Met.{RowIs, no_row, row, FramesAre, no_inlining, no_frames, frames}
use Rattle.gsym_resolver.specs.Met.{ItemRefuses, header, block, FirstRefusing}
use Rattle.gsym_reads.proofs.Steps.{by_choice}
use Rattle.gsym_resolver.proofs.Firsts.{first_here, first_later, first_cases, first_none}
use Rattle.gsym_resolver.proofs.Blocks.{block_listed, block_refused}
use Rattle.gsym_resolver.proofs.TableRows.{table_row}

-- a line table doesn't read exactly if its header doesn't
pub header_unread :
    (bytes : List ℕ) (symbol addr : Address) (c : Cause) → IsUnread bytes 0 c ↔ (line_row bytes symbol addr ≡ Err c)
unfolding line_row table_of
header_unread bytes symbol addr c = (
  λ h. let e = (header_refused bytes 0 (header_of bytes 0) refl c).1 h in rw e,
  λ e. (header_refused bytes 0 (header_of bytes 0) refl c).0 (go (header_of bytes 0) e),
)
  where
    go : (x : Result (LineTableHeader × ℕ) Cause) →
        ((x >>= λ p. Ok (run_of p.0 bytes (record { row = start_row p.0 symbol; at = p.1 })))
        >>= λ ran. Ok (row_in ran addr)) ≡ Err c →
        x ≡ Err c
    go (Ok p) e = absurd cc
    go (Err d) e = cc

module _ (q : Question) where
  -- ---- rows

  -- the row after items: one that is known stays
  abbrev pub RowFrom : Option LineTableRow → List ItemData → Option LineTableRow → Type 0
  RowFrom (Some r) items s = s ≡ Some r
  RowFrom None items s = RowIs q items s

  row_end : (r : Option LineTableRow) → RowFrom r [] r
  row_end (Some r) = refl
  row_end None = no_row (All-nil (GivesNoRow q))

  row_ended : (r s : Option LineTableRow) → RowFrom r [] s → r ≡ s
  row_ended (Some r) s e = sym e
  row_ended None s (no_row a) = refl
  row_ended None s (row F) = absurd (first_none _ _ F)

  module _ (item : ItemData) (items : List ItemData) where
    row_later : (s : Option LineTableRow) → GivesNoRow q item → RowIs q items s → RowIs q (item ∷ items) s
    row_later s n (no_row a) = no_row (All-cons (GivesNoRow q) item items n a)
    row_later s n (row F) = row (first_later _ _ item items n F)

    abbrev table : (s : Option LineTableRow) →
        (line_row item.bytes q.symbol q.addr ≡ Ok s) ↔ TableGives q.symbol q.addr item.bytes s
    table s = table_row q.symbol q.addr item.bytes s

    -- what an item gives while no row is known
    abbrev RowGiven : Result (Option LineTableRow) Refusal → Type 0
    RowGiven (Ok None) = GivesNoRow q item
    RowGiven (Ok (Some r)) = GivesRow q r item
    RowGiven (Err x) =
        (item.kind ≡ 1) × ((c : Cause) × (x ≡ header_refusal c) × IsUnread item.bytes 0 c)

    row_given : RowGiven (row_after q item None)
    row_given =
        by_choice RowGiven (eqb item.kind 1) _ _
        (λ k. line (eqb-true item.kind 1 k) (line_row item.bytes q.symbol q.addr) refl)
        (λ k z. absurd (eqb-false item.kind 1 k z))
      where
        line : item.kind ≡ 1 → (l : Result (Option LineTableRow) Cause) → line_row item.bytes q.symbol q.addr ≡ l →
            RowGiven (told header_refusal l)
        line k (Ok None) m = λ z. (table None).0 m
        line k (Ok (Some r)) m = (k, (table (Some r)).0 m)
        line k (Err c) m = (k, (c, refl, (header_unread item.bytes q.symbol q.addr c).1 m))

    row_back : (r s known : Option LineTableRow) → row_after q item r ≡ Ok known → RowFrom known items s →
        RowFrom r (item ∷ items) s
    row_back (Some r) s known e h = let k : known ≡ Some r = cc in subst (λ x. RowFrom x items s) k h
    row_back None s known e h = go known (subst RowGiven e row_given) h
      where
        go : (k : Option LineTableRow) → RowGiven (Ok k) → RowFrom k items s → RowIs q (item ∷ items) s
        go None n h = row_later s n h
        go (Some r) g h = subst (RowIs q (item ∷ items)) (sym h) (row (first_here _ _ item items g))

    row_refuses : (r : Option LineTableRow) (fs : List InlineFrame) (x : Refusal) → row_after q item r ≡ Err x →
        ItemRefuses q r fs item x
    row_refuses (Some r) fs x e = absurd cc
    row_refuses None fs x e =
        let g = subst RowGiven e row_given in
        subst (ItemRefuses q None fs item) (sym g.1.1) (header g.1.0 refl g.0 g.1.2)

    row_pass : GivesNoRow q item → row_after q item None ≡ Ok None
    row_pass n =
        by_choice (λ x. x ≡ Ok None) (eqb item.kind 1) _ _
        (λ k. rw ((table None).1 (n (eqb-true item.kind 1 k)))) (λ k. refl)

    abbrev RowNext : Option LineTableRow → Option LineTableRow → Type 0
    RowNext r s = (known : Option LineTableRow) × (row_after q item r ≡ Ok known) × RowFrom known items s

    row_next : (r s : Option LineTableRow) → RowFrom r (item ∷ items) s → RowNext r s
    row_next (Some r) s e = (Some r, refl, e)
    row_next None s (no_row a) =
        (None, row_pass (All-head (GivesNoRow q) item items a), no_row (All-tail (GivesNoRow q) item items a))
    row_next None s (row {r = r} F) =
        ⊎_elim
        (λ (h : GivesRow q r item). (Some r, rw (eq-eqb item.kind 1 h.0, (table (Some r)).1 h.1), refl))
        (λ (h : GivesNoRow q item × First (GivesNoRow q) (GivesRow q r) items). (None, row_pass h.0, row h.1))
        (first_cases _ _ item items F)

  -- ---- frames

  -- the frames after items: those that are known stay
  abbrev pub FramesFrom : List InlineFrame → List ItemData → List InlineFrame → Type 0
  FramesFrom (f ∷ fs) items gs = gs ≡ f ∷ fs
  FramesFrom [] items gs = FramesAre q items gs

  frames_end : (fs : List InlineFrame) → FramesFrom fs [] fs
  frames_end (f ∷ fs) = refl
  frames_end [] = no_frames (All-nil (GivesNoFrames q))

  frames_ended : (fs gs : List InlineFrame) → FramesFrom fs [] gs → fs ≡ gs
  frames_ended (f ∷ fs) gs e = sym e
  frames_ended [] gs (no_inlining i) = refl
  frames_ended [] gs (no_frames a) = refl
  frames_ended [] gs (frames i F) = absurd (first_none _ _ F)

  module _ (item : ItemData) (items : List ItemData) where
    abbrev gives_frames : Block
    gives_frames = block_of q.symbol.0 q.addr.0 q.room item.bytes

    abbrev lists :
        (fs : List InlineFrame) → (gives_frames ≡ Ok fs) ↔ ListsFrames q.symbol.0 q.addr.0 q.room item.bytes fs
    lists fs = block_listed q.symbol.0 q.addr.0 q.room item.bytes fs

    -- an item of which no frames come, if inlining is asked for
    frames_later : (gs : List InlineFrame) → (q.inlining ≡ true → GivesNoFrames q item) → FramesAre q items gs →
        FramesAre q (item ∷ items) gs
    frames_later gs n (no_inlining i) = no_inlining i
    frames_later gs n (no_frames a) = go q.inlining refl
      where
        go : (b : Bool) → q.inlining ≡ b → FramesAre q (item ∷ items) []
        go true i = no_frames (All-cons (GivesNoFrames q) item items (n i) a)
        go false i = no_inlining i
    frames_later gs n (frames i F) = frames i (first_later _ _ item items (n i) F)

    -- what an item gives while no frame is known
    abbrev FramesGiven : Block → Type 0
    FramesGiven (Ok []) = q.inlining ≡ true → GivesNoFrames q item
    FramesGiven (Ok (f ∷ fs)) = (q.inlining ≡ true) × GivesFrames q (f ∷ fs) item
    FramesGiven (Err x) =
        (q.inlining ≡ true) × (item.kind ≡ 2) × FirstFault q.room (steps_of q.symbol.0 q.addr.0 item.bytes) x

    frames_given : FramesGiven (frames_after q item [])
    frames_given =
        by_choice FramesGiven (eqb item.kind 2) _ _
        (λ k. by_choice FramesGiven q.inlining _ _ (λ i. inline (eqb-true item.kind 2 k) i gives_frames refl)
        (λ i j. absurd cc))
        (λ k i z. absurd (eqb-false item.kind 2 k z))
      where
        inline : item.kind ≡ 2 → q.inlining ≡ true → (l : Block) → gives_frames ≡ l → FramesGiven l
        inline k i (Ok []) m = λ _ _. (lists []).0 m
        inline k i (Ok (f ∷ fs)) m = (i, (k, (lists (f ∷ fs)).0 m))
        inline k i (Err x) m = (i, k, (block_refused q.symbol.0 q.addr.0 q.room item.bytes x).0 m)

    frames_back : (fs gs known : List InlineFrame) → frames_after q item fs ≡ Ok known → FramesFrom known items gs →
        FramesFrom fs (item ∷ items) gs
    frames_back (f ∷ fs) gs known e h = let k : known ≡ f ∷ fs = cc in subst (λ x. FramesFrom x items gs) k h
    frames_back [] gs known e h = go known (subst FramesGiven e frames_given) h
      where
        go : (k : List InlineFrame) → FramesGiven (Ok k) → FramesFrom k items gs → FramesAre q (item ∷ items) gs
        go [] n h = frames_later gs n h
        go (f ∷ fs) g h = subst (FramesAre q (item ∷ items)) (sym h) (frames g.0 (first_here _ _ item items g.1))

    frames_refuse : (r : Option LineTableRow) (fs : List InlineFrame) (x : Refusal) → frames_after q item fs ≡ Err x →
        ItemRefuses q r fs item x
    frames_refuse r (f ∷ fs) x e = absurd cc
    frames_refuse r [] x e = let g = subst FramesGiven e frames_given in block x g.0 refl g.1 g.2

    frames_pass : (q.inlining ≡ true → GivesNoFrames q item) → frames_after q item [] ≡ Ok []
    frames_pass n =
        by_choice (λ x. x ≡ Ok []) (eqb item.kind 2) _ _
        (λ k. by_choice (λ x. x ≡ Ok []) q.inlining _ _ (λ i. (lists []).1 (n i (eqb-true item.kind 2 k))) (λ i. refl))
        (λ k. refl)

    abbrev FramesNext : List InlineFrame → List InlineFrame → Type 0
    FramesNext fs gs = (known : List InlineFrame) × (frames_after q item fs ≡ Ok known) × FramesFrom known items gs

    frames_next : (fs gs : List InlineFrame) → FramesFrom fs (item ∷ items) gs → FramesNext fs gs
    frames_next (f ∷ fs) gs e = (f ∷ fs, refl, e)
    frames_next [] gs (no_inlining i) = ([], frames_pass (λ t. absurd cc), no_inlining i)
    frames_next [] gs (no_frames a) = (
      [],
      frames_pass (λ _. All-head (GivesNoFrames q) item items a),
      no_frames (All-tail (GivesNoFrames q) item items a),
    )
    frames_next [] gs (frames {f = f} {fs = fs} i F) =
        ⊎_elim
        (λ (h : GivesFrames q (f ∷ fs) item). (f ∷ fs, rw (eq-eqb item.kind 2 h.0, i) ((lists (f ∷ fs)).1 h.1), refl))
        (λ (h : GivesNoFrames q item × First (GivesNoFrames q) (GivesFrames q (f ∷ fs)) items).
        ([], frames_pass (λ _. h.0), frames i h.1))
        (first_cases _ _ item items F)

  -- ---- both, in list order

  -- what is known after items, from what is known before
  abbrev pub KnownFrom : Known → List ItemData → Known → Type 0
  KnownFrom k items l = RowFrom k.row items l.row × FramesFrom k.frames items l.frames

  -- the first item that refuses, from what is known before them: those before it are read
  pub record FirstRefusingFrom (k : Known) (items : List ItemData) (r : Refusal) : Type 0 where
    pub before : List ItemData
    pub this : ItemData
    pub after : List ItemData
    pub split : items ≡ before ++ this ∷ after
    pub known : Known
    pub from : KnownFrom k before known
    pub refuses : ItemRefuses q known.row known.frames this r

  abbrev ItemsOutcome : Known → List ItemData → Result Known Refusal → Type 0
  ItemsOutcome k items (Ok l) = KnownFrom k items l
  ItemsOutcome k items (Err r) = FirstRefusingFrom k items r

  read_outcome : (items : List ItemData) (k : Known) → ItemsOutcome k items (read_items q items k)
  unfolding read_items
  read_outcome [] k = (row_end k.row, frames_end k.frames)
  read_outcome (item ∷ items) k =
      through (ItemsOutcome k (item ∷ items)) (row_after q item k.row) _
      (λ x e. this x (row_refuses item items k.row k.frames x e)) (λ s e.
      through (ItemsOutcome k (item ∷ items)) (frames_after q item k.frames) _
      (λ x f. this x (frames_refuse item items k.row k.frames x f)) (λ gs f.
      onward s e gs f (read_items q items (knowing s gs)) (read_outcome items (knowing s gs))))
    where
      this : (r : Refusal) → ItemRefuses q k.row k.frames item r → FirstRefusingFrom k (item ∷ items) r
      this r h = record {
        before = [];
        this = item;
        after = items;
        split = refl;
        known = k;
        from = (row_end k.row, frames_end k.frames);
        refuses = h;
      }

      onward : (s : Option LineTableRow) → row_after q item k.row ≡ Ok s → (gs : List InlineFrame) →
          frames_after q item k.frames ≡ Ok gs →
          (o : Result Known Refusal) → ItemsOutcome (knowing s gs) items o → ItemsOutcome k (item ∷ items) o
      onward s e gs f (Ok l) h = (
        row_back item items k.row l.row s e h.0,
        frames_back item items k.frames l.frames gs f h.1,
      )
      onward s e gs f (Err r) h = record {
        before = item ∷ h.before;
        this = h.this;
        after = h.after;
        split = ap (λ l. item ∷ l) h.split;
        known = h.known;
        from = (
          row_back item h.before k.row h.known.row s e h.from.0,
          frames_back item h.before k.frames h.known.frames gs f h.from.1,
        );
        refuses = h.refuses;
      }

  -- items that are read hand on what is known
  read_on :
      (items rest : List ItemData) (k l : Known) → KnownFrom k items l →
      read_items q (items ++ rest) k ≡ read_items q rest l
  unfolding read_items
  read_on [] rest k l h =
      ap (λ r. read_items q rest (knowing r k.frames)) (row_ended k.row l.row h.0)
      ∙ ap (λ fs. read_items q rest (knowing l.row fs)) (frames_ended k.frames l.frames h.1)
  read_on (item ∷ items) rest k l h =
      let r = row_next item items k.row l.row h.0 in
      let f = frames_next item items k.frames l.frames h.1 in
      rw (r.1, f.1) (read_on items rest (knowing r.0 f.0) l (r.2, f.2))

  -- an inline block changes no row
  row_other : (item : ItemData) (r : Option LineTableRow) → item.kind ≡ 2 → row_after q item r ≡ Ok r
  row_other item (Some r) k = refl
  row_other item None k = row_pass item [] (λ z. absurd (omega arith))

  -- an item that refuses does so whatever follows
  refusal : (x : Refusal) (k : Known) (item : ItemData) (items : List ItemData) → ItemRefuses q k.row k.frames item x →
      read_items q (item ∷ items) k ≡ Err x
  unfolding read_items
  refusal x k item items (header c n i e) =
      let u = (header_unread item.bytes q.symbol q.addr c).0 e in rw (n, eq-eqb item.kind 1 i, u)
  refusal x k item items (block r i n two f) =
      let e = (block_refused q.symbol.0 q.addr.0 q.room item.bytes r).1 f in
      rw (row_other item k.row two, n, eq-eqb item.kind 2 two, i, e)

  -- ---- after any row and frames

  -- after any row and frames, the items are read exactly if this row or none, and these frames or none, follow
  pub items_known_from :
      (items : List ItemData) (k l : Known) → (read_items q items k ≡ Ok l) ↔ KnownFrom k items l
  unfolding read_items
  items_known_from items k l = (
    λ e. subst (ItemsOutcome k items) e (read_outcome items k),
    λ h. ap (λ m. read_items q m k) (sym (append-nil items)) ∙ read_on items [] k l h,
  )

  -- after any row and frames, they are refused exactly with the first item that refuses
  pub items_refused_from :
      (items : List ItemData) (k : Known) (r : Refusal) → (read_items q items k ≡ Err r) ↔ FirstRefusingFrom k items r
  items_refused_from items k r = (
    λ e. subst (ItemsOutcome k items) e (read_outcome items k),
    λ h. ap (λ m. read_items q m k) h.split
        ∙ read_on h.before (h.this ∷ h.after) k h.known h.from
        ∙ refusal r h.known h.this h.after h.refuses,
  )

  -- ---- what the laws of a lookup cite

  -- the items are read exactly if a row or none, and frames or none, are given
  pub items_known :
      (items : List ItemData) (known : Option LineTableRow) (fs : List InlineFrame) →
      (read_items q items nothing ≡ Ok (knowing known fs)) ↔ (RowIs q items known × FramesAre q items fs)
  items_known items known fs = items_known_from items nothing (knowing known fs)

  -- they are refused exactly with the first item that refuses
  pub items_refused :
      (items : List ItemData) (r : Refusal) → (read_items q items nothing ≡ Err r) ↔ FirstRefusing q items r
  items_refused items r = (
    λ e. let h = (items_refused_from items nothing r).0 e in
        record {
          before = h.before;
          this = h.this;
          after = h.after;
          split = h.split;
          known_row = h.known.row;
          row_is = h.from.0;
          known_frames = h.known.frames;
          frames_are = h.from.1;
          refuses = h.refuses;
        },
    λ h. (items_refused_from items nothing r).1 (record {
      before = h.before;
      this = h.this;
      after = h.after;
      split = h.split;
      known = knowing h.known_row h.known_frames;
      from = (h.row_is, h.frames_are);
      refuses = h.refuses;
    }),
  )

-- the row doesn't depend on whether frames are wanted, nor on the room for them
pub row_alone :
    (q : Question) (items : List ItemData) (known : Option LineTableRow) (fs : List InlineFrame) (room : ℕ) →
    read_items q items nothing ≡ Ok (knowing known fs) →
    read_items (question q.symbol q.addr room false) items nothing ≡ Ok (knowing known [])
row_alone q items known fs room e =
    let other = question q.symbol q.addr room false in
    (items_known other items known []).1 (same known ((items_known q items known fs).0 e).0, no_inlining refl)
  where
    same : (s : Option LineTableRow) → RowIs q items s → RowIs (question q.symbol q.addr room false) items s
    same s (no_row a) = no_row a
    same s (row F) = row F
