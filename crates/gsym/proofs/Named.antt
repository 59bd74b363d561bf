-- The name of an answer and those of its records are UTF-8 in the file: each is a name of the string table.
-- Assumes nothing.
use Rattle.std.proofs.Common.{◌≡◌, Some, None, Ok, Option, ℕ, Bool, true, false, List, [], ◌∷◌, subst, arith}
use Rattle.std.proofs.Common.{if◌then◌else◌}
use Rattle.std.specs.List.{All}
use Rattle.std.proofs.lemmas.List.Elements.{All-nil, All-cons, All-head, All-tail}
use Rattle.gsym_reads.specs.Steps.{given}
use Rattle.gsym_reads.proofs.Steps.{bind_ok, need_ok, given_ok, ok_is}
use Rattle.gsym_types.specs.declared.Address.{Address}
use Rattle.gsym_types.specs.declared.Frame.{Frame}
use Rattle.gsym_types.specs.declared.InlineFrame.{InlineFrame}
use Rattle.gsym_types.specs.declared.Options.{Options}
use Rattle.gsym_types.specs.declared.Position.{Position}
use Rattle.gsym_types.specs.declared.Refusal.TheVariants as refused
use Rattle.gsym_types.specs.declared.StrOffset.{StrOffset}
use Rattle.gsym_types.specs.declared.Text.{Text}
use Rattle.gsym_strtab.proofs.Texts.{name-within, name-is-utf8}
use Rattle.gsym_strtab.proofs.Scalars.{utf8-IsUtf8}
use Rattle.gsym_linetab.specs.declared.LineTableRow.{LineTableRow}
use Rattle.gsym_parser.specs.View.{View}
use Rattle.gsym_parser.specs.Header.{opened_of}
use Rattle.gsym_parser.specs.Search.{find_of}
use Rattle.gsym_parser.specs.Entries.{symbol_at, info_at, covered_by}
use Rattle.gsym_parser.specs.Texts.{name_at}
use Rattle.gsym_parser.specs.Items.{items_of}
use Rattle.gsym_parser.proofs.Opened.{opened_file}
use Rattle.gsym_resolver.specs.Known.{question, nothing, read_items}
use Rattle.gsym_resolver.specs.Lookup.{Landing, landing_at, position_at, call_at, calls_at, moved_up, LookedUp, alone}
use Rattle.gsym_resolver.specs.Lookup.{with_frames, with_row, with_code, lookup_of}
use Rattle.gsym.specs.Names.{IsNameIn}

-- what holds of the answer's name and of those of its records
abbrev pub HasNames : List ℕ → LookedUp → Type 0
HasNames file l = IsNameIn file l.answer.name × All (λ f. IsNameIn file f.name) l.frames

module _ (v : View) where
  -- a name of the string table
  name_named : (offset : StrOffset) (t : Text) → name_at v offset ≡ Some t → IsNameIn v.file t
  name_named offset t e =
      let w = name-within v.file v.tables.strings offset t e in
      (omega (arith, w), (utf8-IsUtf8 _).0 (name-is-utf8 v.file v.tables.strings offset t e))

  abbrev Named : Frame → Type 0
  Named f = IsNameIn v.file f.name

  -- the later frames
  call_named : (g : InlineFrame) (c : Frame) → call_at v g ≡ Ok c → Named c
  unfolding call_at
  call_named g c e =
      let n = bind_ok (given refused.UnreadName (name_at v g.name)) _ c e in
      let p = bind_ok (position_at v g.call_file g.call_line) _ c n.2 in
      subst Named (ok_is _ _ p.2) (name_named g.name n.0 (given_ok refused.UnreadName _ _ n.1))

  calls_named : (gs : List InlineFrame) (cs : List Frame) → calls_at v gs ≡ Ok cs → All Named cs
  unfolding calls_at
  calls_named [] cs e = subst (All Named) (ok_is _ _ e) (All-nil Named)
  calls_named (g ∷ gs) cs e =
      let c = bind_ok (call_at v g) _ cs e in
      let r = bind_ok (calls_at v gs) _ cs c.2 in
      subst (All Named) (ok_is _ _ r.2) (All-cons Named c.0 r.0 (call_named g c.0 c.1) (calls_named gs r.0 r.1))

  -- positions move up, names stay
  moved_named : (row : Position) (cs : List Frame) → All Named cs → All Named (moved_up row cs)
  unfolding moved_up
  moved_named row [] h = h
  moved_named row (c ∷ cs) h =
      All-cons Named _ _ (All-head Named c cs h) (moved_named row cs (All-tail Named c cs h))

  -- the answer, with the frames, with a row or none, and where it lands
  frames_named :
      (e : Landing) (row : Position) (gs : List InlineFrame) (l : LookedUp) → IsNameIn v.file e.name →
      with_frames v e row gs ≡ Ok l → HasNames v.file l
  unfolding with_frames
  frames_named e row [] l n k = subst (HasNames v.file) (ok_is _ _ k) (n, All-nil Named)
  frames_named e row (g ∷ gs) l n k =
      let m = bind_ok (given refused.UnreadName (name_at v g.name)) _ l k in
      let c = bind_ok (calls_at v gs) _ l m.2 in
      let first = name_named g.name m.0 (given_ok refused.UnreadName _ _ m.1) in
      subst (HasNames v.file) (ok_is _ _ c.2) (first, moved_named row c.0 (calls_named gs c.0 c.1))

  row_named :
      (e : Landing) (known : Option LineTableRow) (gs : List InlineFrame) (l : LookedUp) → IsNameIn v.file e.name →
      with_row v e known gs ≡ Ok l → HasNames v.file l
  unfolding with_row
  row_named e None gs l n k = subst (HasNames v.file) (ok_is _ _ k) (n, All-nil Named)
  row_named e (Some row) gs l n k =
      let p = bind_ok (position_at v row.file_idx row.file_line) _ l k in frames_named e p.0 gs l n p.2

  landing_named : (addr : Address) (e : Landing) → landing_at v addr ≡ Ok e → IsNameIn v.file e.name
  unfolding landing_at
  landing_named addr e k =
      let i = bind_ok (given refused.UnknownAddress (find_of v addr)) _ e k in
      let info = bind_ok (given refused.UnreadInfo (info_at v i.0)) _ e i.2 in
      let c = need_ok (covered_by addr (symbol_at v i.0) info.0.size) _ _ e info.2 in
      let offset : StrOffset = record { 0 = info.0.name } in
      let n = bind_ok (given refused.UnreadName (name_at v offset)) _ e c.1 in
      subst (λ (x : Landing). IsNameIn v.file x.name) (ok_is _ _ n.2)
      (name_named offset n.0 (given_ok refused.UnreadName _ _ n.1))

  code_named :
      (e : Landing) (addr : Address) (o : Options) (room : ℕ) (l : LookedUp) (code : Bool) → IsNameIn v.file e.name →
      (if code then with_code v e addr o.inlining room else Ok (alone e)) ≡ Ok l → HasNames v.file l
  unfolding with_code
  code_named e addr o room l true n k =
      let known = bind_ok (read_items (question e.symbol addr room o.inlining) (items_of e.bytes) nothing) _ l k in
      row_named e known.0.row known.0.frames l n known.2
  code_named e addr o room l false n k = subst (HasNames v.file) (ok_is _ _ k) (n, All-nil Named)

pub lookup_named :
    (file : List ℕ) (addr : Address) (o : Options) (room : ℕ) (l : LookedUp) → lookup_of file addr o room ≡ Ok l →
    HasNames file l
unfolding lookup_of
lookup_named file addr o room l k =
    let v = bind_ok (opened_of file) _ l k in
    let e = bind_ok (landing_at v.0 addr) _ l v.2 in
    subst (λ bytes. HasNames bytes l) (opened_file file v.0 v.1)
    (code_named v.0 e.0 addr o room l o.code_info (landing_named v.0 addr e.0 e.1) e.2)
