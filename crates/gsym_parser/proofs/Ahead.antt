-- An item at the front of bytes: its type isn't 0, its bytes stand behind type and length, those after it behind them,
-- and all lie within the bytes.
-- Assumes nothing.
use Rattle.std.proofs.Common.{◌≡◌, ◌≢◌, ℕ, ◌+◌, ◌≤◌, leb, eqb, Bool, true, false, List, length, take, drop, refl, sym, ap}
use Rattle.std.proofs.Common.{◌∙◌, arith, Some, None, length-drop, length-take-le, drop-drop, if◌then◌else◌}
use Rattle.std.proofs.lemmas.Bool.{leb-true, eqb-false}
use Rattle.gsym_reads.specs.Fronts.{u32_front}
use Rattle.gsym_reads.proofs.Maybe.{bind_some, need_some}
use Rattle.gsym_parser.specs.Items.{ItemData, sized_item, item_front}
use Rattle.gsym_parser.proofs.Inside.{u32_taken}

-- its bytes stand behind the length, those after it behind them, and all lie within
sized-ahead :
    (kind : ℕ) (bytes : List ℕ) (item : ItemData) (rest : List ℕ) → sized_item kind bytes ≡ Some (item, rest) →
    (kind ≡ item.kind) × (item.bytes ≡ take (length item.bytes) (drop 4 bytes))
    × (rest ≡ drop (4 + length item.bytes) bytes) × (4 + length item.bytes ≤ length bytes)
unfolding sized_item
sized-ahead kind bytes item rest e =
    let n = bind_some (u32_front bytes) _ _ e in
    let t = u32_taken bytes n.0.0 n.0.1 n.1 in
    let m = need_some (leb n.0.0 (length n.0.1)) _ _ n.2 in
    let p : ◌≡◌ {A = ItemData × List ℕ} (record { kind = kind; bytes = take n.0.0 n.0.1 }, drop n.0.0 n.0.1)
    (item, rest) = cc m.1
    in
    let f = leb-true _ _ m.0 in
    let b : take n.0.0 n.0.1 ≡ item.bytes = ap (λ r. r.0.bytes) p in
    let l : n.0.0 ≡ length item.bytes = sym (length-take-le n.0.0 n.0.1 f) ∙ ap length b in (
      ap (λ r. r.0.kind) p,
      sym b ∙ ap (λ k. take k n.0.1) l ∙ ap (take (length item.bytes)) t.0,
      sym (ap (λ r. r.1) p) ∙ ap (λ k. drop k n.0.1) l ∙ ap (drop (length item.bytes)) t.0
          ∙ drop-drop (length item.bytes) 4 bytes,
      omega (arith, l, f, t.1, ap length t.0, length-drop 4 bytes),
    )

module _ (bytes : List ℕ) (item : ItemData) (rest : List ℕ) where
  pub item_ahead :
      item_front bytes ≡ Some (item, rest) →
      (item.kind ≢ 0) × (item.bytes ≡ take (length item.bytes) (drop 8 bytes))
      × (rest ≡ drop (8 + length item.bytes) bytes) × (8 + length item.bytes ≤ length bytes)
  unfolding item_front
  item_ahead e =
      let k = bind_some (u32_front bytes) _ _ e in
      let t = u32_taken bytes k.0.0 k.0.1 k.1 in
      let g = go k.0.0 k.0.1 (eqb k.0.0 0) refl k.2 in
      let q : 4 + (4 + length item.bytes) ≡ 8 + length item.bytes = omega arith in (
        g.0,
        g.1.1 ∙ ap (λ b. take (length item.bytes) (drop 4 b)) t.0 ∙ ap (take (length item.bytes)) (drop-drop 4 4 bytes),
        g.1.2 ∙ ap (drop (4 + length item.bytes)) t.0 ∙ drop-drop (4 + length item.bytes) 4 bytes
            ∙ ap (λ n. drop n bytes) q,
        omega (arith, g.1.3, t.1, ap length t.0, length-drop 4 bytes),
      )
    where
      go :
          (kind : ℕ) (after : List ℕ) (b : Bool) → eqb kind 0 ≡ b →
          (if b then None else sized_item kind after) ≡ Some (item, rest) →
          (item.kind ≢ 0)
          × ((kind ≡ item.kind) × (item.bytes ≡ take (length item.bytes) (drop 4 after))
          × (rest ≡ drop (4 + length item.bytes) after) × (4 + length item.bytes ≤ length after))
      go kind after true q e = absurd cc
      go kind after false q e =
          let s = sized-ahead kind after item rest e in (λ z. eqb-false kind 0 q (s.0 ∙ z), s)
