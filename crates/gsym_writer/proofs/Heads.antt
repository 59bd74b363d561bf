-- The header's numbers are those of what is given, where they are counted from it.
-- Assumes nothing.
use Rattle.std.proofs.Common.{◌≡◌, ℕ, ◌+◌, ◌*◌, ◌<◌, ◌≤◌, ◌^◌, Bool, true, false, length, refl, ap, sym, ◌∙◌, ◌&&◌}
use Rattle.std.proofs.Common.{arith, Some, None}
use Rattle.std.specs.Prelude.{if◌then◌else◌}
use Rattle.std.specs.List.{list_all}
use Rattle.std.specs.Int.{next_multiple_of}
use Rattle.std.proofs.lemmas.Bool.{lt-ltb, le-ltb, and_left, and_right, and_from}
use Rattle.gsym_layout.specs.Given.{Given}
use Rattle.gsym_layout.specs.Layout as layout
use Rattle.gsym_layout.specs.Layout.{base_of, offsets_of, least_size, size_of, strings_start, strings_end}
use Rattle.gsym_layout.specs.Layout.{places_from, places_of}
use Rattle.gsym_layout.specs.Layout.{head_of, layout_of}
use Rattle.gsym_writer.specs.declared.plan.Head.{Head}
use Rattle.gsym_writer.specs.declared.plan.Plan.{Plan}
use Rattle.gsym_writer.specs.Parts.{addresses_less}
use Rattle.gsym_writer.specs.Ends.{end_from, told_len}
use Rattle.gsym_writer.specs.Planned.{IsHead, IsPlan}
use Rattle.gsym_writer.specs.View.{head_view}
use Rattle.gsym_writer.proofs.Lengths.{length_layout}
use Rattle.gsym_writer.specs.Writing.{is_of_32, lengths_fit, counts_of_32, all_of_32}

head : (size base count place len : ℕ) → layout.Head
head size base count place len = record {
  offset_size = size;
  base = record { 0 = base };
  count = count;
  strings_place = place;
  strings_size = len;
}

module _ (g : Given) where
  size_is : (base size : ℕ) → base ≡ base_of g.entries → size ≡ least_size (addresses_less base g.entries) →
      size ≡ size_of g
  unfolding size_of offsets_of
  size_is base size b s = s ∙ ap (λ k. least_size (addresses_less k g.entries)) b

  start_is : (count size place : ℕ) → count ≡ length g.entries → size ≡ size_of g
      → place ≡ next_multiple_of (48 + count * size) 4 + count * 4 + 4 + length g.tables.files * 8
      → place ≡ strings_start g
  start_is count size place n s p =
      p ∙ ap (λ k. next_multiple_of (48 + k * size) 4 + k * 4 + 4 + length g.tables.files * 8) n
      ∙ ap (λ k. next_multiple_of (48 + length g.entries * k) 4 + length g.entries * 4 + 4 + length g.tables.files * 8)
      s

  pub count_fails : 2 ^ 32 ≤ length g.entries → counts_of_32 g ≡ false
  unfolding counts_of_32
  count_fails l = rw (le-ltb (length g.entries) (2 ^ 32) l) refl

  pub files_fail : 2 ^ 32 ≤ length g.tables.files → counts_of_32 g ≡ false
  unfolding counts_of_32
  files_fail l =
      and_left _ (is_of_32 (length g.tables.strings)) (and_left _ (is_of_32 (strings_start g))
      (and_right (is_of_32 (length g.entries)) _ (le-ltb (length g.tables.files) (2 ^ 32) l)))

  pub size_fails : 2 ^ 32 ≤ length g.tables.strings → counts_of_32 g ≡ false
  unfolding counts_of_32
  size_fails l = and_right _ _ (le-ltb (length g.tables.strings) (2 ^ 32) l)

  pub place_fails : (count base size place : ℕ) → count ≡ length g.entries → base ≡ base_of g.entries →
      size ≡ least_size (addresses_less base g.entries) →
      place ≡ next_multiple_of (48 + count * size) 4 + count * 4 + 4 + length g.tables.files * 8 →
      2 ^ 32 ≤ place → counts_of_32 g ≡ false
  unfolding counts_of_32
  place_fails count base size place n b s p l =
      let q : place ≡ strings_start g = start_is count size place n (size_is base size b s) p in
      let m : 2 ^ 32 ≤ strings_start g = omega (arith, q, l) in
      and_left _ (is_of_32 (length g.tables.strings))
      (and_right (is_of_32 (length g.entries) && is_of_32 (length g.tables.files)) _
      (le-ltb (strings_start g) (2 ^ 32) m))

  pub head_is :
      (h : Head) → h.base.0 ≡ base_of g.entries → h.offset_size ≡ least_size (addresses_less h.base.0 g.entries) →
      h.strings_place
      ≡ next_multiple_of (48 + h.count * h.offset_size) 4 + h.count * 4 + 4 + length g.tables.files * 8 →
      h.count ≡ length g.entries → h.strings_size ≡ length g.tables.strings → h.count < 2 ^ 32 →
      length g.tables.files < 2 ^ 32 → h.strings_place < 2 ^ 32 → h.strings_size < 2 ^ 32 → IsHead g h
  unfolding head_of counts_of_32 head
  head_is h b s p c z cl fl pl zl =
      let s' : h.offset_size ≡ size_of g = size_is h.base.0 h.offset_size b s in
      let p' : h.strings_place ≡ strings_start g = start_is h.count h.offset_size h.strings_place c s' p in
      let n : length g.entries < 2 ^ 32 = omega (arith, c, cl) in
      let m : strings_start g < 2 ^ 32 = omega (arith, p', pl) in
      let k : length g.tables.strings < 2 ^ 32 = omega (arith, z, zl) in
      record {
        of_32 =
            rw (
              lt-ltb (length g.entries) (2 ^ 32) n,
              lt-ltb (length g.tables.files) (2 ^ 32) fl,
              lt-ltb (strings_start g) (2 ^ 32) m,
              lt-ltb (length g.tables.strings) (2 ^ 32) k,
            ) refl;
        is =
            ap (λ k. head k h.base.0 h.count h.strings_place h.strings_size) s'
            ∙ ap (λ k. head (size_of g) k h.count h.strings_place h.strings_size) b
            ∙ ap (λ k. head (size_of g) (base_of g.entries) k h.strings_place h.strings_size) c
            ∙ ap (λ k. head (size_of g) (base_of g.entries) (length g.entries) k h.strings_size) p'
            ∙ ap (head (size_of g) (base_of g.entries) (length g.entries) (strings_start g)) z;
      }

pub ruleset count_laws = (count_fails, files_fail, size_fails)

-- ---- the plan

no_end_told : (b : Bool) (n : ℕ) → None ≡ (if b then Some n else None) → b ≡ false
no_end_told true n e = absurd cc
no_end_told false n e = refl

end_told : (b : Bool) (m n : ℕ) → Some m ≡ (if b then Some n else None) → (b ≡ true) × (m ≡ n)
end_told true m n e = (refl, cc)
end_told false m n e = absurd cc

module _ (g : Given) where
  pub strings_end_is : (h : Head) → head_view h ≡ head_of g → h.strings_place + h.strings_size ≡ strings_end g
  unfolding head_of
  strings_end_is h e =
      let p : h.strings_place ≡ strings_start g = ap (λ k. k.strings_place) e in
      let s : h.strings_size ≡ length g.tables.strings = ap (λ k. k.strings_size) e in
      omega (arith, p, s)

  pub counts_fail : counts_of_32 g ≡ false → all_of_32 g ≡ false
  unfolding all_of_32
  counts_fail e = rw e refl

  pub lengths_fail : list_all lengths_fit g.entries ≡ false → all_of_32 g ≡ false
  unfolding all_of_32
  lengths_fail e = and_right _ _ e

  pub places_fail :
      (h : Head) → head_view h ≡ head_of g →
      None ≡ (if list_all is_of_32 (places_from (h.strings_place + h.strings_size) g.entries)
      then Some (told_len (end_from (h.strings_place + h.strings_size) g.entries)) else None) →
      all_of_32 g ≡ false
  unfolding all_of_32 places_of
  places_fail h e n =
      and_left _ (list_all lengths_fit g.entries)
      (and_right (counts_of_32 g) _
      (ap (λ k. list_all is_of_32 (places_from k g.entries)) (sym (strings_end_is h e)) ∙ no_end_told _ _ n))

  pub plan_is :
      (p : Plan) → IsHead g p.head →
      Some p.len ≡ (if list_all is_of_32 (places_from (p.head.strings_place + p.head.strings_size) g.entries)
      then Some (told_len (end_from (p.head.strings_place + p.head.strings_size) g.entries)) else None) →
      list_all lengths_fit g.entries ≡ true → IsPlan g p
  unfolding all_of_32 places_of
  plan_is p H n l =
      let q : p.head.strings_place + p.head.strings_size ≡ strings_end g = strings_end_is p.head H.is in
      let t = end_told _ _ _ n in
      record {
        of_32 =
            and_from (counts_of_32 g && list_all is_of_32 (places_from (strings_end g) g.entries)) _
            (and_from (counts_of_32 g) _ H.of_32
            (ap (λ k. list_all is_of_32 (places_from k g.entries)) (sym q) ∙ t.0)) l;
        head = H.is;
        len =
            t.1 ∙ ap (λ k. told_len (end_from k g.entries)) q ∙ ap told_len (sym (length_layout g));
      }
