-- Where data end, counted by numbers that saturate.
-- Assumes nothing.
use Rattle.std.proofs.Common.{◌≡◌, ⊎_elim, ℕ, ◌+◌, ◌<◌, ◌≤◌, ◌^◌, true, false, List, [], ◌∷◌, length, drop}
use Rattle.std.proofs.Common.{get_or, refl, sym, ap, ◌∙◌, ◌&&◌, arith}
use Rattle.std.specs.List.{list_all}
use Rattle.std.proofs.lemmas.Bool.{cases_lt, le-ltb, lt-ltb}
use Rattle.std.proofs.lemmas.List.{at_drop_all}
use Rattle.gsym_inline.specs.Limits.{most_address}
use Rattle.gsym_layout.specs.Given.{GivenEntry}
use Rattle.gsym_layout.specs.Layout.{data_start, data_end, places_from}
use Rattle.gsym_writer.specs.declared.Entry.{Entry}
use Rattle.gsym_writer.specs.Ends.{items_len, data_len, end_from, told_len}
use Rattle.gsym_writer.specs.View.{entry_view, entries_view}
use Rattle.gsym_writer.specs.Writing.{is_of_32}
use Rattle.gsym_writer.proofs.Left.{places_cons}
use Rattle.gsym_writer.proofs.Lengths.{length_data, length_all_data, ends_more}

end_at_least : (at : ℕ) (es : List GivenEntry) → at ≤ end_from at es
unfolding end_from
end_at_least at [] = omega arith
end_at_least at (e ∷ es) = omega (arith, end_at_least (data_start at + data_len e) es)

-- the same from a place that is told
told_end_from : (at : ℕ) (es : List GivenEntry) → told_len (end_from (told_len at) es) ≡ told_len (end_from at es)
told_end_from at es =
    ⊎_elim
    (λ (l : most_address < at). omega (arith, l, end_at_least (told_len at) es, end_at_least at es))
    (λ (l : at ≤ most_address).
    let e : told_len at ≡ at = omega (arith, l) in ap (λ k. told_len (end_from k es)) e)
    (cases_lt most_address at)

too_far : (at : ℕ) (e : GivenEntry) (es : List GivenEntry) → 2 ^ 32 ≤ data_start at
    → list_all is_of_32 (places_from at (e ∷ es)) ≡ false
unfolding places_from
too_far at e es l = rw (le-ltb (data_start at) (2 ^ 32) l) refl

told_places :
    (at : ℕ) (es : List GivenEntry) →
    list_all is_of_32 (places_from (told_len at) es) ≡ list_all is_of_32 (places_from at es)
unfolding places_from
told_places at [] = refl
told_places at (e ∷ es) =
    ⊎_elim
    (λ (l : most_address < at).
    too_far (told_len at) e es (omega (arith, l)) ∙ sym (too_far at e es (omega (arith, l))))
    (λ (l : at ≤ most_address).
    let q : told_len at ≡ at = omega (arith, l) in ap (λ k. list_all is_of_32 (places_from k (e ∷ es))) q)
    (cases_lt most_address at)

module _ (es : List Entry) (at i : ℕ) (d : Entry) (l : i < length es) where
  place_here :
      list_all is_of_32 (places_from at (entries_view (drop i es)))
      ≡ (is_of_32 (data_start at)
      && list_all is_of_32 (places_from (data_end at (entry_view (get_or es i d))) (entries_view (drop (i + 1) es))))
  place_here = ap (list_all is_of_32) (places_cons es i at d l)

  -- a place that is not of 32 bits
  pub place_fails : 2 ^ 32 ≤ data_start at → list_all is_of_32 (places_from at (entries_view (drop i es))) ≡ false
  place_fails f = place_here ∙ rw (le-ltb (data_start at) (2 ^ 32) f) refl

  -- where the data of an entry end, as it is told
  end_told :
      (place len end : ℕ) → place ≡ data_start at → len ≡ told_len (16 + items_len (entry_view (get_or es i d)).items) →
      end ≡ told_len (place + len) → end ≡ told_len (data_end at (entry_view (get_or es i d)))
  unfolding data_len
  end_told place len end p n e = omega (arith, p, n, e, length_data (entry_view (get_or es i d)))

  module _ (place len end : ℕ) (p : place ≡ data_start at)
      (n : len ≡ told_len (16 + items_len (entry_view (get_or es i d)).items)) (e : end ≡ told_len (place + len)) where
    pub place_passes :
        place < 2 ^ 32 →
        list_all is_of_32 (places_from end (entries_view (drop (i + 1) es)))
        ≡ list_all is_of_32 (places_from at (entries_view (drop i es)))
    place_passes f =
        let s : data_start at < 2 ^ 32 = omega (arith, p, f) in
        ap (λ k. list_all is_of_32 (places_from k (entries_view (drop (i + 1) es)))) (end_told place len end p n e)
        ∙ told_places (data_end at (entry_view (get_or es i d))) (entries_view (drop (i + 1) es))
        ∙ sym (place_here ∙ rw (lt-ltb (data_start at) (2 ^ 32) s) refl)

    pub end_passes :
        told_len (end_from end (entries_view (drop (i + 1) es))) ≡ told_len (end_from at (entries_view (drop i es)))
    end_passes =
        ap (λ k. told_len (end_from k (entries_view (drop (i + 1) es)))) (end_told place len end p n e)
        ∙ told_end_from (data_end at (entry_view (get_or es i d))) (entries_view (drop (i + 1) es))
        ∙ ap told_len
        (sym (length_all_data (data_end at (entry_view (get_or es i d))) (entries_view (drop (i + 1) es))))
        ∙ ap told_len (sym (ends_more es at i d l))
        ∙ ap told_len (length_all_data at (entries_view (drop i es)))

module _ (es : List Entry) (at i : ℕ) (l : length es ≤ i) where
  pub places_pass : list_all is_of_32 (places_from at (entries_view (drop i es))) ≡ true
  unfolding places_from
  places_pass = at_drop_all (λ xs. list_all is_of_32 (places_from at (entries_view xs))) es i l

  pub end_is : end_from at (entries_view (drop i es)) ≡ at
  unfolding end_from
  end_is = at_drop_all (λ xs. end_from at (entries_view xs)) es i l
