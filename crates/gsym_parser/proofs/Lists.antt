-- The items of a list are its first item, if there is one, and those of the bytes after it; and so is its end.
-- Assumes nothing.
use Rattle.std.proofs.Common.{◌≡◌, ℕ, zero, suc, ◌<◌, leb, eqb, Bool, true, false, List, [], ◌∷◌, length, take, drop}
use Rattle.std.proofs.Common.{refl, sym, ap, ◌∙◌, arith, Option, Some, None, length-drop, if◌then◌else◌}
use Rattle.gsym_reads.specs.Maybe.{◌>>=◌}
use Rattle.gsym_reads.specs.Fronts.{u32_front}
use Rattle.gsym_reads.proofs.Maybe.{bind_some, need_some}
use Rattle.gsym_parser.specs.Items.{ItemData, sized_item, item_front, onward, items_within, items_of, is_zero, ends_at}
use Rattle.gsym_parser.specs.Items.{end_onward, closed_within, closed_of}
use Rattle.gsym_parser.proofs.Inside.{u32_taken}

-- an item takes bytes
sized-shorter :
    (kind : ℕ) (bytes : List ℕ) (item : ItemData) (rest : List ℕ) → sized_item kind bytes ≡ Some (item, rest) →
    length rest < length bytes
unfolding sized_item
sized-shorter kind bytes item rest e =
    let n = bind_some (u32_front bytes) _ _ e in
    let t = u32_taken bytes n.0.0 n.0.1 n.1 in
    let m = need_some (leb n.0.0 (length n.0.1)) _ _ n.2 in
    let p : ◌≡◌ {A = ItemData × List ℕ} (record { kind = kind; bytes = take n.0.0 n.0.1 }, drop n.0.0 n.0.1)
    (item, rest) = cc m.1
    in
    let l = ap (λ r. length r.1) p in
    omega (arith, t.1, ap length t.0, length-drop n.0.0 n.0.1, length-drop 4 bytes)

pub front_shorter :
    (bytes : List ℕ) (item : ItemData) (rest : List ℕ) → item_front bytes ≡ Some (item, rest) →
    length rest < length bytes
unfolding item_front
front_shorter bytes item rest e =
    let k = bind_some (u32_front bytes) _ _ e in
    let t = u32_taken bytes k.0.0 k.0.1 k.1 in
    let l = go k.0.0 k.0.1 (eqb k.0.0 0) k.2 in
    omega (arith, t.1, ap length t.0, length-drop 4 bytes)
  where
    go :
        (kind : ℕ) (after : List ℕ) (b : Bool) → (if b then None else sized_item kind after) ≡ Some (item, rest) →
        length rest < length after
    go kind after true e = absurd cc
    go kind after false e = sized-shorter kind after item rest e

onward-same :
    (f g : List ℕ → List ItemData) (r : Option (ItemData × List ℕ)) →
    ((item : ItemData) (rest : List ℕ) → r ≡ Some (item, rest) → f rest ≡ g rest) → onward f r ≡ onward g r
onward-same f g None h = refl
onward-same f g (Some (item, rest)) h = ap (λ items. item ∷ items) (h item rest refl)

-- more turns than bytes change nothing
within-more :
    (k j : ℕ) (bytes : List ℕ) → length bytes < k → length bytes < j → items_within k bytes ≡ items_within j bytes
unfolding items_within
within-more zero j bytes h g = absurd (omega arith)
within-more (suc k) zero bytes h g = absurd (omega arith)
within-more (suc k) (suc j) bytes h g = onward-same _ _ (item_front bytes) (λ item rest e.
    let less = front_shorter bytes item rest e in
    within-more k j rest (omega (arith, less)) (omega (arith, less)))

pub items_step : (bytes : List ℕ) → items_of bytes ≡ onward items_of (item_front bytes)
unfolding items_of items_within
items_step bytes = onward-same _ _ (item_front bytes) (λ item rest e.
    let less = front_shorter bytes item rest e in
    within-more (length bytes) (suc (length rest)) rest (omega (arith, less)) (omega (arith, less)))

end-same :
    (f g : List ℕ → Bool) (end : Bool) (r : Option (ItemData × List ℕ)) →
    ((item : ItemData) (rest : List ℕ) → r ≡ Some (item, rest) → f rest ≡ g rest) →
    end_onward f end r ≡ end_onward g end r
end-same f g end None h = refl
end-same f g end (Some (item, rest)) h = h item rest refl

closed-more :
    (k j : ℕ) (bytes : List ℕ) → length bytes < k → length bytes < j → closed_within k bytes ≡ closed_within j bytes
unfolding closed_within
closed-more zero j bytes h g = absurd (omega arith)
closed-more (suc k) zero bytes h g = absurd (omega arith)
closed-more (suc k) (suc j) bytes h g = end-same _ _ (ends_at bytes) (item_front bytes) (λ item rest e.
    let less = front_shorter bytes item rest e in
    closed-more k j rest (omega (arith, less)) (omega (arith, less)))

pub closed_step : (bytes : List ℕ) → closed_of bytes ≡ end_onward closed_of (ends_at bytes) (item_front bytes)
unfolding closed_of closed_within
closed_step bytes = end-same _ _ (ends_at bytes) (item_front bytes) (λ item rest e.
    let less = front_shorter bytes item rest e in
    closed-more (length bytes) (suc (length rest)) rest (omega (arith, less)) (omega (arith, less)))

-- where type 0 stands there is no item, and where there is none the list ends as it stands
zero-front : (bytes : List ℕ) → ends_at bytes ≡ true → item_front bytes ≡ None
unfolding ends_at item_front
zero-front bytes e = go (u32_front bytes) e
  where
    go :
        (o : Option (ℕ × List ℕ)) → is_zero o ≡ true →
        (o >>= λ read. if eqb read.0 0 then None else sized_item read.0 read.1) ≡ None
    go (Some (kind, rest)) e = rw e
    go None e = refl

pub closed_ended : (bytes : List ℕ) → ends_at bytes ≡ true → items_of bytes ≡ []
closed_ended bytes e = items_step bytes ∙ ap (onward items_of) (zero-front bytes e)

pub ended_closed : (bytes : List ℕ) → items_of bytes ≡ [] → ends_at bytes ≡ closed_of bytes
ended_closed bytes e = go (item_front bytes) (sym (items_step bytes) ∙ e) ∙ sym (closed_step bytes)
  where
    go :
        (r : Option (ItemData × List ℕ)) → onward items_of r ≡ [] →
        ends_at bytes ≡ end_onward closed_of (ends_at bytes) r
    go (Some (item, rest)) e = absurd cc
    go None e = refl
