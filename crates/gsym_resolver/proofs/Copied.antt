-- A list over whose first elements others are copied, one after another: one more of them.
-- Assumes nothing.
use Rattle.std.proofs.Common.{◌≡◌, ◌∙◌, sym, ℕ, ◌+◌, ◌<◌, ◌≤◌, suc, List, [], ◌∷◌, ◌++◌, length, set, take, drop, get_or}
use Rattle.std.proofs.Common.{arith, append_assoc, drop-cons, add-one, length-take}
use Rattle.std.proofs.Math.Seq.{take-suc}
use Rattle.std.proofs.lemmas.List.{set_at}

pub copied_more :
    {A : Type 0} (fs list : List A) (n : ℕ) (d : A) → n < length fs → length fs ≤ length list →
    set (take n fs ++ drop n list) n (get_or fs n d) ≡ take (n + 1) fs ++ drop (n + 1) list
copied_more fs list n d h l =
    let x = get_or fs n d in
    let k : length (take n fs) ≡ n = omega (arith, length-take n fs) in
    rw (drop-cons list n d (omega arith), add-one n, take-suc fs n d h)
    (set_at (take n fs) _ _ x n k ∙ sym (append_assoc (take n fs) (x ∷ []) (drop (suc n) list)))
