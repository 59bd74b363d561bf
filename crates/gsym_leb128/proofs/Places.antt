-- A number at a place: where reading goes on, and that this is what reading at the front of the bytes there gives.
-- Assumes nothing.
use Rattle.std.proofs.Common.{◌≡◌, ℕ, ◌+◌, ◌^◌, ◌<◌, ◌≤◌, List, length, drop, ℤ, sym, refl, ap, ◌∙◌, arith, length-drop}
use Rattle.std.proofs.Common.{drop-drop, subst, ◌↔◌, IfOk, Ok, Err, Result}
use lib.Signed.{mag}
use Rattle.gsym_reads.specs.Steps.{◌>>=◌}
use Rattle.gsym_reads.specs.Fronts.{ReadsTo}
use Rattle.gsym_reads.proofs.Steps.{bind_ok, ok_is}
use Rattle.gsym_leb128.specs.declared.Cause.{Cause}
use Rattle.gsym_leb128.specs.declared.Cause.TheVariants.{Short}
use Rattle.gsym_leb128.specs.Leb.{unsigned, signed}
use Rattle.gsym_leb128.specs.Answers.{unsigned_front, signed_front, unsigned_at, signed_at, EndsEarly}
use Rattle.gsym_leb128.proofs.Bytes.{unsigned_at_short, signed_at_short}
use Rattle.gsym_leb128.proofs.Taken.{Taken, unsigned-taken, signed-taken, unsigned-lt, signed-lt}

module _ (s : List ℕ) (at : ℕ) where
  unsigned_at-inv :
      (v next : ℕ) → unsigned_at s at ≡ Ok (v, next) → (n : ℕ) × (unsigned (drop at s) ≡ Ok (v, n)) × (next ≡ at + n)
  unfolding unsigned_at
  unsigned_at-inv v next e =
      let i = bind_ok (unsigned (drop at s)) _ (v, next) e in
      let p = ok_is _ _ i.2 in
      (i.0.1, i.1 ∙ ap (λ x. Ok (x, i.0.1)) (ap (λ q. q.0) p), sym (ap (λ q. q.1) p))

  signed_at-inv :
      (z : ℤ) (next : ℕ) → signed_at s at ≡ Ok (z, next) → (n : ℕ) × (signed (drop at s) ≡ Ok (z, n)) × (next ≡ at + n)
  unfolding signed_at
  signed_at-inv z next e =
      let i = bind_ok (signed (drop at s)) _ (z, next) e in
      let p = ok_is _ _ i.2 in
      (i.0.1, i.1 ∙ ap (λ x. Ok (x, i.0.1)) (ap (λ q. q.0) p), sym (ap (λ q. q.1) p))

  within : (n next : ℕ) → next ≡ at + n → Taken 10 (drop at s) n → (at < next) × (next ≤ length s)
  within n next e t = (omega (arith, t.some), omega (arith, t.some, t.within, length-drop at s))

  -- reading goes on, and stays in the list
  pub unsigned_next : (v next : ℕ) → unsigned_at s at ≡ Ok (v, next) → (at < next) × (next ≤ length s)
  unsigned_next v next e =
      let i = unsigned_at-inv v next e in
      within i.0 next i.2 (unsigned-taken (drop at s) i.0 v i.1)

  pub signed_next : (z : ℤ) (next : ℕ) → signed_at s at ≡ Ok (z, next) → (at < next) × (next ≤ length s)
  signed_next z next e =
      let i = signed_at-inv z next e in
      within i.0 next i.2 (signed-taken (drop at s) i.0 z i.1)

  -- the value is in range
  pub unsigned_at-lt : (v next : ℕ) → unsigned_at s at ≡ Ok (v, next) → v < 2 ^ 64
  unsigned_at-lt v next e = let i = unsigned_at-inv v next e in unsigned-lt (drop at s) i.0 v i.1

  pub signed_at-lt : (z : ℤ) (next : ℕ) → signed_at s at ≡ Ok (z, next) → mag z < 2 ^ 63
  signed_at-lt z next e = let i = signed_at-inv z next e in signed-lt (drop at s) i.0 z i.1

  -- reading at a place is reading at the front of the bytes from there on
  pub unsigned_at_front : ReadsTo s (unsigned_at s at) (unsigned_front (drop at s))
  unfolding unsigned_at unsigned_front
  unsigned_at_front = go (unsigned (drop at s)) refl
    where
      go : (d : Result (ℕ × ℕ) Cause) → unsigned (drop at s) ≡ d →
          ReadsTo s (d >>= (λ (v, n). Ok (v, at + n))) (d >>= (λ (v, n). Ok (v, drop n (drop at s))))
      go (Ok (v, n)) e =
          let t = unsigned-taken (drop at s) n v e in
          (omega (arith, t.some, t.within, length-drop at s), ap (λ r. Ok (v, r)) (drop-drop n at s))
      go (Err c) e = refl

  pub signed_at_front : ReadsTo s (signed_at s at) (signed_front (drop at s))
  unfolding signed_at signed_front
  signed_at_front = go (signed (drop at s)) refl
    where
      go : (d : Result (ℤ × ℕ) Cause) → signed (drop at s) ≡ d →
          ReadsTo s (d >>= (λ (v, n). Ok (v, at + n))) (d >>= (λ (v, n). Ok (v, drop n (drop at s))))
      go (Ok (v, n)) e =
          let t = signed-taken (drop at s) n v e in
          (omega (arith, t.some, t.within, length-drop at s), ap (λ r. Ok (v, r)) (drop-drop n at s))
      go (Err c) e = refl

-- ---- what holds of an answer by how it is defined

module _ (s : List ℕ) (at : ℕ) where
  pub unsigned_front-is : {r : Result (ℕ × ℕ) Cause} → r ≡ unsigned_at s at → ReadsTo s r (unsigned_front (drop at s))
  unsigned_front-is e = subst (λ r. ReadsTo s r (unsigned_front (drop at s))) (sym e) (unsigned_at_front s at)

  pub signed_front-is : {r : Result (ℤ × ℕ) Cause} → r ≡ signed_at s at → ReadsTo s r (signed_front (drop at s))
  signed_front-is e = subst (λ r. ReadsTo s r (signed_front (drop at s))) (sym e) (signed_at_front s at)

  pub unsigned_past : {r : Result (ℕ × ℕ) Cause} → r ≡ unsigned_at s at → IfOk r (λ read. at < read.1)
  unsigned_past {r = Ok (v, next)} e = (unsigned_next s at v next (sym e)).0
  unsigned_past {r = Err c} e = tt

  pub signed_past : {r : Result (ℤ × ℕ) Cause} → r ≡ signed_at s at → IfOk r (λ read. at < read.1)
  signed_past {r = Ok (z, next)} e = (signed_next s at z next (sym e)).0
  signed_past {r = Err c} e = tt

  pub unsigned_short-is : {r : Result (ℕ × ℕ) Cause} → r ≡ unsigned_at s at → (r ≡ Err Short) ↔ EndsEarly (drop at s)
  unsigned_short-is e = subst (λ r. (r ≡ Err Short) ↔ EndsEarly (drop at s)) (sym e) (unsigned_at_short s at)

  pub signed_short-is : {r : Result (ℤ × ℕ) Cause} → r ≡ signed_at s at → (r ≡ Err Short) ↔ EndsEarly (drop at s)
  signed_short-is e = subst (λ r. (r ≡ Err Short) ↔ EndsEarly (drop at s)) (sym e) (signed_at_short s at)
