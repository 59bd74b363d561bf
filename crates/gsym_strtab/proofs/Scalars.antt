-- UTF-8 by the grammar is UTF-8 as std has it: the bytes of some Unicode scalar values, one after another.
-- Assumes nothing.
use Rattle.std.proofs.Common.{◌≡◌, ℕ, zero, suc, ◌+◌, ◌-◌, ◌*◌, ◌/◌, ◌<◌, ◌≤◌, ◌⊎◌, ◌↔◌, Bool, true, false, List, []}
use Rattle.std.proofs.Common.{◌∷◌, ◌++◌, length, refl, sym, ap, ◌∙◌, subst, inl, inr, arith, lt-ltb, le-ltb, le-leb}
use Rattle.std.proofs.Common.{if◌then◌else◌}
use Rattle.std.proofs.lemmas.Bool.{cases_lt, and_parts}
use Rattle.std.proofs.lemmas.Str.{encode_ascii, IsUtf8-nil}
use Rattle.std.proofs.lemmas.Bool.Decides.{nat_tests}
use Rattle.std.specs.Str.{IsUtf8}
use lib.Utf8.{scalar, scalars, encode, encodes, next, low_scalar, scalar_cases}
use Rattle.gsym_strtab.specs.Utf8.{Range, range, within, tail, starts, nowhere, begun, followers, octets, utf8}
use Rattle.gsym_strtab.proofs.Ranges.{in-range}
use Rattle.gsym_strtab.proofs.Leading.{followers-ascii}

-- ---- the bytes of a scalar value, by how many there are

two : (c : ℕ) → 128 ≤ c → c < 2048 → encode c ≡ (192 + c / 64) ∷ next c ∷ []
unfolding encode
two c l h = rw (le-ltb c 128 l, lt-ltb c 2048 h)

three : (c : ℕ) → 2048 ≤ c → c < 65536 → encode c ≡ (224 + c / 4096) ∷ next (c / 64) ∷ next c ∷ []
unfolding encode
three c l h = rw (le-ltb c 128 (omega arith), le-ltb c 2048 l, lt-ltb c 65536 h)

four : (c : ℕ) → 65536 ≤ c → encode c ≡ (240 + c / 262144) ∷ next (c / 4096) ∷ next (c / 64) ∷ next c ∷ []
unfolding encode
four c l = rw (le-ltb c 128 (omega arith), le-ltb c 2048 (omega arith), le-ltb c 65536 l)

high_scalar : (c : ℕ) → 57344 ≤ c → c < 1114112 → scalar c ≡ true
high_scalar c l h = rw (le-ltb c 55296 (omega arith), le-leb 57344 c l, lt-ltb c 1114112 h)

-- ---- a byte inside a range

inside : (low high b : ℕ) → low ≤ b → b ≤ high → within (range low high) b ≡ true
inside low high b l h = rw (le-leb low b l, le-leb b high h)

-- ---- what a first byte says, alternative by alternative

module _ (b : ℕ) where
  lead_c2 : 0xc2 ≤ b → b ≤ 0xdf → followers b ≡ starts (tail ∷ [])
  unfolding followers
  lead_c2 l h = grind (arith, nat_tests)

  lead_e0 : 0xe0 ≤ b → b ≤ 0xe0 → followers b ≡ starts (range 0xa0 0xbf ∷ tail ∷ [])
  unfolding followers
  lead_e0 l h = grind (arith, nat_tests)

  lead_e1 : 0xe1 ≤ b → b ≤ 0xec → followers b ≡ starts (tail ∷ tail ∷ [])
  unfolding followers
  lead_e1 l h = grind (arith, nat_tests)

  lead_ed : 0xed ≤ b → b ≤ 0xed → followers b ≡ starts (range 0x80 0x9f ∷ tail ∷ [])
  unfolding followers
  lead_ed l h = grind (arith, nat_tests)

  lead_ee : 0xee ≤ b → b ≤ 0xef → followers b ≡ starts (tail ∷ tail ∷ [])
  unfolding followers
  lead_ee l h = grind (arith, nat_tests)

  lead_f0 : 0xf0 ≤ b → b ≤ 0xf0 → followers b ≡ starts (range 0x90 0xbf ∷ tail ∷ tail ∷ [])
  unfolding followers
  lead_f0 l h = grind (arith, nat_tests)

  lead_f1 : 0xf1 ≤ b → b ≤ 0xf3 → followers b ≡ starts (tail ∷ tail ∷ tail ∷ [])
  unfolding followers
  lead_f1 l h = grind (arith, nat_tests)

  lead_f4 : 0xf4 ≤ b → b ≤ 0xf4 → followers b ≡ starts (range 0x80 0x8f ∷ tail ∷ tail ∷ [])
  unfolding followers
  lead_f4 l h = grind (arith, nat_tests)

  -- no character starts with 80 to c1, or from f5 on
  lead_none : (0x80 ≤ b) × (b < 0xc2) → followers b ≡ nowhere
  unfolding followers
  lead_none l = grind (arith, nat_tests)

  lead_past : 0xf4 < b → followers b ≡ nowhere
  unfolding followers
  lead_past l = grind (arith, nat_tests)

-- ---- from characters to the grammar: the bytes of a scalar value are read, and what follows them decides

module _ (x : ℕ) (bs : List ℕ) where
  one-read : followers x ≡ starts [] → utf8 (x ∷ bs) ≡ utf8 bs
  unfolding utf8 octets
  one-read f = rw f

  two-read : (y : ℕ) → followers x ≡ starts (tail ∷ []) → (0x80 ≤ y) × (y ≤ 0xbf) → utf8 (x ∷ y ∷ bs) ≡ utf8 bs
  unfolding utf8 octets
  two-read y f h = rw (f, inside 0x80 0xbf y h.0 h.1)

  three-read : (low high y z : ℕ) → followers x ≡ starts (range low high ∷ tail ∷ []) → (low ≤ y) × (y ≤ high) →
      (0x80 ≤ z) × (z ≤ 0xbf) → utf8 (x ∷ y ∷ z ∷ bs) ≡ utf8 bs
  unfolding utf8 octets
  three-read low high y z f h g = rw (f, inside low high y h.0 h.1, inside 0x80 0xbf z g.0 g.1)

  four-read : (low high y z w : ℕ) → followers x ≡ starts (range low high ∷ tail ∷ tail ∷ []) → (low ≤ y) × (y ≤ high) →
      (0x80 ≤ z) × (z ≤ 0xbf) → (0x80 ≤ w) × (w ≤ 0xbf) → utf8 (x ∷ y ∷ z ∷ w ∷ bs) ≡ utf8 bs
  unfolding utf8 octets
  four-read low high y z w f h g k =
      rw (f, inside low high y h.0 h.1, inside 0x80 0xbf z g.0 g.1, inside 0x80 0xbf w k.0 k.1)

module _ (c : ℕ) (bs : List ℕ) where
  two-bytes : 128 ≤ c → c < 2048 → utf8 (encode c ++ bs) ≡ utf8 bs
  two-bytes l h =
      rw (two c l h)
      (two-read (192 + c / 64) bs (next c) (lead_c2 (192 + c / 64) (omega arith) (omega arith)) (omega arith))

  three-bytes : 2048 ≤ c → c < 65536 → (c < 55296) ⊎ (57344 ≤ c) → utf8 (encode c ++ bs) ≡ utf8 bs
  three-bytes l h s =
      let x = 224 + c / 4096 in
      rw (three c l h)
      (elim (cases_lt c 4096) [
        | inl a ↦ three-read x bs 0xa0 0xbf (next (c / 64)) (next c) (lead_e0 x (omega arith) (omega arith))
            (omega arith) (omega arith)
        | inr a ↦ elim (cases_lt c 53248) [
          | inl b ↦ three-read x bs 0x80 0xbf (next (c / 64)) (next c) (lead_e1 x (omega arith) (omega arith))
              (omega arith) (omega arith)
          | inr b ↦ elim s [
            | inl d ↦ three-read x bs 0x80 0x9f (next (c / 64)) (next c) (lead_ed x (omega arith) (omega arith))
                (omega arith) (omega arith)
            | inr d ↦ three-read x bs 0x80 0xbf (next (c / 64)) (next c) (lead_ee x (omega arith) (omega arith))
                (omega arith) (omega arith)
          ]
        ]
      ])

  four-bytes : 65536 ≤ c → c < 1114112 → utf8 (encode c ++ bs) ≡ utf8 bs
  four-bytes l h =
      let x = 240 + c / 262144 in
      rw (four c l)
      (elim (cases_lt c 262144) [
        | inl a ↦ four-read x bs 0x90 0xbf (next (c / 4096)) (next (c / 64)) (next c)
            (lead_f0 x (omega arith) (omega arith)) (omega arith) (omega arith) (omega arith)
        | inr a ↦ elim (cases_lt c 1048576) [
          | inl b ↦ four-read x bs 0x80 0xbf (next (c / 4096)) (next (c / 64)) (next c)
              (lead_f1 x (omega arith) (omega arith)) (omega arith) (omega arith) (omega arith)
          | inr b ↦ four-read x bs 0x80 0x8f (next (c / 4096)) (next (c / 64)) (next c)
              (lead_f4 x (omega arith) (omega arith)) (omega arith) (omega arith) (omega arith)
        ]
      ])

  one-char : scalar c ≡ true → utf8 (encode c ++ bs) ≡ utf8 bs
  one-char ok =
      let s = scalar_cases c ok in
      elim (cases_lt c 128) [
        | inl a ↦ rw (encode_ascii c a) (one-read c bs (followers-ascii c (omega arith)))
        | inr a ↦ elim (cases_lt c 2048) [
          | inl b ↦ two-bytes a b
          | inr b ↦ elim (cases_lt c 65536) [
            | inl d ↦ three-bytes b d (elim s [ inl e ↦ inl e | inr e ↦ inr e.0 ])
            | inr d ↦ four-bytes d (elim s [ inl e ↦ omega arith | inr e ↦ e.1 ])
          ]
        ]
      ]

all-read : (cs : List ℕ) → scalars cs ≡ true → utf8 (encodes cs) ≡ true
unfolding utf8 octets
all-read [] ok = refl
all-read (c ∷ cs) ok = let p = and_parts (scalar c) (scalars cs) ok in one-char c (encodes cs) p.0 ∙ all-read cs p.1

-- ---- from the grammar to characters

-- what is owed is there
owed : (low high : ℕ) (rs : List Range) (bs : List ℕ) → octets (range low high ∷ rs) bs ≡ true →
    (y : ℕ) × (ys : List ℕ) × (bs ≡ y ∷ ys) × (low ≤ y) × (y ≤ high) × (octets rs ys ≡ true)
unfolding octets
owed low high rs [] e = absurd (cc)
owed low high rs (y ∷ ys) e = go (within (range low high) y) refl e
  where
    go : (t : Bool) → within (range low high) y ≡ t → (if t then octets rs ys else false) ≡ true →
        (z : ℕ) × (zs : List ℕ) × (y ∷ ys ≡ z ∷ zs) × (low ≤ z) × (z ≤ high) × (octets rs zs ≡ true)
    go true w q = let i = in-range low high y w in (y, ys, refl, i.0, i.1, q)
    go false w q = absurd (cc)

begins : (x : ℕ) (bs : List ℕ) (rs : List Range) → utf8 (x ∷ bs) ≡ true → followers x ≡ starts rs → octets rs bs ≡ true
unfolding utf8 octets
begins x bs rs e f = sym (ap (λ st. begun st (λ rs. octets rs bs)) f) ∙ e

begins-nowhere : (x : ℕ) (bs : List ℕ) → utf8 (x ∷ bs) ≡ true → followers x ≡ nowhere → ⊥
unfolding utf8 octets
begins-nowhere x bs e f = let q : false ≡ true = sym (ap (λ st. begun st (λ rs. octets rs bs)) f) ∙ e in absurd (cc)

done : (bs : List ℕ) → octets [] bs ≡ true → utf8 bs ≡ true
unfolding utf8
done bs e = e

-- a scalar value's bytes before UTF-8
cons : (c : ℕ) (front bs : List ℕ) → scalar c ≡ true → encode c ≡ front → IsUtf8 bs → IsUtf8 (front ++ bs)
cons c front bs ok e u = (c ∷ u.0, (rw ok u.1.0, λ i. e i ++ u.1.1 i))

-- the scalar values that two, three and four bytes say
value_2 : ℕ → ℕ → ℕ
value_2 x y = (x - 192) * 64 + (y - 128)

value_3 : ℕ → ℕ → ℕ → ℕ
value_3 x y z = (x - 224) * 4096 + (y - 128) * 64 + (z - 128)

value_4 : ℕ → ℕ → ℕ → ℕ → ℕ
value_4 x y z w = (x - 240) * 262144 + (y - 128) * 4096 + (z - 128) * 64 + (w - 128)

cons_2 : (x y : ℕ) (bs : List ℕ) → (0xc2 ≤ x) × (x ≤ 0xdf) → (0x80 ≤ y) × (y ≤ 0xbf) → IsUtf8 bs → IsUtf8 (x ∷ y ∷ bs)
unfolding value_2
cons_2 x y bs h f =
    let c = value_2 x y in
    let p : 192 + c / 64 ≡ x = omega arith in
    let q : next c ≡ y = omega arith in
    cons c (x ∷ y ∷ []) bs (low_scalar c (omega arith)) (two c (omega arith) (omega arith) ∙ (λ k. p k ∷ q k ∷ []))

cons_3 : (x y z : ℕ) (bs : List ℕ) → 0xe0 ≤ x → (0x80 ≤ y) × (y ≤ 0xbf) → (0x80 ≤ z) × (z ≤ 0xbf) →
    (2048 ≤ value_3 x y z) × (value_3 x y z < 65536) × (scalar (value_3 x y z) ≡ true) → IsUtf8 bs →
    IsUtf8 (x ∷ y ∷ z ∷ bs)
unfolding value_3
cons_3 x y z bs h f g v =
    let c = value_3 x y z in
    let p : 224 + c / 4096 ≡ x = omega arith in
    let q : next (c / 64) ≡ y = omega arith in
    let r : next c ≡ z = omega arith in
    cons c (x ∷ y ∷ z ∷ []) bs v.2 (three c v.0 v.1 ∙ (λ k. p k ∷ q k ∷ r k ∷ []))

cons_4 : (x y z w : ℕ) (bs : List ℕ) → 0xf0 ≤ x → (0x80 ≤ y) × (y ≤ 0xbf) → (0x80 ≤ z) × (z ≤ 0xbf) →
    (0x80 ≤ w) × (w ≤ 0xbf) → (65536 ≤ value_4 x y z w) × (value_4 x y z w < 1114112) → IsUtf8 bs →
    IsUtf8 (x ∷ y ∷ z ∷ w ∷ bs)
unfolding value_4
cons_4 x y z w bs h f g j v =
    let c = value_4 x y z w in
    let e : c / 64 ≡ (x - 240) * 4096 + (y - 128) * 64 + (z - 128) = omega arith in
    let p : 240 + c / 262144 ≡ x = omega arith in
    let q : next (c / 4096) ≡ y = omega arith in
    let r : next (c / 64) ≡ z = rw e (omega arith) in
    let t : next c ≡ w = omega arith in
    cons c (x ∷ y ∷ z ∷ w ∷ []) bs (high_scalar c (omega (arith, v.0)) v.1)
    (four c v.0 ∙ (λ k. p k ∷ q k ∷ r k ∷ t k ∷ []))

module _ (n : ℕ) (rest : (bs : List ℕ) → length bs ≤ n → utf8 bs ≡ true → IsUtf8 bs) where
  made_2 :
      (x : ℕ) (bs : List ℕ) → length bs ≤ n → (0xc2 ≤ x) × (x ≤ 0xdf) → octets (tail ∷ []) bs ≡ true → IsUtf8 (x ∷ bs)
  made_2 x bs l h e =
      let o = owed 0x80 0xbf [] bs e in
      rw o.2 (cons_2 x o.0 o.1 h (o.3, o.4) (rest o.1 (omega (arith, ap length o.2)) (done o.1 o.5)))

  made_3 : (low high x : ℕ) (bs : List ℕ) → length bs ≤ n → 0xe0 ≤ x → (0x80 ≤ low) × (high ≤ 0xbf) →
      ((y z : ℕ) → (low ≤ y) × (y ≤ high) → (0x80 ≤ z) × (z ≤ 0xbf) →
      (2048 ≤ value_3 x y z) × (value_3 x y z < 65536) × (scalar (value_3 x y z) ≡ true)) →
      octets (range low high ∷ tail ∷ []) bs ≡ true → IsUtf8 (x ∷ bs)
  made_3 low high x bs l h i v e =
      let o = owed low high (tail ∷ []) bs e in
      let k = owed 0x80 0xbf [] o.1 o.5 in
      rw (o.2, k.2)
      (cons_3 x o.0 k.0 k.1 h (omega (arith, o.3), omega (arith, o.4)) (k.3, k.4) (v o.0 k.0 (o.3, o.4) (k.3, k.4))
      (rest k.1 (omega (arith, ap length o.2, ap length k.2)) (done k.1 k.5)))

  made_4 : (low high x : ℕ) (bs : List ℕ) → length bs ≤ n → 0xf0 ≤ x → (0x80 ≤ low) × (high ≤ 0xbf) →
      ((y z w : ℕ) → (low ≤ y) × (y ≤ high) → (0x80 ≤ z) × (z ≤ 0xbf) → (0x80 ≤ w) × (w ≤ 0xbf) →
      (65536 ≤ value_4 x y z w) × (value_4 x y z w < 1114112)) →
      octets (range low high ∷ tail ∷ tail ∷ []) bs ≡ true → IsUtf8 (x ∷ bs)
  made_4 low high x bs l h i v e =
      let o = owed low high (tail ∷ tail ∷ []) bs e in
      let k = owed 0x80 0xbf (tail ∷ []) o.1 o.5 in
      let m = owed 0x80 0xbf [] k.1 k.5 in
      rw (o.2, k.2, m.2)
      (cons_4 x o.0 k.0 m.0 m.1 h (omega (arith, o.3), omega (arith, o.4)) (k.3, k.4) (m.3, m.4)
      (v o.0 k.0 m.0 (o.3, o.4) (k.3, k.4) (m.3, m.4))
      (rest m.1 (omega (arith, ap length o.2, ap length k.2, ap length m.2)) (done m.1 m.5)))

  -- by the first byte
  one-made : (x : ℕ) (bs : List ℕ) → length bs ≤ n → utf8 (x ∷ bs) ≡ true → IsUtf8 (x ∷ bs)
  unfolding value_3 value_4
  one-made x bs l e =
      let low : (c : ℕ) → c < 55296 → scalar c ≡ true = low_scalar in
      elim (cases_lt x 0x80) [
        | inl a ↦ cons x (x ∷ []) bs (low_scalar x (omega arith)) (encode_ascii x a)
            (rest bs l (done bs (begins x bs [] e (followers-ascii x (omega arith)))))
        | inr a ↦ elim (cases_lt x 0xc2) [
          | inl b ↦ absurd (begins-nowhere x bs e (lead_none x (a, b)))
          | inr b ↦ elim (cases_lt x 0xe0) [
            | inl d ↦ made_2 x bs l (b, omega arith) (begins x bs _ e (lead_c2 x b (omega arith)))
            | inr d ↦ elim (cases_lt x 0xf0) [ inl f ↦ three-made x bs l e d f | inr f ↦ four-made x bs l e f ]
          ]
        ]
      ]
    where
      three-made : (x : ℕ) (bs : List ℕ) → length bs ≤ n → utf8 (x ∷ bs) ≡ true → 0xe0 ≤ x → x < 0xf0 → IsUtf8 (x ∷ bs)
      three-made x bs l e d f =
          elim (cases_lt x 0xe1) [
            | inl a ↦
                made_3 0xa0 0xbf x bs l d (omega arith)
                (λ y z p q. (omega arith, omega arith, low_scalar (value_3 x y z) (omega arith)))
                (begins x bs _ e (lead_e0 x d (omega arith)))
            | inr a ↦ elim (cases_lt x 0xed) [
              | inl b ↦
                  made_3 0x80 0xbf x bs l d (omega arith)
                  (λ y z p q. (omega arith, omega arith, low_scalar (value_3 x y z) (omega arith)))
                  (begins x bs _ e (lead_e1 x a (omega arith)))
              | inr b ↦ elim (cases_lt x 0xee) [
                | inl g ↦
                    made_3 0x80 0x9f x bs l d (omega arith)
                    (λ y z p q. (omega arith, omega arith, low_scalar (value_3 x y z) (omega arith)))
                    (begins x bs _ e (lead_ed x b (omega arith)))
                | inr g ↦
                    made_3 0x80 0xbf x bs l d (omega arith)
                    (λ y z p q. (omega arith, omega arith, high_scalar (value_3 x y z) (omega arith) (omega arith)))
                    (begins x bs _ e (lead_ee x g (omega arith)))
              ]
            ]
          ]

      four-made : (x : ℕ) (bs : List ℕ) → length bs ≤ n → utf8 (x ∷ bs) ≡ true → 0xf0 ≤ x → IsUtf8 (x ∷ bs)
      four-made x bs l e d =
          elim (cases_lt x 0xf1) [
            | inl a ↦
                made_4 0x90 0xbf x bs l d (omega arith) (λ y z w p q r. (omega arith, omega arith))
                (begins x bs _ e (lead_f0 x d (omega arith)))
            | inr a ↦ elim (cases_lt x 0xf4) [
              | inl b ↦
                  made_4 0x80 0xbf x bs l d (omega arith) (λ y z w p q r. (omega arith, omega arith))
                  (begins x bs _ e (lead_f1 x a (omega arith)))
              | inr b ↦ elim (cases_lt x 0xf5) [
                | inl g ↦
                    made_4 0x80 0x8f x bs l d (omega arith) (λ y z w p q r. (omega arith, omega arith))
                    (begins x bs _ e (lead_f4 x b (omega arith)))
                | inr g ↦ absurd (begins-nowhere x bs e (lead_past x (omega arith)))
              ]
            ]
          ]

made : (n : ℕ) (bs : List ℕ) → length bs ≤ n → utf8 bs ≡ true → IsUtf8 bs
made n [] l e = IsUtf8-nil
made zero (x ∷ bs) l e = absurd (omega arith)
made (suc n) (x ∷ bs) l e = one-made n (made n) x bs (omega arith) e

-- the grammar of RFC 3629 and std's rule are one
pub utf8-IsUtf8 : (bs : List ℕ) → (utf8 bs ≡ true) ↔ IsUtf8 bs
utf8-IsUtf8 bs = (made (length bs) bs (omega arith), λ u. ap utf8 (sym u.1.1) ∙ all-read u.0 u.1.0)

-- a test that answers by the grammar answers by std's rule
pub as-scalars : (bs : List ℕ) (r : Bool) → r ≡ utf8 bs → (r ≡ true) ↔ IsUtf8 bs
as-scalars bs r e = subst (λ t. (t ≡ true) ↔ IsUtf8 bs) (sym e) (utf8-IsUtf8 bs)
