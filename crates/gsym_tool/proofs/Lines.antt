-- The words of an input are those of its first line and then those of the rest; what was written of the lines so far.
-- Assumes nothing.
use Rattle.std.proofs.Common.{◌≡◌, ℕ, Bool, true, false, List, [], ◌∷◌, ◌++◌, length, Option, None, Some, IfSome, eqb}
use Rattle.std.proofs.Common.{refl, sym, ap, ◌∙◌, append_assoc}
use Rattle.std.specs.Bool.{⊤}
use Rattle.std.specs.List.{flat_map}
use Rattle.std.proofs.lemmas.Grind.{flat_map-append}
use Rattle.std.specs.Io.KnownBytes.{Appends, Keeps}
use Rattle.std.proofs.KnownBytes.{Appends-nil, Appends-trans, Appends-kept}
use Rattle.std.specs.Io.BufRead.{take_through, drop_through, DropsThrough}
use Rattle.std.proofs.BufReadLemmas.{take_through-nil}
use borrow.Author.Tests.{eqb-true}
use Rattle.gsym_printed.specs.declared.view.View.{View}
use Rattle.gsym_printed.specs.Answers.{answer_text, answers_text}
use Rattle.gsym_printed.specs.Words.{parts, ended, words_onto, words}

nothing-after : {A : Type 0} (s : List A) → s ++ [] ≡ s
nothing-after [] = refl
nothing-after (x ∷ s) = ap (λ t. x ∷ t) (nothing-after s)

ten-parts : parts 10 ≡ true
unfolding parts
ten-parts = refl

none-onto : (w : List ℕ) → words_onto w [] ≡ ended w
unfolding words_onto
none-onto w = refl

part-onto : (w bs : List ℕ) (b : ℕ) → parts b ≡ true → words_onto w (b ∷ bs) ≡ ended w ++ words_onto [] bs
unfolding words_onto
part-onto w bs b e = rw e refl

byte-onto : (w bs : List ℕ) (b : ℕ) → parts b ≡ false → words_onto w (b ∷ bs) ≡ words_onto (w ++ b ∷ []) bs
unfolding words_onto
byte-onto w bs b e = rw e refl

nothing : words_onto [] [] ≡ []
unfolding words_onto
nothing = refl

-- what a newline parts, seen from within a word
Through : List ℕ → List ℕ → Type 0
Through w s = words_onto w s ≡ words_onto w (take_through 10 s) ++ words_onto [] (drop_through 10 s)

out : (w bs : List ℕ) (b : ℕ) (p : Bool) → parts b ≡ p → ((v : List ℕ) → Through v bs)
    → words_onto w (b ∷ bs) ≡ words_onto w (b ∷ take_through 10 bs) ++ words_onto [] (drop_through 10 bs)
unfolding Through
out w bs b true p h =
    part-onto w bs b p
    ∙ ap (λ t. ended w ++ t) (h [])
    ∙ sym (append_assoc (ended w) (words_onto [] (take_through 10 bs)) (words_onto [] (drop_through 10 bs)))
    ∙ ap (λ t. t ++ words_onto [] (drop_through 10 bs)) (sym (part-onto w (take_through 10 bs) b p))
out w bs b false p h =
    byte-onto w bs b p
    ∙ h (w ++ b ∷ [])
    ∙ ap (λ t. t ++ words_onto [] (drop_through 10 bs)) (sym (byte-onto w (take_through 10 bs) b p))

by : (w bs : List ℕ) (b : ℕ) (t : Bool) → eqb b 10 ≡ t → ((v : List ℕ) → Through v bs) → Through w (b ∷ bs)
unfolding Through
by w bs b true e h =
    let p : parts b ≡ true = ap parts (eqb-true b 10 e) ∙ ten-parts in
    rw e
    (part-onto w bs b p
    ∙ ap (λ t. t ++ words_onto [] bs)
    (sym (part-onto w [] b p ∙ ap (λ t. ended w ++ t) nothing ∙ nothing-after (ended w))))
by w bs b false e h = rw e (out w bs b (parts b) refl h)

through : (w s : List ℕ) → Through w s
unfolding Through
through w [] = sym (ap (λ t. words_onto w [] ++ t) nothing ∙ nothing-after (words_onto w []))
through w (b ∷ bs) = by w bs b (eqb b 10) refl (λ v. through v bs)

pub words-through : (s : List ℕ) → words s ≡ words (take_through 10 s) ++ words (drop_through 10 s)
unfolding words Through
words-through s = through [] s

answers-through : (view : View) (file s : List ℕ) → answers_text view file s
    ≡ answers_text view file (take_through 10 s) ++ answers_text view file (drop_through 10 s)
answers-through view file s =
    ap (flat_map (answer_text view file)) (words-through s)
    ∙ flat_map-append (answer_text view file) (words (take_through 10 s)) (words (drop_through 10 s))

no-answers : (view : View) (file : List ℕ) → answers_text view file [] ≡ []
unfolding words words_onto
no-answers view file = refl

-- whoever appends the answers to what a reader has left has appended those to all that it had
abbrev pub Left : (List ℕ → List ℕ) → Option (List ℕ) → Option (List ℕ) → Option (List ℕ) → Option (List ℕ) → Type 0
Left f None has old now = ⊤
Left f (Some xs) None old now = ⊥
Left f (Some xs) (Some ys) old now = (c : Option (List ℕ)) → Appends now c (f ys) → Appends old c (f xs)

pub left_start : (f : List ℕ → List ℕ) (had old : Option (List ℕ)) → Left f had had old old
left_start f None old = tt
left_start f (Some xs) old = λ c p. p

pub left_step : (view : View) (file line : List ℕ) (had has more old now then flushed : Option (List ℕ))
    → Left (answers_text view file) had has old now → IfSome has (λ xs. line ≡ take_through 10 xs)
    → DropsThrough has more 10 → Appends now then (answers_text view file line) → Keeps then flushed
    → Left (answers_text view file) had more old flushed
left_step view file line None has more old now then flushed l t d a k = tt
left_step view file line (Some xs) None more old now then flushed l t d a k = absurd l
left_step view file line (Some xs) (Some ys) more old now then flushed l t d a k =
    rw d (λ c p.
    l c
    (rw (answers-through view file ys, sym t)
    (Appends-trans now flushed c (answers_text view file line) (answers_text view file (drop_through 10 ys))
    (Appends-kept now then flushed (answers_text view file line) a k) p)))

pub left_end : (view : View) (file line : List ℕ) (had has old now : Option (List ℕ))
    → Left (answers_text view file) had has old now → IfSome has (λ xs. line ≡ take_through 10 xs) → length line ≡ 0
    → IfSome had (λ xs. Appends old now (answers_text view file xs))
left_end view file line None has old now l t e = tt
left_end view file line (Some xs) None old now l t e = absurd l
left_end view file line (Some xs) (Some ys) old now l t e =
    let n : ys ≡ [] = take_through-nil 10 ys (ap length (sym t) ∙ e) in
    l now (rw (n, no-answers view file) (Appends-nil now))
