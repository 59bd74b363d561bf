-- Whether the addresses of more words are all known.
-- Assumes nothing.
use Rattle.std.proofs.Common.{◌≡◌, ℕ, Bool, true, false, ◌&&◌, List, [], ◌∷◌, ◌+◌, ◌<◌, length, get_or, take}
use Rattle.std.proofs.Common.{Option, None, Some, IfSome, refl, sym, ap, ◌∙◌}
use Rattle.std.specs.Bool.{⊤}
use Rattle.std.specs.List.{list_all}
use Rattle.std.proofs.lemmas.List.Folds.{list_all-append, list_all_more}
use Rattle.std.specs.Io.BufRead.{take_through, drop_through, DropsThrough}
use Rattle.std.proofs.BufReadLemmas.{take_through-nil}
use Rattle.gsym_printed.specs.declared.view.View.{View}
use Rattle.gsym_printed.specs.Words.{words_onto, words}
use Rattle.gsym_tool.specs.Known.{is_known_word, all_known}
use Rattle.gsym_tool.proofs.Lines.{words-through}

pub and-all : (a : Bool) → (a && true) ≡ a
and-all true = refl
and-all false = refl

pub and-and : (a b c : Bool) → (a && (b && c)) ≡ ((a && b) && c)
and-and true b c = refl
and-and false b c = refl

-- of the next word of a list
pub known_more : {X : Type 0} (p : X → Bool) (xs : List X) (i : ℕ) (x : X) (all known more : Bool) → i < length xs
    → x ≡ get_or xs i x → all ≡ list_all p (take i xs) → known ≡ p x → more ≡ (all && known)
    → more ≡ list_all p (take (i + 1) xs)
known_more p xs i x all known more l e a k m =
    m
    ∙ ap (λ b. b && known) a ∙ ap (λ b. list_all p (take i xs) && b) (k ∙ ap p e) ∙ sym (list_all_more p xs i x l)

-- of the next word of a line
pub known_next : (view : View) (file line rest word after : List ℕ) (all known more : Bool)
    → all_known view file line ≡ (all && all_known view file rest) → words rest ≡ word ∷ words after
    → known ≡ is_known_word view file word → more ≡ (all && known)
    → all_known view file line ≡ (more && all_known view file after)
known_next view file line rest word after all known more h e k m =
    h
    ∙ ap (λ ws. all && list_all (is_known_word view file) ws) e
    ∙ ap (λ b. all && (b && all_known view file after)) (sym k)
    ∙ and-and all known (all_known view file after)
    ∙ ap (λ b. b && all_known view file after) (sym m)

pub known_ended : (view : View) (file line rest : List ℕ) (all : Bool)
    → all_known view file line ≡ (all && all_known view file rest) → words rest ≡ [] → all ≡ all_known view file line
known_ended view file line rest all h e =
    sym (h ∙ ap (λ ws. all && list_all (is_known_word view file) ws) e ∙ and-all all)

known-through : (view : View) (file s : List ℕ) → all_known view file s
    ≡ (all_known view file (take_through 10 s) && all_known view file (drop_through 10 s))
known-through view file s =
    ap (list_all (is_known_word view file)) (words-through s)
    ∙ list_all-append (is_known_word view file) (words (take_through 10 s)) (words (drop_through 10 s))

all-of-none : (view : View) (file : List ℕ) → all_known view file [] ≡ true
unfolding words words_onto
all-of-none view file = refl

-- whether all that a reader had are known is whether those so far are, and those of what it has left
abbrev pub KnownLeft : (List ℕ → Bool) → Option (List ℕ) → Option (List ℕ) → Bool → Type 0
KnownLeft f None has all = ⊤
KnownLeft f (Some xs) None all = ⊥
KnownLeft f (Some xs) (Some ys) all = f xs ≡ (all && f ys)

pub known_start : (f : List ℕ → Bool) (had : Option (List ℕ)) → KnownLeft f had had true
known_start f None = tt
known_start f (Some xs) = refl

pub known_step : (view : View) (file line : List ℕ) (had has more : Option (List ℕ)) (all known now : Bool)
    → KnownLeft (all_known view file) had has all → IfSome has (λ xs. line ≡ take_through 10 xs)
    → DropsThrough has more 10 → known ≡ all_known view file line → now ≡ (all && known)
    → KnownLeft (all_known view file) had more now
known_step view file line None has more all known now h t d k m = tt
known_step view file line (Some xs) None more all known now h t d k m = absurd h
known_step view file line (Some xs) (Some ys) more all known now h t d k m =
    rw d
    (h
    ∙ ap (λ b. all && b) (known-through view file ys)
    ∙ ap (λ b. all && (b && all_known view file (drop_through 10 ys))) (sym (k ∙ ap (all_known view file) t))
    ∙ and-and all known (all_known view file (drop_through 10 ys))
    ∙ ap (λ b. b && all_known view file (drop_through 10 ys)) (sym m))

pub known_end : (view : View) (file line : List ℕ) (had has : Option (List ℕ)) (all : Bool)
    → KnownLeft (all_known view file) had has all → IfSome has (λ xs. line ≡ take_through 10 xs) → length line ≡ 0
    → IfSome had (λ xs. all ≡ all_known view file xs)
known_end view file line None has all h t e = tt
known_end view file line (Some xs) None all h t e = absurd h
known_end view file line (Some xs) (Some ys) all h t e =
    let n : ys ≡ [] = take_through-nil 10 ys (ap length (sym t) ∙ e) in
    sym (h ∙ ap (λ s. all && all_known view file s) n ∙ ap (λ b. all && b) (all-of-none view file) ∙ and-all all)
