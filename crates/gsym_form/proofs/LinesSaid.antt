-- The lines of a text: what stands before the words of one, and its words.
-- Assumes nothing.
use Rattle.std.proofs.Common.{◌≡◌, ℕ, suc, ◌+◌, ◌≤◌, ◌<◌, Bool, true, false, List, [], ◌∷◌, length}
use Rattle.std.proofs.Common.{drop, refl, ap, sym, ◌∙◌, arith, Option, Some, None, get_or, drop_of_length-le}
use Rattle.std.specs.Prelude.{nat_eq, ◌||◌, option_map, codes, if◌then◌else◌, Result, Ok, Err, min}
use Rattle.std.specs.Borrow.{Bor}
use Rattle.std.specs.List.{prefix_len, count_by}
use Rattle.std.proofs.lemmas.Bool.Decides.{nat_tests}
use Rattle.std.proofs.lemmas.List.{drop_more}
use Rattle.gsym_form.specs.Said.{Reading, is_indented, read_words, read_string, read_bytes, read_file, read_entry}
use Rattle.gsym_form.specs.Said.{read_end, read_item, is_newline, ends_in, line_count, line_said, lines_said}
use Rattle.gsym_form.specs.Kept.{TellsLines, unread_of}
use Rattle.gsym_form.specs.declared.wrong.Wrong.{Wrong}
use Rattle.gsym_form.specs.declared.wrong.Problem.{Problem}
use Rattle.gsym_form.specs.declared.wrong.Problem.TheVariants as problem
use Rattle.gsym_form.specs.declared.wrong.Wrong.TheVariants.{Word}
use Rattle.gsym_form.specs.Taken.{TakesWord, TellsOf}
use Rattle.gsym_form.specs.Words.{word, is_word, behind_word}

first_return : (bs : List ℕ) → is_indented (13 ∷ bs) ≡ is_indented bs
unfolding is_indented
first_return bs =
    let one : 1 + prefix_len (λ b. nat_eq b 13) bs ≡ suc (prefix_len (λ b. nat_eq b 13) bs) = omega arith in rw one refl

first_other : (b : ℕ) (bs : List ℕ) → nat_eq b 13 ≡ false → is_indented (b ∷ bs) ≡ (nat_eq b 32 || nat_eq b 9)
unfolding is_indented
first_other b bs h = rw h refl

pub another : (a b : ℕ) → (a ≡ b → ⊥) → nat_eq a b ≡ false
another a b h = grind (arith, nat_tests)

module _ (bs : List ℕ) (i : ℕ) where
  pub indented_return : i < length bs → get_or bs i 0 ≡ 13 → is_indented (drop i bs) ≡ is_indented (drop (i + 1) bs)
  indented_return l e =
      ap is_indented (drop_more bs i 0 l ∙ ap (λ b. b ∷ drop (i + 1) bs) e) ∙ first_return (drop (i + 1) bs)

  pub indented_other :
      i < length bs → (get_or bs i 0 ≡ 13 → ⊥) →
      is_indented (drop i bs) ≡ (nat_eq (get_or bs i 0) 32 || nat_eq (get_or bs i 0) 9)
  indented_other l h =
      ap is_indented (drop_more bs i 0 l)
      ∙ first_other (get_or bs i 0) (drop (i + 1) bs) (another (get_or bs i 0) 13 h)

  pub indented_past : length bs ≤ i → is_indented (drop i bs) ≡ false
  unfolding is_indented
  indented_past h = rw (drop_of_length-le bs h) refl

-- ---- a word that was taken

told_by :
    (o : Option (Bor (List ℕ))) (old new w : List ℕ) (f : Option (List ℕ × List ℕ)) →
    TakesWord (option_map (λ x. x.now) o) old new f → is_word w f ≡ is_word w (option_map (λ x. (x.now, [])) o)
told_by None old new w f h = ap (is_word w) h.0
told_by (Some x) old new w f h = ap (is_word w) h

behind_by :
    (o : Option (Bor (List ℕ))) (old new w : List ℕ) (f : Option (List ℕ × List ℕ)) →
    TakesWord (option_map (λ x. x.now) o) old new f → is_word w f ≡ true → behind_word f ≡ new
behind_by None old new w f h y = let z : false ≡ true = ap (is_word w) (sym h.0) ∙ y in absurd cc
behind_by (Some x) old new w f h y = ap behind_word h

module _
    (n : ℕ) (r : Reading) (line rest : List ℕ) (o : Option (Bor (List ℕ)))
    (taken : TakesWord (option_map (λ x. x.now) o) line rest (word line)) where
  abbrev is : List ℕ → Bool
  is w = is_word w (option_map (λ x. (x.now, [])) o)

  told : (w : List ℕ) → is_word w (word line) ≡ is w
  told w = told_by o line rest w (word line) taken

  behind : (w : List ℕ) → is w ≡ true → behind_word (word line) ≡ rest
  behind w h = behind_by o line rest w (word line) taken (told w ∙ h)

  pub says_string : is (codes "string") ≡ true → read_words n r line ≡ read_string r rest
  unfolding read_words
  says_string a = rw (told (codes "string") ∙ a) (ap (read_string r) (behind (codes "string") a))

  pub says_bytes : is (codes "string") ≡ false → is (codes "bytes") ≡ true → read_words n r line ≡ read_bytes r rest
  unfolding read_words
  says_bytes a b =
      rw (told (codes "string") ∙ a, told (codes "bytes") ∙ b) (ap (read_bytes r) (behind (codes "bytes") b))

  pub says_file :
      is (codes "string") ≡ false → is (codes "bytes") ≡ false → is (codes "file") ≡ true →
      read_words n r line ≡ read_file n r rest
  unfolding read_words
  says_file a b c =
      rw (told (codes "string") ∙ a, told (codes "bytes") ∙ b, told (codes "file") ∙ c)
      (ap (read_file n r) (behind (codes "file") c))

  pub says_entry :
      is (codes "string") ≡ false → is (codes "bytes") ≡ false → is (codes "file") ≡ false →
      is (codes "entry") ≡ true → read_words n r line ≡ read_entry n r rest
  unfolding read_words
  says_entry a b c d =
      rw (told (codes "string") ∙ a, told (codes "bytes") ∙ b, told (codes "file") ∙ c, told (codes "entry") ∙ d)
      (ap (read_entry n r) (behind (codes "entry") d))

  pub says_end :
      is (codes "string") ≡ false → is (codes "bytes") ≡ false → is (codes "file") ≡ false →
      is (codes "entry") ≡ false → is (codes "end") ≡ true → read_words n r line ≡ read_end r rest
  unfolding read_words
  says_end a b c d e =
      rw (
        told (codes "string") ∙ a,
        told (codes "bytes") ∙ b,
        told (codes "file") ∙ c,
        told (codes "entry") ∙ d,
        told (codes "end") ∙ e,
      )
      (ap (read_end r) (behind (codes "end") e))

  pub says_item :
      is (codes "string") ≡ false → is (codes "bytes") ≡ false → is (codes "file") ≡ false →
      is (codes "entry") ≡ false → is (codes "end") ≡ false →
      read_words n r line ≡ (if is_indented line then read_item n r line else Err Word)
  unfolding read_words
  says_item a b c d e =
      rw (
        told (codes "string") ∙ a,
        told (codes "bytes") ∙ b,
        told (codes "file") ∙ c,
        told (codes "entry") ∙ d,
        told (codes "end") ∙ e,
      )
      refl

pub ruleset words = (says_string, says_bytes, says_file, says_entry, says_end, says_item)

-- ---- the line behind the last

pub behind_newline :
    (text : List ℕ) (n m : ℕ) → n ≡ count_by is_newline text → true ≡ ends_in 10 text →
    m ≡ min (n + 1) 18446744073709551615 → n + 1 ≤ 18446744073709551615 → m ≡ line_count text + 1
unfolding line_count
behind_newline text n m e h k l = rw (sym h) (omega arith)

pub behind_rest :
    (text : List ℕ) (n m : ℕ) → n ≡ count_by is_newline text → false ≡ ends_in 10 text →
    m ≡ min (n + 2) 18446744073709551615 → n + 2 ≤ 18446744073709551615 → m ≡ line_count text + 1
unfolding line_count
behind_rest text n m e h k l = rw (sym h) (omega arith)

-- ---- one line after another

module _ (lines : List (List ℕ)) (i n : ℕ) (r : Reading) (line : List ℕ) (all : Result Reading (ℕ × Wrong)) where
  -- the rest says what is left of all
  pub lines_next :
      (j : ℕ) (after : Reading) → j ≡ i + 1 → n ≡ i + 1 → drop i lines ≡ line ∷ drop (i + 1) lines →
      line_said n r line ≡ Ok after → lines_said (i + 1) r (drop i lines) ≡ all →
      lines_said (j + 1) after (drop j lines) ≡ all
  unfolding lines_said
  lines_next j after e f d h w = rw e (sym (ap (lines_said (i + 1) r) d ∙ rw (← f, h) refl) ∙ w)

  -- a wrong line ends it, with its number
  pub lines_wrong :
      (p : Problem) (after : Reading) → n ≡ i + 1 →
      drop i lines ≡ line ∷ drop (i + 1) lines → TellsOf {A = Unit {0}} (λ u. after) (Err p) (line_said n r line) →
      lines_said (i + 1) r (drop i lines) ≡ all → TellsLines (Err (unread_of n p)) after all
  unfolding lines_said
  lines_wrong problem.Memory after f d h w = tt
  lines_wrong (problem.Wrong e) after f d h w = sym w ∙ ap (lines_said (i + 1) r) d ∙ rw (← f, h) refl

pub lines_end :
    (lines : List (List ℕ)) (i n : ℕ) (r : Reading) (all : Result Reading (ℕ × Wrong)) → length lines ≤ i →
    lines_said n r (drop i lines) ≡ all → all ≡ Ok r
unfolding lines_said
lines_end lines i n r all l w = sym w ∙ ap (lines_said n r) (drop_of_length-le lines l)
