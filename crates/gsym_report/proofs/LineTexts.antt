-- The lines of a report, an address after the other and a name after the other.
-- Assumes nothing.
use Rattle.std.proofs.Common.{◌≡◌, ℕ, suc, ◌+◌, ◌<◌, ◌≤◌, Bool, true, false, List, [], ◌∷◌, ◌++◌, length, drop}
use Rattle.std.proofs.Common.{get_or, map, take, cond, not, subst, refl, sym, ap, ◌∙◌, arith, add-one}
use Rattle.std.specs.List.{flat_map, enumerate_from, count_by}
use Rattle.std.proofs.lemmas.Grind.{flat_map-append}
use Rattle.std.proofs.lemmas.List.Folds.{flat_map-map}
use Rattle.std.proofs.Common.{drop-cons}
use Rattle.std.proofs.Math.ListN.{drop_of_length-le}
use Rattle.std.specs.Prelude.{if◌then◌else◌}
use Rattle.std.specs.Int.{from_bool}
use Rattle.std.proofs.lemmas.List.Sums.{sum_by-cons}
use Rattle.std.proofs.Common.{codes, Option, Ok}
use Rattle.std.specs.Io.KnownBytes.{Appends}
use Rattle.gsym_output.specs.Writing.{AppendsFront}
use Rattle.gsym_output.proofs.Fronts.{Leads, leads_on, leads_cut, leads_end}
use Rattle.gsym_types.specs.declared.Address.{Address}
use Rattle.gsym_types.specs.declared.Answer.{Answer}
use Rattle.gsym_types.specs.declared.Frame.{Frame}
use Rattle.gsym.specs.CallOrder.{calls_in_order}
use Rattle.gsym_report.specs.Report.{said_of}
use Rattle.gsym.specs.declared.chain.Call.{Call}
use Rattle.gsym_output.specs.Lines.{ended, text_of}
use Rattle.gsym_report.specs.Report.{line_of, lines_of, shown_name, name_in, lookup_for, is_refused}
use Rattle.gsym_report.specs.Report.{is_control, plain_len}

-- the text of the addresses from one on, which has this number
abbrev pub text_from : List ℕ → ℕ → List Address → List ℕ
text_from file index addresses = text_of (flat_map (λ p. lines_of file p.0 p.1) (enumerate_from index addresses))

pub text-cons : (file : List ℕ) (index : ℕ) (a : Address) (addresses : List Address)
    → text_from file index (a ∷ addresses) ≡ text_of (lines_of file index a) ++ text_from file (index + 1) addresses
text-cons file index a addresses =
    flat_map-append ended (lines_of file index a)
    (flat_map (λ p. lines_of file p.0 p.1) (enumerate_from (index + 1) addresses))

-- an address more
pub drop-next : {X : Type 0} (xs : List X) (i : ℕ) (d : X) → i < length xs
    → drop i xs ≡ get_or xs i d ∷ drop (i + 1) xs
drop-next xs i d l = drop-cons xs i d l ∙ ap (λ k. get_or xs i d ∷ drop k xs) (sym (add-one i))

pub text-drop : (file : List ℕ) (addresses : List Address) (i : ℕ) (d : Address) → i < length addresses
    → text_from file i (drop i addresses)
    ≡ text_of (lines_of file i (get_or addresses i d)) ++ text_from file (i + 1) (drop (i + 1) addresses)
text-drop file addresses i d l =
    ap (text_from file i) (drop-next addresses i d l)
    ∙ text-cons file i (get_or addresses i d) (drop (i + 1) addresses)

pub text-end : (file : List ℕ) (addresses : List Address) (i : ℕ) → length addresses ≤ i
    → text_from file i (drop i addresses) ≡ []
text-end file addresses i l = rw (drop_of_length-le addresses l) refl

one-or-none : (b : Bool) → cond b 1 0 ≡ from_bool b
one-or-none true = refl
one-or-none false = refl

-- how many of the addresses from one on, which has this number, are refused
abbrev pub refused_from : List ℕ → ℕ → List Address → ℕ
refused_from file index addresses =
    count_by is_refused (map (λ p. lookup_for file p.0 p.1) (enumerate_from index addresses))

pub refused-drop : (file : List ℕ) (addresses : List Address) (i : ℕ) (d : Address) → i < length addresses
    → refused_from file i (drop i addresses)
    ≡ from_bool (is_refused (lookup_for file i (get_or addresses i d)))
    + refused_from file (i + 1) (drop (i + 1) addresses)
refused-drop file addresses i d l =
    ap (refused_from file i) (drop-next addresses i d l)
    ∙ sum_by-cons (λ found. cond (is_refused found) 1 0) (lookup_for file i (get_or addresses i d))
    (map (λ p. lookup_for file p.0 p.1) (enumerate_from (i + 1) (drop (i + 1) addresses)))
    ∙ ap (λ n. n + refused_from file (i + 1) (drop (i + 1) addresses))
    (one-or-none (is_refused (lookup_for file i (get_or addresses i d))))

pub refused-end : (file : List ℕ) (addresses : List Address) (i : ℕ) → length addresses ≤ i
    → refused_from file i (drop i addresses) ≡ 0
refused-end file addresses i l = rw (drop_of_length-le addresses l) refl

pub counted-more : (file : List ℕ) (addresses : List Address) (i counted more : ℕ) (a : Address)
    → i < length addresses
    → counted + refused_from file i (drop i addresses) ≡ refused_from file 0 addresses
    → more ≡ from_bool (is_refused (lookup_for file i (get_or addresses i a)))
    → counted + more + refused_from file (i + 1) (drop (i + 1) addresses) ≡ refused_from file 0 addresses
counted-more file addresses i counted more a l h e =
    omega (arith, h, e, refused-drop file addresses i a l)

pub bool-most : (b : Bool) → from_bool b ≤ 1
bool-most true = omega arith
bool-most false = omega arith

-- the lines of calls, one after the other, are those of what is said
pub calls_text : (file : List ℕ) (index : ℕ) (calls : List Call)
    → flat_map (λ call. ended (line_of index (shown_name (name_in file call)))) calls
    ≡ text_of (map (line_of index) (map (λ call. shown_name (name_in file call)) calls))
calls_text file index calls =
    sym (flat_map-map ended (line_of index) (map (λ call. shown_name (name_in file call)) calls)
    ∙ flat_map-map (λ said. ended (line_of index said)) (λ call. shown_name (name_in file call)) calls)

-- and those of an address that is found
pub found_text : (file : List ℕ) (index : ℕ) (a : Address) (answer : Answer) (frames : List Frame) (calls : List Call)
    → calls ≡ calls_in_order answer frames
    → Ok (record { answer = answer; frames = frames }) ≡ lookup_for file index a
    → flat_map (λ call. ended (line_of index (shown_name (name_in file call)))) calls
    ≡ text_of (lines_of file index a)
found_text file index a answer frames calls e h =
    calls_text file index calls
    ∙ ap (λ cs. text_of (map (line_of index) (map (λ call. shown_name (name_in file call)) cs))) e
    ∙ ap (λ found. text_of (map (line_of index) (said_of file found))) h

-- ---- a name, up to its first control byte and from there on

pub split-plain : (s : List ℕ) → shown_name s ≡ take (plain_len s) s ++ shown_name (drop (plain_len s) s)
split-plain [] = refl
split-plain (b ∷ s) = by (is_control b) refl (split-plain s)
  where
    split : ℕ → Type 0
    split n = shown_name (b ∷ s) ≡ take n (b ∷ s) ++ shown_name (drop n (b ∷ s))

    by : (c : Bool) → is_control b ≡ c → shown_name s ≡ take (plain_len s) s ++ shown_name (drop (plain_len s) s)
        → split (plain_len (b ∷ s))
    by true e k = subst split (sym (ap (λ c. cond (not c) (1 + plain_len s) 0) e)) refl
    by false e k =
        let o : 1 + plain_len s ≡ suc (plain_len s) = omega arith in
        let n : plain_len (b ∷ s) ≡ suc (plain_len s) = ap (λ c. cond (not c) (1 + plain_len s) 0) e ∙ o in
        let f : shown_name (b ∷ s) ≡ b ∷ shown_name s = ap (λ c. (if c then 63 else b) ∷ shown_name s) e in
        subst split (sym n) (f ∙ ap (λ t. b ∷ t) k)

pub first-control : (s : List ℕ) (b : ℕ) (bs : List ℕ) → drop (plain_len s) s ≡ b ∷ bs → is_control b ≡ true
first-control [] b bs h = absurd (no-bytes h)
  where
    no-bytes : [] ≡ b ∷ bs → ⊥
    no-bytes e = omega (arith, ap length e)
first-control (a ∷ s) b bs h = by (is_control a) refl h (first-control s b bs)
  where
    by : (c : Bool) → is_control a ≡ c → drop (plain_len (a ∷ s)) (a ∷ s) ≡ b ∷ bs
        → (drop (plain_len s) s ≡ b ∷ bs → is_control b ≡ true) → is_control b ≡ true
    by true e k r = ap is_control (sym (ap (λ t. get_or t 0 b) (rw e at k))) ∙ e
    by false e k r =
        let o : 1 + plain_len s ≡ suc (plain_len s) = omega arith in
        r (rw o at (rw e at k))

pub shown-control : (b : ℕ) (bs : List ℕ) → is_control b ≡ true → shown_name (b ∷ bs) ≡ (63 ∷ []) ++ shown_name bs
shown-control b bs e = rw e refl

split-at : (rest plain from : List ℕ) (n : ℕ) → n ≡ plain_len rest → plain ≡ take n rest → from ≡ drop n rest
    → shown_name rest ≡ plain ++ shown_name from
split-at rest plain from n e p q = rw (p, q, e) (split-plain rest)

mark-at : (rest from behind : List ℕ) (n control : ℕ) → n ≡ plain_len rest → from ≡ drop n rest
    → from ≡ control ∷ behind → shown_name from ≡ codes "?" ++ shown_name behind
mark-at rest from behind n control e q h =
    ap shown_name h
    ∙ shown-control control behind (first-control rest control behind (ap (λ k. drop k rest) (sym e) ∙ sym q ∙ h))

-- the bytes before it were written, or a front of them
pub name_plain : (a b c : Option (List ℕ)) (name rest plain from : List ℕ) (n : ℕ)
    → Leads a b (shown_name rest) (shown_name name) → n ≡ plain_len rest → plain ≡ take n rest → from ≡ drop n rest
    → Appends b c plain → Leads a c (shown_name from) (shown_name name)
name_plain a b c name rest plain from n l e p q w =
    leads_on a b c plain (shown_name from) (shown_name rest) (shown_name name) l (split-at rest plain from n e p q) w

pub name_cut : (a b c : Option (List ℕ)) (name rest plain from : List ℕ) (n : ℕ)
    → Leads a b (shown_name rest) (shown_name name) → n ≡ plain_len rest → plain ≡ take n rest → from ≡ drop n rest
    → AppendsFront b c plain → AppendsFront a c (shown_name name)
name_cut a b c name rest plain from n l e p q w =
    leads_cut a b c plain (shown_name from) (shown_name rest) (shown_name name) l (split-at rest plain from n e p q) w

-- a question mark was written for it, or nothing
pub name_mark : (a b c : Option (List ℕ)) (name rest from behind : List ℕ) (n control : ℕ)
    → Leads a b (shown_name from) (shown_name name) → n ≡ plain_len rest → from ≡ drop n rest
    → from ≡ control ∷ behind → Appends b c (codes "?") → Leads a c (shown_name behind) (shown_name name)
name_mark a b c name rest from behind n control l e q h w =
    leads_on a b c (codes "?") (shown_name behind) (shown_name from) (shown_name name) l
    (mark-at rest from behind n control e q h) w

pub name_mark_cut : (a b c : Option (List ℕ)) (name rest from behind : List ℕ) (n control : ℕ)
    → Leads a b (shown_name from) (shown_name name) → n ≡ plain_len rest → from ≡ drop n rest
    → from ≡ control ∷ behind → AppendsFront b c (codes "?") → AppendsFront a c (shown_name name)
name_mark_cut a b c name rest from behind n control l e q h w =
    leads_cut a b c (codes "?") (shown_name behind) (shown_name from) (shown_name name) l
    (mark-at rest from behind n control e q h) w

pub name_end : (a b : Option (List ℕ)) (name from : List ℕ) → Leads a b (shown_name from) (shown_name name)
    → length from ≡ 0 → Appends a b (shown_name name)
name_end a b name [] l e = leads_end a b [] (shown_name name) l refl
name_end a b name (x ∷ from) l e = absurd (omega (arith, e))
