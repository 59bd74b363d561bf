-- No control byte is in a line of a report; and what its lines are of.
-- Assumes nothing.
use Rattle.std.proofs.Common.{◌≡◌, ◌≢◌, ℕ, zero, suc, ◌+◌, ◌/◌, ◌%◌, ◌<◌, Bool, true, false, List, [], ◌∷◌}
use Rattle.std.proofs.Common.{◌++◌, length, map, reverse, Result, Ok, Err, All, codes, decimal, refl, ap}
use Rattle.std.proofs.Common.{◌∙◌, append-nil, arith}
use Rattle.std.specs.Prelude.{◌==◌, if◌then◌else◌}
use Rattle.std.specs.List.{flat_map, enumerate_from}
use Rattle.std.specs.Fmt.{digits, digits_onto, digit_glyph}
use Rattle.std.proofs.lemmas.Bool.Decides.{nat_tests}
use Rattle.std.proofs.lemmas.Grind.{flat_map-append}
use Rattle.std.proofs.lemmas.List.Elements.{All-nil, All-cons, All-append, All-map, All-weaker}
use Rattle.gsym_types.specs.declared.Address.{Address}
use Rattle.gsym_types.specs.declared.Refusal.{Refusal}
use Rattle.gsym_types.specs.Refusal.{number_of}
use Rattle.gsym_resolver.specs.Lookup.{LookedUp}
use Rattle.gsym.specs.declared.chain.Call.{Call}
use Rattle.gsym.specs.CallOrder.{calls_in_order, record_call, symbol_call}
use Rattle.gsym_report.specs.Laws.{IsPlain}
use Rattle.gsym_report.specs.Report.{is_control, shown_byte, shown_name, name_in, refusal_said, said_of, line_of}
use Rattle.gsym_report.specs.Report.{lines_of}
use Rattle.gsym_output.specs.Lines.{text_of, ended}
use Rattle.gsym_report.specs.Report.{lookup_for, report_lines, report_of}

-- ---- bytes

all-each : {X Y : Type 0} (P : Y → Type 0) (f : X → List Y) (xs : List X) → ((x : X) → All P (f x))
    → All P (flat_map f xs)
all-each P f [] h = All-nil P
all-each P f (x ∷ xs) h = All-append P (f x) (flat_map f xs) (h x) (all-each P f xs h)

all-of : {X : Type 0} (P : X → Type 0) (xs : List X) → ((x : X) → P x) → All P xs
all-of P [] h = All-nil P
all-of P (x ∷ xs) h = All-cons P x xs (h x) (all-of P xs h)

shown-by : (b : ℕ) (c : Bool) → is_control b ≡ c → is_control (if c then 63 else b) ≡ false
shown-by b true e = refl
shown-by b false e = e

shown : (name : List ℕ) → IsPlain (shown_name name)
shown name =
    All-map (λ b. is_control b ≡ false) shown_byte name
    (all-of (λ b. is_control (shown_byte b) ≡ false) name (λ b. shown-by b (is_control b) refl))

glyph : (d : ℕ) → d < 10 → is_control (digit_glyph false d) ≡ false
glyph d l = grind (arith, nat_tests)

plain-digits : (k n : ℕ) (acc : List ℕ) → IsPlain acc → IsPlain (digits_onto k 10 false n acc)
plain-digits zero n acc p = p
plain-digits (suc k) n acc p =
    by (n / 10 == 0) (plain-digits k (n / 10) (digit_glyph false (n % 10) ∷ acc) more)
  where
    more : IsPlain (digit_glyph false (n % 10) ∷ acc)
    more = All-cons (λ b. is_control b ≡ false) (digit_glyph false (n % 10)) acc (glyph (n % 10) (omega arith)) p

    rest : List ℕ
    rest = digits_onto k 10 false (n / 10) (digit_glyph false (n % 10) ∷ acc)

    by : (b : Bool) → IsPlain rest → IsPlain (if b then digit_glyph false (n % 10) ∷ acc else rest)
    by true q = more
    by false q = q

plain-decimal : (n : ℕ) → IsPlain (decimal n)
unfolding digits
plain-decimal n = plain-digits 64 n [] (All-nil (λ b. is_control b ≡ false))

-- ---- lines

plain-said : (index : ℕ) (said : List ℕ) → IsPlain said → IsPlain (line_of index said)
plain-said index said p =
    All-append (λ b. is_control b ≡ false) (decimal index ++ codes " ") said
    (All-append (λ b. is_control b ≡ false) (decimal index) (codes " ") (plain-decimal index)
    (All-cons (λ b. is_control b ≡ false) 32 [] refl (All-nil (λ b. is_control b ≡ false)))) p

plain-refusal : (r : Refusal) → IsPlain (refusal_said r)
plain-refusal r = All-cons (λ b. is_control b ≡ false) 63 (decimal (number_of r)) refl (plain-decimal (number_of r))

plain-found : (file : List ℕ) (found : Result LookedUp Refusal) → All IsPlain (said_of file found)
plain-found file (Ok l) =
    All-map IsPlain (λ call. shown_name (name_in file call)) (calls_in_order l.answer l.frames)
    (all-of (λ call. IsPlain (shown_name (name_in file call))) (calls_in_order l.answer l.frames)
    (λ call. shown (name_in file call)))
plain-found file (Err r) = All-cons IsPlain (refusal_said r) [] (plain-refusal r) (All-nil IsPlain)

all-more : {X Y : Type 0} (P : Y → Type 0) (Q : X → Type 0) (f : X → Y) (xs : List X) → ((x : X) → Q x → P (f x))
    → All Q xs → All P (map f xs)
all-more P Q f xs h a = All-map P f xs (All-weaker Q (λ x. P (f x)) h xs a)

pub plain-lines : (file : List ℕ) (addresses : List Address) → All IsPlain (report_lines file addresses)
plain-lines file addresses =
    all-each IsPlain (λ p. lines_of file p.0 p.1) (enumerate_from 0 addresses)
    (λ p. all-more IsPlain IsPlain (line_of p.0) (said_of file (lookup_for file p.0 p.1)) (plain-said p.0)
    (plain-found file (lookup_for file p.0 p.1)))

-- ---- each address has its lines

pub not-zero : (n : ℕ) → 0 < n → (n == 0) ≡ false
not-zero n l = grind (arith, nat_tests)

calls-there : (file : List ℕ) (index : ℕ) (calls : List Call) (last : Call)
    → map (line_of index) (map (λ call. shown_name (name_in file call)) (calls ++ last ∷ [])) ≢ []
calls-there file index [] last e = absurd cc
calls-there file index (c ∷ calls) last e = absurd cc

pub answered : (file : List ℕ) (index : ℕ) (a : Address) → lines_of file index a ≢ []
answered file index a = by (lookup_for file index a)
  where
    by : (found : Result LookedUp Refusal) → map (line_of index) (said_of file found) ≢ []
    by (Ok l) e = calls-there file index (map record_call (reverse l.frames)) (symbol_call l.answer) e
    by (Err r) e = absurd cc

enumerate-more : (i : ℕ) (addresses : List Address) (a : Address)
    → enumerate_from i (addresses ++ a ∷ []) ≡ enumerate_from i addresses ++ (i + length addresses, a) ∷ []
enumerate-more i [] a = ap (λ n. (n, a) ∷ []) (omega arith)
enumerate-more i (x ∷ addresses) a =
    let n : i + 1 + length addresses ≡ i + suc (length addresses) = omega arith in
    ap (λ ps. (i, x) ∷ ps)
    (enumerate-more (i + 1) addresses a ∙ ap (λ n. enumerate_from (i + 1) addresses ++ (n, a) ∷ []) n)

pub more : (file : List ℕ) (addresses : List Address) (a : Address)
    → report_of file (addresses ++ a ∷ [])
    ≡ report_of file addresses ++ text_of (lines_of file (length addresses) a)
more file addresses a =
    ap (λ ps. text_of (flat_map lines ps)) (enumerate-more 0 addresses a)
    ∙ ap text_of (flat_map-append lines (enumerate_from 0 addresses) ((0 + length addresses, a) ∷ []))
    ∙ flat_map-append ended (flat_map lines (enumerate_from 0 addresses))
    (flat_map lines ((0 + length addresses, a) ∷ []))
    ∙ ap (λ n. report_of file addresses ++ text_of n) (last (0 + length addresses) (omega arith))
  where
    lines : ℕ × Address → List (List ℕ)
    lines p = lines_of file p.0 p.1

    last : (n : ℕ) → n ≡ length addresses → flat_map lines ((n, a) ∷ []) ≡ lines_of file (length addresses) a
    last n e = append-nil (lines_of file n a) ∙ ap (λ k. lines_of file k a) e
