-- No text steers a terminal, part by part.
-- Assumes nothing.
use Rattle.std.proofs.Common.{◌≡◌, ◌<◌, ◌≤◌, inl, inr, ℕ, zero, suc, ◌+◌, ◌-◌, ◌/◌, ◌%◌, Bool, true, false, ◌&&◌, ◌||◌}
use Rattle.std.proofs.Common.{not, List, [], ◌∷◌, ◌++◌, length, take, refl, arith, lt-ltb, Option, Some, None, Result}
use Rattle.std.proofs.Common.{Ok, Err}
use Rattle.std.specs.Prelude.{nat_lt, nat_le, ◌==◌, slice_index, if◌then◌else◌, codes, decimal}
use Rattle.std.specs.List.{flat_map, list_all}
use Rattle.std.proofs.lemmas.List.{append-nil}
use Rattle.std.proofs.lemmas.List.Folds.{concat-append, list_all-append}
use Rattle.std.proofs.lemmas.Bool.Decides.{nat_tests}
use Rattle.std.specs.Fmt.{digits, digits_onto, digit_glyph}
use Rattle.gsym_types.specs.declared.Answer.{Answer}
use Rattle.gsym_types.specs.declared.Position.{Position}
use Rattle.gsym_types.specs.declared.Refusal.{Refusal}
use Rattle.gsym_types.specs.declared.Refusal.TheVariants as refused
use Rattle.gsym_types.specs.Refusal.{number_of}
use Rattle.gsym_strtab.specs.Strings.{part_of}
use Rattle.gsym.specs.declared.chain.Call.{Call}
use Rattle.gsym.specs.CallOrder.{calls_in_order}
use Rattle.gsym_resolver.specs.Lookup.{LookedUp}
use Rattle.gsym_printed.specs.declared.json.Part.{Part}
use Rattle.gsym_printed.specs.declared.json.Part.TheVariants as part
use Rattle.gsym_printed.specs.declared.view.Form.{Form}
use Rattle.gsym_printed.specs.declared.view.Form.TheVariants.{Lines, Pretty, Json}
use Rattle.gsym_printed.specs.declared.view.View.{View}
use Rattle.gsym_printed.specs.Page.{joined, digit_byte, last_digits, digit_count, wide_hex, hex}
use Rattle.gsym_printed.specs.Pieces.{char_len, piece_len, is_control, is_mark, mark_number, escaped_byte}
use Rattle.gsym_printed.specs.Pieces.{escaped_piece, shown_piece, piece_text, shown_rest, shown_text}
use Rattle.gsym_printed.specs.Printed.{is_pretty, is_json, after_address, after_name, base_name, path_text, line_text}
use Rattle.gsym_printed.specs.Printed.{place_text, frame_text, outer_text, calls_text, name_of, unknown_text}
use Rattle.gsym_printed.specs.Printed.{for_each_line, refusal_line, refused_text, address_text, no_address_line}
use Rattle.gsym_printed.specs.Printed.{no_address_text}
use Rattle.gsym_printed.specs.Json.{between, quoted, json_paths, json_position, json_frame, json_outer, json_calls}
use Rattle.gsym_printed.specs.Json.{json_start, json_symbol, json_found, json_refused, json_no_address}
use Rattle.gsym_printed.specs.Words.{words, address_of}
use Rattle.gsym_printed.specs.Answers.{asked_for, lookup_for, lookup_text, json_text, answer_to, answer_text}
use Rattle.gsym_printed.specs.Answers.{answers_text}
use Rattle.gsym_printed.specs.Plain.{is_plain_byte, is_plain_piece, IsPlain, PlainTexts}
use Rattle.gsym_printed.proofs.Front.{IsFront, front}
use Rattle.gsym_printed.proofs.Newlines.{shown-unbroken, name-unbroken}

-- ---- texts after one another

pub plain_append : {s t : List ℕ} → IsPlain s → IsPlain t → IsPlain (s ++ t)
plain_append {s = s} {t = t} p q = record {
  pieces = p.pieces ++ q.pieces;
  each = rw (list_all-append is_plain_piece p.pieces q.pieces, p.each, q.each) refl;
  whole = rw (concat-append p.pieces q.pieces, p.whole, q.whole) refl;
}

infixl 60 ◌⊕◌
◌⊕◌ : {s t : List ℕ} → IsPlain s → IsPlain t → IsPlain (joined s t)
unfolding joined
p ⊕ q = plain_append p q

plain-join : {s t : List ℕ} → IsPlain s → IsPlain t → IsPlain (joined s t)
plain-join p q = p ⊕ q

pub plain-nil : IsPlain []
plain-nil = record { pieces = []; each = refl; whole = refl }

plain-piece : (p : List ℕ) → is_plain_piece p ≡ true → IsPlain p
plain-piece p e = record { pieces = p ∷ []; each = rw e refl; whole = append-nil p }

plain-byte : (b : ℕ) → is_plain_byte b ≡ true → IsPlain (b ∷ [])
unfolding is_plain_piece
plain-byte b e = plain-piece (b ∷ []) e

both : (a b : Bool) → (a && b) ≡ true → (a ≡ true) × (b ≡ true)
both true b e = (refl, e)
both false b e = absurd (cc)

plain-bytes : (s : List ℕ) → list_all is_plain_byte s ≡ true → IsPlain s
plain-bytes [] e = plain-nil
plain-bytes (b ∷ s) e =
    let h = both (is_plain_byte b) (list_all is_plain_byte s) e in
    plain_append (plain-byte b h.0) (plain-bytes s h.1)

plain-if : {a b : List ℕ} (t : Bool) → IsPlain a → IsPlain b → IsPlain (if t then a else b)
plain-if true p q = p
plain-if false p q = q

plain-cases : (t : Bool) (a b : List ℕ) → (t ≡ true → IsPlain a) → (t ≡ false → IsPlain b)
    → IsPlain (if t then a else b)
plain-cases true a b p q = p refl
plain-cases false a b p q = q refl

plain-each : {X : Type 0} (f : X → List ℕ) (xs : List X) → ((x : X) → IsPlain (f x)) → IsPlain (flat_map f xs)
plain-each f [] h = plain-nil
plain-each f (x ∷ xs) h = plain_append (h x) (plain-each f xs h)

-- ---- numbers

plain-graphic : (b : ℕ) → 32 ≤ b → b < 127 → is_plain_byte b ≡ true
plain-graphic b l m = grind (arith, nat_tests)

digit-by : (d : ℕ) (t : Bool) → nat_lt d 10 ≡ t → d < 16 → is_plain_byte (digit_byte d) ≡ true
digit-by d true e l = rw e (plain-graphic (48 + d) (omega arith) (omega (arith, l)))
digit-by d false e l = rw e (plain-graphic (87 + d) (omega arith) (omega (arith, l)))

plain-last_digits : (k n : ℕ) → IsPlain (last_digits k n)
unfolding last_digits
plain-last_digits zero n = plain-nil
plain-last_digits (suc k) n =
    plain_append (plain-last_digits k (n / 16))
    (plain-byte (digit_byte (n % 16)) (digit-by (n % 16) (nat_lt (n % 16) 10) refl (omega arith)))

plain-glyph : (d : ℕ) → d < 10 → is_plain_byte (digit_glyph false d) ≡ true
plain-glyph d l = grind (arith, nat_tests)

plain-digits : (k n : ℕ) (acc : List ℕ) → IsPlain acc → IsPlain (digits_onto k 10 false n acc)
plain-digits zero n acc p = p
plain-digits (suc k) n acc p =
    let q = plain_append (plain-byte (digit_glyph false (n % 10)) (plain-glyph (n % 10) (omega arith))) p in
    plain-if (n / 10 == 0) q (plain-digits k (n / 10) (digit_glyph false (n % 10) ∷ acc) q)

plain-decimal : (n : ℕ) → IsPlain (decimal n)
unfolding digits
plain-decimal n = plain-digits 64 n [] plain-nil

plain-wide : (n : ℕ) → IsPlain (wide_hex n)
unfolding wide_hex
plain-wide n = plain-join (plain-bytes (codes "0x") refl) (plain-last_digits 16 n)

plain-hex : (n : ℕ) → IsPlain (hex n)
unfolding hex
plain-hex n = plain-join (plain-bytes (codes "0x") refl) (plain-last_digits (digit_count 16 n) n)

-- ---- pieces

same : (n : ℕ) → (n == n) ≡ true
same n = grind (arith, nat_tests)

-- one that is no mark is plain
unmarked-byte : (p : List ℕ) → (length p == 1) ≡ true → is_mark p ≡ false → is_plain_piece p ≡ true
unfolding is_mark is_plain_piece
unmarked-byte p e m = rw (e, rw e at m) refl

unmarked-char : (p : List ℕ) → (length p == 1) ≡ false → 0 < length p → char_len p ≡ length p → is_mark p ≡ false
    → is_plain_piece p ≡ true
unfolding is_plain_piece
unmarked-char p e l c m = rw (e, lt-ltb 0 (length p) l, c, same (length p), m) refl

one-by : (p : List ℕ) → (length p == 1) ≡ false → length p ≡ 1 → is_plain_piece p ≡ true
one-by p e l = absurd (clash (rw l at e))
  where
    clash : (1 == 1) ≡ false → ⊥
    clash h = cc

unmarked-by : (p : List ℕ) (t : Bool) → (length p == 1) ≡ t → IsFront p → is_mark p ≡ false → is_plain_piece p ≡ true
unfolding IsFront
unmarked-by p true e f m = unmarked-byte p e m
unmarked-by p false e (inl g) m = one-by p e g
unmarked-by p false e (inr g) m = unmarked-char p e g.0 g.1 m

unmarked : (p : List ℕ) → IsFront p → is_mark p ≡ false → IsPlain p
unmarked p f m = plain-piece p (unmarked-by p (length p == 1) refl f m)

shown-plain : (p : List ℕ) → IsFront p → IsPlain (shown_piece p)
shown-plain p f = plain-cases (is_mark p) (codes "?") p (λ _. plain-bytes (codes "?") refl) (unmarked p f)

uncontrolled : (b : ℕ) → is_control b ≡ false → is_plain_byte b ≡ true
uncontrolled b e = rw e refl

byte-plain : (b : ℕ) → IsPlain (escaped_byte b)
unfolding escaped_byte
byte-plain b =
    plain-if (nat_le 128 b) (plain-bytes (codes "\\ufffd") refl)
    (plain-cases (is_control b) (joined (codes "\\u") (last_digits 4 b))
    (if (b == 34) || (b == 92) then joined (92 ∷ []) (b ∷ []) else b ∷ [])
    (λ _. plain-join (plain-bytes (codes "\\u") refl) (plain-last_digits 4 b))
    (λ e. plain-if ((b == 34) || (b == 92)) (plain-join (plain-byte 92 refl) (plain-byte b (uncontrolled b e)))
    (plain-byte b (uncontrolled b e))))

escaped-plain : (p : List ℕ) → IsFront p → IsPlain (escaped_piece p)
unfolding escaped_piece
escaped-plain p f =
    plain-if (length p == 1) (byte-plain (slice_index p 0))
    (plain-cases (is_mark p) (joined (codes "\\u") (last_digits 4 (mark_number p))) p
    (λ _. plain-join (plain-bytes (codes "\\u") refl) (plain-last_digits 4 (mark_number p))) (unmarked p f))

text-plain : (form : Form) (p : List ℕ) → IsFront p → IsPlain (piece_text form p)
text-plain Lines p f = shown-plain p f
text-plain Pretty p f = shown-plain p f
text-plain Json p f = escaped-plain p f

plain-after : (form : Form) (k : ℕ) (s : List ℕ) → IsPlain (shown_rest form k s)
unfolding shown_rest
plain-after form zero [] = plain-nil
plain-after form (suc k) [] = plain-nil
plain-after form zero (b ∷ s) =
    plain_append (text-plain form (take (piece_len (b ∷ s)) (b ∷ s)) (front b s))
    (plain-after form (piece_len (b ∷ s) - 1) s)
plain-after form (suc k) (b ∷ s) = plain-after form k s

pub plain-shown : (form : Form) (s : List ℕ) → IsPlain (shown_text form s)
unfolding shown_text
plain-shown form s = plain-after form 0 s

-- ---- frames

plain-after_name : (form : Form) → IsPlain (after_name form)
plain-after_name form =
    plain-if (is_pretty form) (plain-bytes (codes " at ") refl) (plain-bytes (codes "\n") refl)

plain-after_address : (form : Form) → IsPlain (after_address form)
plain-after_address form =
    plain-if (is_pretty form) (plain-bytes (codes ": ") refl) (plain-bytes (codes "\n") refl)

plain-path : (view : View) (file : List ℕ) (p : Position) → IsPlain (path_text view file p)
unfolding path_text
plain-path view file p =
    plain-if view.base_names (plain-shown view.form (base_name (part_of file p.file.place p.file.len)))
    (plain-shown view.form (part_of file p.dir.place p.dir.len)
    ⊕ plain-if (p.dir.len == 0) plain-nil (plain-bytes (codes "/") refl)
    ⊕ plain-shown view.form (part_of file p.file.place p.file.len))

plain-line : (form : Form) (line : ℕ) → IsPlain (line_text form line)
plain-line form line = plain-if (is_pretty form && (line == 0)) (plain-bytes (codes "?") refl) (plain-decimal line)

plain-place : (view : View) (file : List ℕ) (p : Option Position) → IsPlain (place_text view file p)
plain-place view file None =
    plain-if (is_pretty view.form) (plain-bytes (codes "??:?") refl) (plain-bytes (codes "??:0") refl)
plain-place view file (Some p) =
    plain-path view file p ⊕ plain-bytes (codes ":") refl ⊕ plain-line view.form p.line.0

plain-frame : (view : View) (file : List ℕ) (call : Call) → IsPlain (frame_text view file call)
unfolding frame_text
plain-frame view file call =
    plain-if view.functions
    (plain-shown view.form (part_of file call.name.place call.name.len) ⊕ plain-after_name view.form) plain-nil
    ⊕ plain-place view file call.position ⊕ plain-bytes (codes "\n") refl

plain-outer : (view : View) (file : List ℕ) (call : Call) → IsPlain (outer_text view file call)
unfolding outer_text
plain-outer view file call =
    plain-join (plain-if (is_pretty view.form) (plain-bytes (codes " (inlined by) ") refl) plain-nil)
    (plain-frame view file call)

plain-calls : (view : View) (file : List ℕ) (calls : List Call) → IsPlain (calls_text view file calls)
unfolding calls_text
plain-calls view file [] = plain-nil
plain-calls view file (c ∷ cs) =
    plain-join (plain-frame view file c)
    (plain-if view.inlines (plain-each (outer_text view file) cs (plain-outer view file)) plain-nil)

-- ---- where there is no answer

pub plain-name : (r : Refusal) → IsPlain (name_of r)
unfolding name_of
plain-name refused.UnknownAddress = plain-bytes _ refl
plain-name refused.TooFewBytes = plain-bytes _ refl
plain-name refused.WrongMagic = plain-bytes _ refl
plain-name refused.WrongVersion = plain-bytes _ refl
plain-name refused.UnreadInfo = plain-bytes _ refl
plain-name refused.UnreadName = plain-bytes _ refl
plain-name refused.UnknownFile = plain-bytes _ refl
plain-name refused.UnreadPath = plain-bytes _ refl
plain-name refused.UnreadLineHeader = plain-bytes _ refl
plain-name refused.UnreadInline = plain-bytes _ refl
plain-name refused.InlineSumTooLarge = plain-bytes _ refl
plain-name refused.CallFileTooLarge = plain-bytes _ refl
plain-name refused.TooDeep = plain-bytes _ refl
plain-name refused.TooManyFrames = plain-bytes _ refl
plain-name refused.TooWide = plain-bytes _ refl

plain-unknown : (view : View) → IsPlain (unknown_text view)
unfolding unknown_text
plain-unknown view =
    plain-join
    (plain-if view.functions
    (plain-if (is_pretty view.form) (plain-bytes (codes "?? ") refl) (plain-bytes (codes "??\n") refl)) plain-nil)
    (plain-bytes (codes "??:0\n") refl)

plain-for_each_line : {line : List ℕ} (view : View) → IsPlain line → IsPlain (for_each_line view line)
plain-for_each_line view p = plain-join (plain-if (view.functions && not (is_pretty view.form)) p plain-nil) p

plain-refusal_line : (r : Refusal) → IsPlain (refusal_line r)
unfolding refusal_line
plain-refusal_line r =
    plain-bytes (codes "?") refl ⊕ plain-decimal (number_of r) ⊕ plain-bytes (codes " ") refl ⊕ plain-name r
    ⊕ plain-bytes (codes "\n") refl

plain-refused : (view : View) (r : Refusal) → IsPlain (refused_text view r)
unfolding refused_text
plain-refused view r =
    plain-if view.refusals (plain-for_each_line view (plain-refusal_line r)) (plain-unknown view)

plain-address : (view : View) (n : ℕ) → IsPlain (address_text view n)
unfolding address_text
plain-address view n = plain-if view.addresses (plain-join (plain-wide n) (plain-after_address view.form)) plain-nil

plain-no_address_line : (view : View) (word : List ℕ) → IsPlain (no_address_line view word)
unfolding no_address_line
plain-no_address_line view word =
    plain-bytes (codes "?? '") refl ⊕ plain-shown view.form word ⊕ plain-bytes (codes "' is no address\n") refl

plain-no_address : (view : View) (word : List ℕ) → IsPlain (no_address_text view word)
unfolding no_address_text
plain-no_address view word =
    plain-join
    (plain-if view.addresses (plain-join (plain-bytes (codes "??") refl) (plain-after_address view.form)) plain-nil)
    (plain-if view.refusals (plain-for_each_line view (plain-no_address_line view word)) (plain-unknown view))

-- ---- JSON

plain-quoted : (s : List ℕ) → IsPlain (quoted s)
plain-quoted s = plain-bytes (codes "\"") refl ⊕ plain-shown Json s ⊕ plain-bytes (codes "\"") refl

plain-between : (p : Part) → IsPlain (between p)
unfolding between
plain-between part.Address = plain-bytes _ refl
plain-between part.Number = plain-bytes _ refl
plain-between part.Refusal = plain-bytes _ refl
plain-between part.EndRefusal = plain-bytes _ refl
plain-between part.Start = plain-bytes _ refl
plain-between part.Size = plain-bytes _ refl
plain-between part.Frames = plain-bytes _ refl
plain-between part.EndFrames = plain-bytes _ refl
plain-between part.Name = plain-bytes _ refl
plain-between part.Directory = plain-bytes _ refl
plain-between part.File = plain-bytes _ refl
plain-between part.Line = plain-bytes _ refl
plain-between part.EndFrame = plain-bytes _ refl
plain-between part.Comma = plain-bytes _ refl
plain-between part.NoAddress = plain-bytes _ refl
plain-between part.EndNoAddress = plain-bytes _ refl

plain-json_paths : (file : List ℕ) (p : Position) → IsPlain (json_paths file p)
unfolding json_paths
plain-json_paths file p =
    plain-between part.Directory ⊕ plain-quoted (part_of file p.dir.place p.dir.len) ⊕ plain-between part.File
    ⊕ plain-quoted (part_of file p.file.place p.file.len)

plain-json_position : (file : List ℕ) (p : Option Position) → IsPlain (json_position file p)
unfolding json_position
plain-json_position file None = plain-nil
plain-json_position file (Some p) = plain-json_paths file p ⊕ plain-between part.Line ⊕ plain-decimal p.line.0

plain-json_frame : (file : List ℕ) (call : Call) → IsPlain (json_frame file call)
unfolding json_frame
plain-json_frame file call =
    plain-between part.Name ⊕ plain-quoted (part_of file call.name.place call.name.len)
    ⊕ plain-json_position file call.position ⊕ plain-between part.EndFrame

plain-json_outer : (file : List ℕ) (call : Call) → IsPlain (json_outer file call)
unfolding json_outer
plain-json_outer file call = plain-between part.Comma ⊕ plain-json_frame file call

plain-json_calls : (file : List ℕ) (calls : List Call) → IsPlain (json_calls file calls)
unfolding json_calls
plain-json_calls file [] = plain-nil
plain-json_calls file (c ∷ cs) = plain-json_frame file c ⊕ plain-each (json_outer file) cs (plain-json_outer file)

plain-start : (n number : ℕ) → IsPlain (json_start n number)
unfolding json_start
plain-start n number =
    plain-between part.Address ⊕ plain-hex n ⊕ plain-between part.Number ⊕ plain-decimal number

plain-symbol : (a : Answer) → IsPlain (json_symbol a)
unfolding json_symbol
plain-symbol a = plain-between part.Start ⊕ plain-hex a.addr.0 ⊕ plain-between part.Size ⊕ plain-decimal a.size

plain-json_found : (file : List ℕ) (n : ℕ) (a : Answer) (calls : List Call) → IsPlain (json_found file n a calls)
unfolding json_found
plain-json_found file n a calls =
    plain-start n 0 ⊕ plain-symbol a ⊕ plain-between part.Frames ⊕ plain-json_calls file calls
    ⊕ plain-between part.EndFrames

plain-json_refused : (n : ℕ) (r : Refusal) → IsPlain (json_refused n r)
unfolding json_refused
plain-json_refused n r =
    plain-start n (number_of r) ⊕ plain-between part.Refusal ⊕ plain-name r ⊕ plain-between part.EndRefusal

plain-json_no_address : (word : List ℕ) → IsPlain (json_no_address word)
unfolding json_no_address
plain-json_no_address word =
    plain-between part.NoAddress ⊕ plain-quoted word ⊕ plain-between part.EndNoAddress

-- ---- answers

plain-lookup_text : (view : View) (file : List ℕ) (n : ℕ) (r : Result LookedUp Refusal)
    → IsPlain (lookup_text view file n r)
plain-lookup_text view file n (Ok l) =
    plain-join (plain-address view n) (plain-calls view file (calls_in_order l.answer l.frames))
plain-lookup_text view file n (Err r) = plain-join (plain-address view n) (plain-refused view r)

plain-json_text : (file : List ℕ) (n : ℕ) (r : Result LookedUp Refusal) → IsPlain (json_text file n r)
plain-json_text file n (Ok l) = plain-json_found file n l.answer (calls_in_order l.answer l.frames)
plain-json_text file n (Err r) = plain-json_refused n r

plain-to : (view : View) (file word : List ℕ) (o : Option ℕ) → IsPlain (answer_to view file word o)
plain-to view file word (Some n) =
    plain-if (is_json view.form) (plain-json_text file n (lookup_for view file (asked_for view n)))
    (plain-lookup_text view file n (lookup_for view file (asked_for view n)))
plain-to view file word None =
    plain-if (is_json view.form) (plain-json_no_address word) (plain-no_address view word)

pub plain-answer : (view : View) (file word : List ℕ) → IsPlain (answer_text view file word)
unfolding answer_text
plain-answer view file word = plain-to view file word (address_of word)

pub plain-answers : (view : View) (file input : List ℕ) → IsPlain (answers_text view file input)
plain-answers view file input = plain-each (answer_text view file) (words input) (plain-answer view file)

pub plain_texts : PlainTexts
plain_texts = record {
  answer = plain-answer;
  answers = plain-answers;
  shown = λ form s. record { plain = plain-shown form s; unbroken = shown-unbroken form s };
  refusal = λ r. record { plain = plain-name r; unbroken = name-unbroken r };
}
