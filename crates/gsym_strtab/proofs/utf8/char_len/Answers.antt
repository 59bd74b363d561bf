-- `gsym_strtab::utf8::char_len` meets its contract: each way out is a law of the bytes judged so far
-- (proofs/Chars.antt).
-- Assumes nothing.
use Rattle.std.proofs.Common.{ℕ, ◌+◌, ◌-◌, ◌≤◌, ◌<◌, Bool, true, List, length, get_or, ◌≡◌, sym, ◌∙◌, arith}
use Rattle.gsym_strtab.specs.Utf8.{within, tail, sequence_len}
use Rattle.gsym_strtab.specs.Steps.{second}
use Rattle.gsym_strtab.proofs.Chars.{Lead, Twos, Threes, one-is, cut, second-wrong, two-are, two-wrong}
use Rattle.gsym_strtab.proofs.Chars.{third-wrong, three-are, fourth-wrong, four_are}
use Rattle.gsym_strtab.proofs.utf8.char_len.Goals as goal

module _ {s : List ℕ} {i n : ℕ} where
  lead : i < length s → get_or s i 0 < 256 → n ≡ sequence_len (get_or s i 0) → Lead s i n
  lead h b e = record { inside = h; byte = b; sequence = e }

  twos : Lead s i n → 2 ≤ n → n ≤ length s - i →
      (t : Bool) → t ≡ within (second (get_or s i 0)) (get_or s (i + 1) 0) → t ≡ true → Twos s i n
  twos h k l t e f = record { lead = h; several = k; room = l; second_is = sym e ∙ f }

  threes : Twos s i n → 3 ≤ n → (t : Bool) → t ≡ within tail (get_or s (i + 2) 0) → t ≡ true → Threes s i n
  threes h k t e f = record { twos = h; more = k; third-is = sym e ∙ f }

pub returns-then-n-eq0-clause-none : goal.returns-then-n-eq0-clause-none
returns-then-n-eq0-clause-none c =
    let l : Lead c.args.s.now c.args.at c.from-n.result =
    lead c.requires (omega arith) (c.from-n.ensures ∙ c.sequence_len.ensures) in
    sym c.if-n-eq0.true ∙ one-is l (omega arith)

pub returns-then-n-lt2-clause-some : goal.returns-then-n-lt2-clause-some
returns-then-n-lt2-clause-some c =
    let l : Lead c.args.s.now c.args.at c.from-n.result =
    lead c.requires (omega arith) (c.from-n.ensures ∙ c.sequence_len.ensures) in
    (one-is l c.if-n-lt2.true, c.if-n-eq0.false)

pub returns-then-s-at-clause-none : goal.returns-then-s-at-clause-none
returns-then-s-at-clause-none c =
    let l : Lead c.args.s.now c.args.at c.from-n.result =
    lead c.requires (omega arith) (c.from-n.ensures ∙ c.sequence_len.ensures) in
    cut l c.if-n-lt2.false (omega arith)

pub returns-then-not-is_second-clause-none : goal.returns-then-not-is_second-clause-none
returns-then-not-is_second-clause-none c =
    let l : Lead c.args.s.now c.args.at c.from-n.result =
    lead c.requires (omega arith) (c.from-n.ensures ∙ c.sequence_len.ensures) in
    second-wrong l c.if-n-lt2.false (omega arith)
    (sym c.is_second.ensures ∙ c.if-not-is_second.true)

pub returns-then-follows-clause-some : goal.returns-then-follows-clause-some
returns-then-follows-clause-some c =
    let l : Lead c.args.s.now c.args.at c.from-n.result =
    lead c.requires (omega arith) (c.from-n.ensures ∙ c.sequence_len.ensures) in (
      two-are l c.if-n-lt2.false c.if-n-lt3.true (omega arith) (sym c.is_tail-follows.ensures ∙ c.if-follows.true),
      λ z. absurd (omega arith),
    )

pub returns-else-follows-clause-none : goal.returns-else-follows-clause-none
returns-else-follows-clause-none c =
    let l : Lead c.args.s.now c.args.at c.from-n.result =
    lead c.requires (omega arith) (c.from-n.ensures ∙ c.sequence_len.ensures) in
    two-wrong l c.if-n-lt2.false c.if-n-lt3.true (omega arith) (sym c.is_tail-follows.ensures ∙ c.if-follows.false)

pub returns-then-not-is_tail-clause-none : goal.returns-then-not-is_tail-clause-none
returns-then-not-is_tail-clause-none c =
    let l : Lead c.args.s.now c.args.at c.from-n.result =
    lead c.requires (omega arith) (c.from-n.ensures ∙ c.sequence_len.ensures) in
    let t = twos l c.if-n-lt2.false (omega arith) _ c.is_second.ensures c.if-not-is_second.false in
    third-wrong t c.if-n-lt3.false
    (sym c.is_tail.ensures ∙ c.if-not-is_tail.true)

pub returns-then-n-lt4-clause-some : goal.returns-then-n-lt4-clause-some
returns-then-n-lt4-clause-some c =
    let l : Lead c.args.s.now c.args.at c.from-n.result =
    lead c.requires (omega arith) (c.from-n.ensures ∙ c.sequence_len.ensures) in
    let t = twos l c.if-n-lt2.false (omega arith) _ c.is_second.ensures c.if-not-is_second.false in
    let h = threes t c.if-n-lt3.false _ c.is_tail.ensures c.if-not-is_tail.false in
    (three-are h c.if-n-lt4.true, λ z. absurd (omega arith))

pub returns-then-not-is_tail-2-clause-none : goal.returns-then-not-is_tail-2-clause-none
returns-then-not-is_tail-2-clause-none c =
    let l : Lead c.args.s.now c.args.at c.from-n.result =
    lead c.requires (omega arith) (c.from-n.ensures ∙ c.sequence_len.ensures) in
    let t = twos l c.if-n-lt2.false (omega arith) _ c.is_second.ensures c.if-not-is_second.false in
    let h = threes t c.if-n-lt3.false _ c.is_tail.ensures c.if-not-is_tail.false in
    fourth-wrong h c.if-n-lt4.false
    (sym c.is_tail-2.ensures ∙ c.if-not-is_tail-2.true)

pub returns-clause-some : goal.returns-clause-some
returns-clause-some c =
    let l : Lead c.args.s.now c.args.at c.from-n.result =
    lead c.requires (omega arith) (c.from-n.ensures ∙ c.sequence_len.ensures) in
    let t = twos l c.if-n-lt2.false (omega arith) _ c.is_second.ensures c.if-not-is_second.false in
    let h = threes t c.if-n-lt3.false _ c.is_tail.ensures c.if-not-is_tail.false in (
      four_are h c.if-n-lt4.false
          (sym c.is_tail-2.ensures ∙ c.if-not-is_tail-2.false),
      λ z. absurd (omega arith),
    )
