-- `gsym_strtab::utf8::is_utf8` meets its contract. The invariant: all bytes are UTF-8 where those from `i` on are.
-- Assumes nothing.
use Rattle.std.proofs.Common.{ℕ, ◌+◌, List, ◌≡◌, refl, sym, ◌∙◌, drop, arith}
use Rattle.gsym_strtab.specs.Utf8.{range, utf8}
use Rattle.gsym_strtab.specs.Steps.{run_len}
use Rattle.gsym_strtab.proofs.Chars.{utf8-none, utf8-next, utf8-done, char-fits}
use Rattle.gsym_strtab.proofs.Runs.{utf8-run}
use Rattle.gsym_strtab.proofs.Scalars.{as-scalars}
use Rattle.gsym_strtab.proofs.utf8.is_utf8.Goals as goal

-- the run may be left out
past : (s : List ℕ) (i : ℕ) {j : ℕ} → utf8 s ≡ utf8 (drop i s) → j ≡ i + run_len (range 1 0x7f) (drop i s) →
    utf8 s ≡ utf8 (drop j s)
past s i h e = h ∙ utf8-run s i _ e

pub returns-then-s-j : goal.returns-then-s-j
returns-then-s-j c =
    let e = sym (past _ _ c.loop-i.invariant c.run_end-j.ensures ∙ utf8-done _ _ c.if-s-j.true) in
    record { exact = e; scalars = as-scalars _ _ e }

pub returns-in_default : goal.returns-in_default
returns-in_default c =
    let e =
    sym (past _ _ c.loop-i.invariant c.run_end-j.ensures
    ∙ utf8-none _ _ c.if-s-j.false _ c.in_default.ensures.none refl) in
    record { exact = e; scalars = as-scalars _ _ e }

pub overflow_add-i : goal.overflow_add-i
overflow_add-i c = omega (arith, char-fits _ _ c.if-s-j.false _ c.in-Some.ensures.some.0 c.in-Some.ensures.some.1)

pub loop-i-preserved : goal.loop-i-preserved
loop-i-preserved c =
    past _ _ c.loop-i.invariant c.run_end-j.ensures
    ∙ utf8-next _ _ c.if-s-j.false _ c.in-Some.ensures.some.0 c.in-Some.ensures.some.1

pub returns : goal.returns
returns c =
    let e = sym (c.loop-i.invariant ∙ utf8-done _ _ c.loop-i-test.false) in
    record { exact = e; scalars = as-scalars _ _ e }
