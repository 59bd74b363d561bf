-- What holds of the layout of what can be written holds of what is written.
-- Assumes nothing.
use Rattle.std.proofs.Common.{◌≡◌, ℕ, List, ◌++◌, length, take, drop, Result, Ok, Err, sym, subst, ◌∙◌, ap}
use Rattle.std.specs.Prelude.{IfOk, OnOk}
use Rattle.std.proofs.lemmas.List.{take_at}
use Rattle.gsym_layout.specs.Given.{Given}
use Rattle.gsym_layout.specs.Layout.{layout_of}
use Rattle.gsym_layout.specs.Writable.{Typed, Writable}
use Rattle.gsym_writer.specs.Writing.{write_of}
use Rattle.gsym_writer.specs.declared.error.WriteError.{WriteError}
use Rattle.gsym_writer.proofs.Refusals.{writable}

module _ (g : Given) (room : ℕ) (old new : List ℕ) where
  pub written_says :
      (P : List ℕ → Type 0) → (Writable g → Typed g → P (layout_of g)) →
      (r : Result ℕ WriteError) → r ≡ write_of g room →
      IfOk r (λ n. (n ≡ length (layout_of g)) × (new ≡ layout_of g ++ drop n old)) → OnOk r (Typed g) →
      IfOk r (λ n. P (take n new))
  written_says P law (Ok n) e w t =
      subst P (sym (ap (take n) w.1 ∙ take_at (layout_of g) (drop n old) n (sym w.0)))
      (law (writable g room n (sym e)) t)
  written_says P law (Err x) e w t = tt
