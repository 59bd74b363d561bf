use Rattle.std.proofs.Common.{◌≡◌, drop}
use Rattle.gsym_form.specs.Form.{first_end}
use Rattle.gsym_form.proofs.form.first_end.Given as goal

-- the first of all is the first of what is left
abbrev pub invariant-loop-item : goal.invariant-loop-item
invariant-loop-item l = first_end l.items ≡ first_end (drop l.item-index l.items)
