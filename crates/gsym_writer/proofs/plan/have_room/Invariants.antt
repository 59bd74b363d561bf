-- The entries that are left are tested as all are.
-- Assumes nothing.
use Rattle.std.proofs.Common.{◌≡◌, ◌+◌, drop}
use Rattle.std.specs.Prelude.{nat_lt}
use Rattle.std.specs.List.{list_all}
use Rattle.gsym_writer.specs.Parts.{addresses_less}
use Rattle.gsym_writer.specs.View.{entries_view}
use Rattle.gsym_writer.proofs.plan.have_room.Given as goal

abbrev pub invariant-loop-entry : goal.invariant-loop-entry
invariant-loop-entry l =
    list_all (λ n. nat_lt n (l.most + 1)) (addresses_less l.base.0 (entries_view (drop l.entry-index l.entries)))
    ≡ list_all (λ n. nat_lt n (l.most + 1)) (addresses_less l.base.0 (entries_view l.entries))
