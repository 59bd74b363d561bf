-- What an entry says of its symbol, one test on: its sum, and its name, which reads in the file exactly where it does
-- in the string table.
-- Assumes nothing.
use Rattle.std.proofs.Common.{◌≡◌, ℕ, ◌+◌, Bool, true, false, Ok, Err, Result, Some, None, refl, sym, ◌∙◌}
use Rattle.std.proofs.Common.{leb, if◌then◌else◌}
use Rattle.gsym_types.specs.declared.Address.{Address}
use Rattle.gsym_types.specs.declared.StrOffset.{StrOffset}
use Rattle.gsym_types.specs.declared.Text.{Text}
use Rattle.gsym_inline.specs.Limits.{most_address}
use Rattle.gsym_parser.specs.View.{View}
use Rattle.gsym_parser.specs.Within.{Within}
use Rattle.gsym_parser.specs.Texts.{name_at}
use Rattle.gsym_resolver.specs.EntryData.{EntryData}
use Rattle.gsym_resolver.specs.SharedTables.{shared_tables, reads_name}
use Rattle.gsym_resolver.proofs.Shared.{name_in_tables}
use Rattle.gsym_verify.specs.Check.{has_name, data_checked, list_checked}
use Rattle.gsym_verify.specs.declared.finding.Fault.{Fault}
use Rattle.gsym_verify.specs.declared.finding.Fault.TheVariants.{SumTooLarge}

module _ (v : View) (w : Within v.file v.tables) (offset : StrOffset) where
  pub unnamed : name_at v offset ≡ None → has_name (shared_tables v).strings offset.0 ≡ false
  unfolding reads_name
  unnamed e = by-test (reads_name (shared_tables v) offset) _ (sym (name_in_tables v w offset) ∙ e)
    where
      by-test : (b : Bool) (t : Text) → (if b then Some t else None) ≡ None → b ≡ false
      by-test true t e = absurd cc
      by-test false t e = refl

  pub named : (t : Text) → name_at v offset ≡ Some t → has_name (shared_tables v).strings offset.0 ≡ true
  unfolding reads_name
  named t e = by-test (reads_name (shared_tables v) offset) _ t (sym (name_in_tables v w offset) ∙ e)
    where
      by-test : (b : Bool) (t u : Text) → (if b then Some t else None) ≡ Some u → b ≡ true
      by-test true t u e = refl
      by-test false t u e = absurd cc

-- the sum is no more than the largest address, and this is the symbol's
abbrev pub summed : (start size : ℕ) → Result Address Fault
summed start size = if leb (start + size) most_address then Ok (record { 0 = start }) else Err SumTooLarge

pub data_good :
    (strings : _) (start : ℕ) (said : EntryData) (symbol : Address) →
    summed start said.size ≡ Ok symbol → has_name strings said.name.0 ≡ true →
    list_checked symbol said.items said.closed ≡ data_checked strings start said
unfolding data_checked
data_good strings start said symbol e n = by (leb (start + said.size) most_address) refl e
  where
    by :
        (b : Bool) → leb (start + said.size) most_address ≡ b →
        (if b then Ok (record { 0 = start }) else Err SumTooLarge) ≡ Ok symbol →
        list_checked symbol said.items said.closed ≡ data_checked strings start said
    by true p e =
        let z : ◌≡◌ {A = Address} (record { 0 = start }) symbol = cc in
        rw (p, n, ← z) refl
    by false p e = absurd cc
